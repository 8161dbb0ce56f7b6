-- Each action's own verdict; a write that erases is judged as one that does not.
use Rattle.rules.specs.Operation.{operation}
use Rattle.judge.proofs.Judging.{own_by, fitting_told}
use Rattle.rules.specs.Chain.{◌and_then◌}
use Rattle.judge.proofs.judge_own.Goals as goal

pub returns-in-GetMetadata : goal.returns-in-GetMetadata
unfolding operation ◌and_then◌
returns-in-GetMetadata c = own_by _ _ _ _ _ _ c.in-GetMetadata.is (fitting_told _ _ _ _ c.answer_length.ensures c.fitting.ensures)

pub returns-in-EraseAndWrite : goal.returns-in-EraseAndWrite
unfolding operation
returns-in-EraseAndWrite c = own_by _ _ _ _ _ _ c.in-EraseAndWrite.is c.judge_write-in-EraseAndWrite.ensures
