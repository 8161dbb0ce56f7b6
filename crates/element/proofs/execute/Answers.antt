-- `element::execute` meets its contract.
use Rattle.element.proofs.Whole.{too_small, early_passes, early_refused, step_by}
use borrow.Author.Rules.{rules}
use Rattle.element.proofs.execute.Goals as goal

pub returns-then-room-lt4 : goal.returns-then-room-lt4
returns-then-room-lt4 c = search too_small

pub carry_out-requires : goal.carry_out-requires
carry_out-requires c = (search early_passes, search rules)

pub returns-in-Err : goal.returns-in-Err
returns-in-Err c = search early_refused

pub returns-in-Ok : goal.returns-in-Ok
returns-in-Ok c = search step_by
