-- Each way out is a step of the rule.
use mathlib.Core.Bool.{not}
use mathlib.Core.Path.{ap}
use Rattle.rules.specs.Operation.{operation}
use Rattle.laws.proofs.Calls.{stopped, passed_by, gone_on, handed_out}
use Rattle.fares.proofs.Judging.{content_sound}
use Rattle.fares.proofs.judge_acknowledge.Goals as goal

pub returns-in_err-refuse_if : goal.returns-in_err-refuse_if
unfolding operation
returns-in_err-refuse_if c = λ d see e. handed_out _ _ _ c.from_residual.ensures.1 (stopped _ _ _ _ _ (ap not c.is_queue.ensures) c.in_err-refuse_if.ensures)

pub is_present-present-requires : goal.is_present-present-requires
is_present-present-requires c = content_sound _ _ _ c.content.ensures.allowed c.is_queue.ensures (passed_by _ _ c.in_ok-refuse_if.ensures) c.content.ensures.bytes

pub returns : goal.returns
unfolding operation
returns c = λ d see e.
    gone_on _ _ _ _ _ (ap not c.is_queue.ensures) c.in_ok-refuse_if.ensures (rw (e, ← c.content.ensures.bytes, ← c.is_present-present.ensures) c.refuse_if-2.ensures)
