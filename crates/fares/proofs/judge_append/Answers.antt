-- Each way out is a step of the rule.
use mathlib.Core.Bool.{not}
use mathlib.Core.Path.{ap}
use Rattle.rules.specs.Operation.{operation}
use Rattle.laws.proofs.Calls.{stopped, passed_by, gone_on, handed_out}
use Rattle.fares.proofs.Judging.{content_sound, room_told}
use Rattle.fares.proofs.judge_append.Goals as goal

pub returns-in_err-refuse_if : goal.returns-in_err-refuse_if
unfolding operation
returns-in_err-refuse_if c = λ d see e. handed_out _ _ _ c.from_residual.ensures.1 (stopped _ _ _ _ _ (ap not c.is_queue.ensures) c.in_err-refuse_if.ensures)

pub returns-in_err-refuse_if-2 : goal.returns-in_err-refuse_if-2
unfolding operation
returns-in_err-refuse_if-2 c = λ d see e. handed_out _ _ _ c.from_residual-in_err-refuse_if-2.ensures.1
    (gone_on _ _ _ _ _ (ap not c.is_queue.ensures) c.in_ok-refuse_if.ensures
    (stopped _ _ _ _ _ (room_told c.args.object.now d _ e _ _ c.used.ensures.value c.maximum.ensures.value _ c.fits-fits.ensures) c.in_err-refuse_if-2.ensures))

pub next_number-number-requires : goal.next_number-number-requires
next_number-number-requires c = content_sound _ _ _ c.content.ensures.allowed c.is_queue.ensures (passed_by _ _ c.in_ok-refuse_if.ensures) c.content.ensures.bytes

pub returns : goal.returns
unfolding operation
returns c = λ d see e.
    gone_on _ _ _ _ _ (ap not c.is_queue.ensures) c.in_ok-refuse_if.ensures
    (gone_on _ _ _ _ _ (room_told c.args.object.now d _ e _ _ c.used.ensures.value c.maximum.ensures.value _ c.fits-fits.ensures) c.in_ok-refuse_if-2.ensures
    (rw (← c.content.ensures.bytes, ← c.next_number-number.ensures) c.refuse_if-3.ensures))
