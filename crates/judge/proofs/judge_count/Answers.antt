-- A counter, its front, a value below its threshold.
use mathlib.Core.Bool.{not}
use mathlib.Core.Path.{ap}
use Rattle.rules.specs.Operation.{operation}
use Rattle.laws.proofs.Calls.{passed_by, handed_out}
use Rattle.judge.proofs.Judging.{stopped_own, gone_on_own, nothing_more, front_told, counter_told}
use Rattle.judge.proofs.judge_count.Goals as goal

pub returns-in_err-refuse_if : goal.returns-in_err-refuse_if
unfolding operation
returns-in_err-refuse_if c =
    handed_out _ _ _ c.from_residual.ensures.1 (stopped_own _ _ _ _ _ _ (ap not c.is_counter.ensures) c.in_err-refuse_if.ensures)

pub returns-in_err-refuse_if-2 : goal.returns-in_err-refuse_if-2
unfolding operation
returns-in_err-refuse_if-2 c =
    handed_out _ _ _ c.from_residual-in_err-refuse_if-2.ensures.1
    (gone_on_own _ _ _ _ _ _ (ap not c.is_counter.ensures) c.in_ok-refuse_if.ensures
    (stopped_own _ _ _ _ _ _ (front_told _ _ c.offset-front.ensures) c.in_err-refuse_if-2.ensures))

pub is_exhausted-requires : goal.is_exhausted-requires
is_exhausted-requires c = counter_told c.args.object.now _ c.is_counter.ensures (passed_by _ _ c.in_ok-refuse_if.ensures)

pub returns-in_err-refuse_if-3 : goal.returns-in_err-refuse_if-3
unfolding operation
returns-in_err-refuse_if-3 c =
    handed_out _ _ _ c.from_residual-in_err-refuse_if-3.ensures.1
    (gone_on_own _ _ _ _ _ _ (ap not c.is_counter.ensures) c.in_ok-refuse_if.ensures
    (gone_on_own _ _ _ _ _ _ (front_told _ _ c.offset-front.ensures) c.in_ok-refuse_if-2.ensures
    (stopped_own _ _ _ _ _ _ c.is_exhausted.ensures c.in_err-refuse_if-3.ensures)))

pub returns : goal.returns
unfolding operation
returns c =
    gone_on_own _ _ _ _ _ _ (ap not c.is_counter.ensures) c.in_ok-refuse_if.ensures
    (gone_on_own _ _ _ _ _ _ (front_told _ _ c.offset-front.ensures) c.in_ok-refuse_if-2.ensures
    (gone_on_own _ _ _ _ _ _ c.is_exhausted.ensures c.in_ok-refuse_if-3.ensures
    (nothing_more _ _ c.fitting.ensures)))
