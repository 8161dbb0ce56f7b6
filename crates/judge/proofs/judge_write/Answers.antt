-- What is sent fits, and a stored object takes any value.
use mathlib.Core.Bool.{not}
use mathlib.Core.Path.{sym, ap}
use Rattle.rules.specs.Operation.{operation}
use Rattle.laws.proofs.Calls.{handed_out}
use Rattle.judge.proofs.Judging.{stopped_own, gone_on_own, any_value, nothing_more}
use Rattle.judge.proofs.judge_write.Goals as goal

pub returns-in_err-refuse_if : goal.returns-in_err-refuse_if
unfolding operation
returns-in_err-refuse_if c =
    let told = c.write_fits-fits.ensures c.args.object.now (sym c.kind.ensures.value) (sym c.maximum.ensures.value) in
    handed_out _ _ _ c.from_residual.ensures.1 (stopped_own _ _ _ _ _ _ (ap not told) c.in_err-refuse_if.ensures)

pub returns : goal.returns
unfolding operation
returns c =
    let told = c.write_fits-fits.ensures c.args.object.now (sym c.kind.ensures.value) (sym c.maximum.ensures.value) in
    gone_on_own _ _ _ _ _ _ (ap not told) c.in_ok-refuse_if.ensures
    (any_value c.args.object.now _ _ _ _ _ c.kind.ensures.allowed (nothing_more _ _ c.fitting.ensures))
