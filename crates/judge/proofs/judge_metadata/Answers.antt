-- The content, then the room.
use mathlib.Core.Bool.{not}
use mathlib.Core.Path.{ap}
use Rattle.rules.specs.Operation.{operation}
use Rattle.laws.proofs.Calls.{handed_out}
use Rattle.judge.proofs.Judging.{stopped_own, gone_on_own, nothing_more, content_told}
use Rattle.judge.proofs.judge_metadata.Goals as goal

pub returns-in_err-refuse_if : goal.returns-in_err-refuse_if
unfolding operation
returns-in_err-refuse_if c =
    let told = content_told _ _ _ _ _ c.lcso-stored.ensures.state c.sent_metadata.ensures c.content_allowed-allowed.ensures in
    handed_out _ _ _ c.from_residual.ensures.1 (stopped_own _ _ _ _ _ _ (ap not told) c.in_err-refuse_if.ensures)

pub returns : goal.returns
unfolding operation
returns c =
    let told = content_told _ _ _ _ _ c.lcso-stored.ensures.state c.sent_metadata.ensures c.content_allowed-allowed.ensures in
    gone_on_own _ _ _ _ _ _ (ap not told) c.in_ok-refuse_if.ensures (nothing_more _ _ c.fitting.ensures)
