-- Past what is in use, then the room.
use Rattle.laws.proofs.Calls.{stopped, gone_on, handed_out}
use Rattle.bounds.proofs.Bounds.{past_used}
use Rattle.bounds.proofs.judge_read.Goals as goal

pub returns-in_err-refuse_if : goal.returns-in_err-refuse_if
returns-in_err-refuse_if c =
    handed_out _ _ _ c.from_residual.ensures.1 (stopped _ _ _ _ _ (past_used c.args.from.0 c.args.used.0) c.in_err-refuse_if.ensures)

pub returns : goal.returns
returns c = rw (← c.shown_length-shown.ensures) (gone_on _ _ _ _ _ (past_used c.args.from.0 c.args.used.0) c.in_ok-refuse_if.ensures c.fitting.ensures)
