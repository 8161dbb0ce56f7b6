-- A life cycle, or another object.
use Rattle.laws.proofs.Calls.{stopped, gone_on, handed_out}
use Rattle.judge.proofs.refuse_in_session.Goals as goal

pub returns-in_err-refuse_if : goal.returns-in_err-refuse_if
returns-in_err-refuse_if c = handed_out _ _ _ c.from_residual.ensures.1 (stopped _ _ _ _ _ c.is_life_cycle.ensures c.in_err-refuse_if.ensures)

pub returns : goal.returns
returns c = gone_on _ _ _ _ _ c.is_life_cycle.ensures c.in_ok-refuse_if.ensures (search)
