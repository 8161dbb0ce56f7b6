-- Granted or not.
use Rattle.judge.proofs.Judging.{stored_judged, stored_counters, denied, denied_counters}
use Rattle.judge.proofs.judge_stored.Goals as goal

pub returns-in_default : goal.returns-in_default
returns-in_default c = (search denied, search denied_counters)

pub returns : goal.returns
returns c = (search stored_judged, search stored_counters)
