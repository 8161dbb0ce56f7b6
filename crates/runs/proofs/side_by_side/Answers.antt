-- `runs::side_by_side` meets its contract.
use Rattle.runs.proofs.Demand3.{three_runs}
use Rattle.runs.proofs.side_by_side.Goals as goal

pub returns : goal.returns
returns c = search three_runs
