-- `runs::turn` meets its contract.
use Rattle.runs.proofs.Cutting.{put_back}
use Rattle.runs.proofs.turn.Goals as goal

pub returns : goal.returns
returns c = search put_back
