-- `runs::run` meets its contract.
use Prim.Native.Nat.{◌<◌, ◌≤◌}
use native.Mathlib.Omega.{arith}
use lib.ListN.{length}
use Rattle.runs.proofs.Cutting.{loop_entered as entered, loop_again as again, loop_over as over}
use Rattle.runs.proofs.run.Goals as goal

pub loop-i-init : goal.loop-i-init
loop-i-init c = entered _ (omega arith)

pub loop-i-preserved : goal.loop-i-preserved
loop-i-preserved c = let i_below : c.loop-i.i < length c.args.outcomes.now = omega arith in search again

pub returns : goal.returns
returns c = let all_done : length c.args.outcomes.now ≤ c.loop-i.i = omega arith in search over
