-- The first i bytes are put.
use mathlib.Core.Path.{refl}
use lib.ListN.{length-set}
use lib.Seq.{paste-zero}
use native.Mathlib.Omega.{arith}
use Rattle.primitives.proofs.Over.{put_turn, put_end}
use Rattle.primitives.proofs.put.Goals as goal

pub loop-i-init : goal.loop-i-init
loop-i-init c = (refl, search paste-zero)

pub loop-i-preserved : goal.loop-i-preserved
loop-i-preserved c = (simp length-set (omega arith), search put_turn)

pub returns : goal.returns
returns c = search put_end
