-- The first i bytes are moved; those that follow are as they were.
use mathlib.Core.Path.{refl}
use lib.ListN.{length-set}
use lib.Seq.{paste-zero}
use native.Mathlib.Omega.{arith}
use Rattle.queue.proofs.Moves.{move_turn, move_end}
use Rattle.queue.proofs.move_down.Goals as goal

pub loop-i-init : goal.loop-i-init
loop-i-init c = (refl, search paste-zero)

pub loop-i-preserved : goal.loop-i-preserved
loop-i-preserved c = (simp length-set (omega arith), search move_turn)

pub returns : goal.returns
returns c = search move_end
