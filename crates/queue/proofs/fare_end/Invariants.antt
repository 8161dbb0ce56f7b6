use Prim.Native.Nat.{◌-◌}
use lib.ListN.{length}
use Rattle.queue.proofs.Search.{Ahead}
use Rattle.queue.proofs.fare_end.Given as goal

abbrev pub invariant-loop-at : goal.invariant-loop-at
invariant-loop-at l = Ahead l.number l.content l.at

abbrev pub decreases-loop-at : goal.decreases-loop-at
decreases-loop-at l = length l.content - l.at
