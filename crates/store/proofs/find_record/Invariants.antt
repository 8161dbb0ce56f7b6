use Prim.Native.Nat.{◌-◌}
use lib.ListN.{length}
use Rattle.store.proofs.Search.{Ahead}
use Rattle.store.proofs.find_record.Given as goal

abbrev pub invariant-loop-at : goal.invariant-loop-at
invariant-loop-at l = Ahead l.number.0 l.store l.at

abbrev pub decreases-loop-at : goal.decreases-loop-at
decreases-loop-at l = length l.store - l.at
