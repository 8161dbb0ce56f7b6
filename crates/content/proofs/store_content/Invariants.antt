use Prim.Native.Nat.{◌-◌}
use mathlib.Core.Path.{◌≡◌}
use lib.ListN.{length}
use Rattle.content.proofs.Storing.{Going}
use Rattle.content.proofs.store_content.Given as goal

abbrev pub invariant-loop-next : goal.invariant-loop-next
invariant-loop-next l = (l.reader.content.now ≡ l.content) × Going l.at l.reader.at l.reader.content.now l.initial.store l.store

abbrev pub decreases-loop-next : goal.decreases-loop-next
decreases-loop-next l = length l.reader.content.now - l.reader.at
