use Prim.Native.Nat.{◌≤◌, ◌-◌}
use mathlib.Core.Path.{◌≡◌}
use lib.ListN.{length, drop}
use Rattle.frames.specs.Frames.{longest}
use Rattle.dock.specs.Held.{feeding_from, feeding}
use Rattle.dock.proofs.Stream.feed.Given as goal

abbrev pub invariant-loop-taken : goal.invariant-loop-taken
invariant-loop-taken l = (l.taken ≤ length l.piece) × (length l.frame ≡ longest) × (feeding_from l.taken l.stream l.frame (drop l.taken l.piece) ≡ feeding l.initial.stream l.initial.frame l.piece)

abbrev pub decreases-loop-taken : goal.decreases-loop-taken
decreases-loop-taken l = length l.piece - l.taken
