use Prim.Native.Nat.{◌≤◌, ◌-◌}
use mathlib.Core.Path.{◌≡◌}
use lib.ListN.{length, drop}
use Rattle.rules.specs.Program.{lines}
use Rattle.listing.proofs.Texts.{Onward}
use Rattle.listing.proofs.Lines.{lines_of}
use Rattle.listing.proofs.Output.put_lines.Given as goal

abbrev pub invariant-loop-at : goal.invariant-loop-at
invariant-loop-at l =
    (l.self.bytes.ghost_name ≡ l.initial.self.bytes.ghost_name) × (l.at ≤ length l.input) × (length l.store ≡ length l.initial.store)
    × Onward l.initial.self.at (lines (length l.input) l.input l.initial.store l.initial.session) l.initial.self.bytes.now l.self.at (lines_of (drop l.at l.input) l.store l.session) l.self.bytes.now

abbrev pub decreases-loop-at : goal.decreases-loop-at
decreases-loop-at l = length l.input - l.at
