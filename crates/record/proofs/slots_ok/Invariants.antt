use Prim.Native.Nat.{◌+◌, ◌≤◌}
use mathlib.Core.List.{[], ◌∷◌}
use mathlib.Core.Path.{◌≡◌}
use lib.ListN.{length, drop}
use Rattle.rules.specs.Layout.{head_size}
use Rattle.record.specs.Records.{slots_allowed, slots_from}
use Rattle.record.proofs.slots_ok.Given as goal

abbrev pub invariant-loop-i : goal.invariant-loop-i
invariant-loop-i l = (head_size + 1 ≤ length l.part) × (slots_allowed l.part ≡ slots_from (drop l.i (12 ∷ 40 ∷ 68 ∷ [])) l.part)
