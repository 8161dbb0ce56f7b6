-- The record that stands at a place, put there again.
use Prim.Native.Nat.{ℕ}
use mathlib.Core.Bool.{true}
use mathlib.Core.List.{List}
use mathlib.Core.Path.{◌≡◌}
use lib.ListN.{take-append-drop}
use Rattle.rules.specs.Object.{object_allowed}
use Rattle.laws.proofs.Facts.{allowed}
use Rattle.laws.proofs.Inverse.{record_length}
use Rattle.primitives.specs.Bytes.{over}
use Rattle.record.specs.Places.{object_at, Stored, with_record}
use Rattle.record.proofs.Standing.{standing}

module _ (p : ℕ) (b : List ℕ) (s : Stored p b) where
  pub stands_allowed : object_allowed (object_at p b) ≡ true
  stands_allowed = (standing p b s.stands).allowed

  -- its own record in its place
  pub unchanged : with_record p (object_at p b) b ≡ b
  unfolding with_record over
  unchanged =
      let o = object_at p b in
      rw (record_length o (allowed o stands_allowed), ← (standing p b s.stands).here) (take-append-drop p b)
