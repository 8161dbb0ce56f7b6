-- What several changes at one place leave, one after the other: laws for callers, each from what a function ensures.
use Prim.Native.Nat.{ℕ, ◌+◌}
use mathlib.Core.Bool.{true}
use mathlib.Core.List.{List, ◌++◌}
use mathlib.Core.Path.{◌≡◌, refl, sym, ◌∙◌}
use native.Mathlib.Omega.{arith}
use lib.ListN.{length, take, drop}
use lib.Seq.{drop_at, length-take-le}
use Rattle.laws.proofs.Facts.{allowed}
use Rattle.laws.proofs.Fitting.{Fitting}
use Rattle.laws.proofs.Inverse.{record_length}
use Rattle.rules.specs.Object.{Object, object_allowed}
use Rattle.rules.specs.Layout.{record_size, record_bytes}
use Rattle.primitives.specs.Bytes.{over}
use Rattle.primitives.proofs.Over.{over_part, over_length}
use Rattle.record.specs.Places.{object_at, Stored, with_record}
use Rattle.record.proofs.Standing.{object_here, stands_here, stored_facts}
use Rattle.change.proofs.Changed.{stands_allowed, unchanged}

-- the changes have left b1: the store b with the record of o at p, an allowed object of the number and maximum that stood there
pub record Rewritten (p : ℕ) (b : List ℕ) (o : Object) (b1 : List ℕ) : Type 0 where
  pub stood : Stored p b
  pub allowed : object_allowed o ≡ true
  pub number : o.number ≡ (object_at p b).number
  pub maximum : o.maximum ≡ (object_at p b).maximum
  pub bytes : b1 ≡ with_record p o b

-- no change yet
pub left_start : (p : ℕ) (b : List ℕ) → Stored p b → Rewritten p b (object_at p b) b
left_start p b s = record { stood = s; allowed = stands_allowed p b s; number = refl; maximum = refl; bytes = sym (unchanged p b s) }

module _ (p : ℕ) (b : List ℕ) (o : Object) (b1 : List ℕ) (l : Rewritten p b o b1) where
  long : length (record_bytes o) ≡ record_size o
  long = record_length o (allowed o l.allowed)

  before : length (take p b) ≡ p
  before = length-take-le p b (omega (arith, l.stood.inside))

  here : drop p b1 ≡ record_bytes o ++ drop (p + length (record_bytes o)) b
  unfolding with_record over
  here = rw l.bytes (drop_at (take p b) _ p before)

  pub left_length : length b1 ≡ length b
  unfolding with_record
  left_length = rw l.bytes (over_length p (record_bytes o) b (omega (arith, l.stood.inside, l.maximum, long)))

  pub left_object : object_at p b1 ≡ o
  left_object = object_here p b1 o _ l.allowed here

  pub left_stored : Stored p b1
  left_stored = stored_facts p b1 (stands_here p b1 o _ l.allowed here)

  -- one change more, f, of the object that stands there
  pub left_then : (f : Object → Object) (b2 : List ℕ) → Fitting o (f o) → b2 ≡ with_record p (f (object_at p b1)) b1 → Rewritten p b (f o) b2
  unfolding with_record over
  left_then f b2 g e =
      let same : length (record_bytes o) ≡ length (record_bytes (f o)) = omega (arith, long, g.maximum, record_length (f o) (allowed (f o) g.allowed)) in
      record {
        stood = l.stood;
        allowed = g.allowed;
        number = g.number ∙ l.number;
        maximum = g.maximum ∙ l.maximum;
        bytes = e ∙ rw (left_object, l.bytes) (over_part (take p b) (record_bytes o) (record_bytes (f o)) _ p before same ∙ rw same);
      }
