-- For callers: where `found` says that a record is, it stands there, it is that of the object that `find` finds, and another
-- object's record in its place is the store with that object replaced.
use Prim.Native.Nat.{ℕ, ◌+◌}
use mathlib.Core.Path.{◌≡◌, refl, sym, ap, ◌∙◌}
use mathlib.Core.List.{List, [], ◌∷◌, ◌++◌}
use mathlib.Core.Bool.{true}
use mathlib.Core.Option.{none, some}
use native.Mathlib.Omega.{arith}
use lib.Dec.{eqb}
use lib.ListN.{length, drop, length-append}
use lib.Seq.{drop_at}
use Rattle.std.specs.Prelude.{Some, None}
use Rattle.rules.specs.Object.{Object, object_allowed, all_allowed, all_allowed_with}
use Rattle.rules.specs.Layout.{record_size, record_bytes, pack, unpack, pack_with, find, replaced, found_behind, found}
use Rattle.laws.proofs.Facts.{allowed, AllAllowed, all_allowed_facts}
use Rattle.laws.proofs.Tests.{by_test, and_left, and_right}
use Rattle.laws.proofs.Inverse.{record_length, pack_unpack}
use Rattle.laws.proofs.Places.{pack_append, replaced_bytes}
use Rattle.primitives.specs.Bytes.{over}
use Rattle.primitives.proofs.Over.{over_part}
use Rattle.record.specs.Places.{object_at, Stored, with_record}
use Rattle.record.proofs.Standing.{object_here, stands_here, stored_facts}

none_behind : (q n : ℕ) (os : List Object) → found_behind q n os ≡ None → find n os ≡ none
unfolding found_behind find
none_behind q n [] e = refl
none_behind q n (o ∷ os) e =
    by_test (eqb n o.number)
    (λ t. let z : Some q ≡ None = rw t at e in let z : ◌≡◌ {A = ℕ} 0 1 = cc in absurd (omega arith))
    (λ t. rw t (none_behind (q + record_size o) n os (rw t at e)))

pub nowhere : (n : ℕ) (os : List Object) → found n os ≡ None → find n os ≡ none
unfolding found
nowhere n os e = none_behind 0 n os e

-- the object whose record is at p, among allowed objects whose records begin at q
record Lies (q n p : ℕ) (os : List Object) : Type 0 where
  before : List Object
  object : Object
  after : List Object
  split : os ≡ before ++ object ∷ after
  finds : find n os ≡ some object
  spot : p ≡ q + length (pack before)
  ok : object_allowed object ≡ true

lies_behind : (q n p : ℕ) (os : List Object) → all_allowed os ≡ true → found_behind q n os ≡ Some p → Lies q n p os
unfolding found_behind find pack_with all_allowed_with
lies_behind q n p [] k e = let z : ◌≡◌ {A = ℕ} 0 1 = cc in absurd (omega arith)
lies_behind q n p (o ∷ os) k e =
    let ok = and_left (object_allowed o) (all_allowed os) k in
    by_test (eqb n o.number)
    (λ t.
    let here : Some q ≡ Some p = rw t at e in
    let same : q ≡ p = cc in
    record { before = []; object = o; after = os; split = refl; finds = rw t; spot = omega arith; ok = ok })
    (λ t.
    let l = lies_behind (q + record_size o) n p os (and_right (object_allowed o) (all_allowed os) k) (rw t at e) in
    record {
      before = o ∷ l.before;
      object = l.object;
      after = l.after;
      split = ap (λ x. o ∷ x) l.split;
      finds = rw t l.finds;
      spot = omega (arith, l.spot, length-append (record_bytes o) (pack l.before), record_length o (allowed o ok));
      ok = l.ok;
    })

module _ (n p : ℕ) (b : List ℕ) (os : List Object) (u : unpack b ≡ some os) (e : found n os ≡ Some p) where
  facts : AllAllowed os
  facts = all_allowed_facts os (pack_unpack b os u).1

  lies : Lies 0 n p os
  unfolding found
  lies = lies_behind 0 n p os facts.each e

  laid : b ≡ pack lies.before ++ (record_bytes lies.object ++ pack lies.after)
  unfolding pack_with
  laid = sym (pack_unpack b os u).0 ∙ ap pack lies.split ∙ pack_append lies.before (lies.object ∷ lies.after)

  place_is : length (pack lies.before) ≡ p
  place_is = omega (arith, lies.spot)

  here : drop p b ≡ record_bytes lies.object ++ pack lies.after
  here = ap (drop p) laid ∙ drop_at (pack lies.before) (record_bytes lies.object ++ pack lies.after) p place_is

  read_back : object_at p b ≡ lies.object
  read_back = object_here p b lies.object (pack lies.after) lies.ok here

  pub finds_it : find n os ≡ some (object_at p b)
  finds_it = lies.finds ∙ ap (λ (x : Object). some x) (sym read_back)

  pub stored_there : Stored p b
  stored_there = stored_facts p b (stands_here p b lies.object (pack lies.after) lies.ok here)

  -- another object in its place
  pub recorded_there : (new : Object) → object_allowed new ≡ true → new.number ≡ (object_at p b).number → new.maximum ≡ (object_at p b).maximum →
      with_record p new b ≡ pack (replaced new os)
  unfolding with_record
  recorded_there new ok k m =
      let o = lies.object in
      let long = record_length o (allowed o lies.ok) in
      let same : length (record_bytes o) ≡ length (record_bytes new) = omega (arith, rw read_back at m, record_length new (allowed new ok)) in
      rw (lies.split, replaced_bytes lies.before o lies.after new (rw read_back at k) (rw lies.split at facts.rises))
      (ap (over p (record_bytes new)) laid ∙ over_part (pack lies.before) (record_bytes o) (record_bytes new) (pack lies.after) p place_is same)
