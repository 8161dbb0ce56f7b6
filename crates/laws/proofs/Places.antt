-- Where an object stands in the store: finding it splits the objects, and replacing it changes its record alone.
use Prim.Native.Nat.{ℕ, ◌≤◌, ◌<◌}
use mathlib.Core.Bool.{true}
use mathlib.Core.List.{List, [], ◌∷◌, ◌++◌, append_assoc}
use mathlib.Core.Option.{some}
use mathlib.Core.Path.{◌≡◌, refl, sym, ap, ◌∙◌}
use native.Mathlib.Omega.{arith}
use borrow.Author.Tests.{ltb-true, eqb-true, eq-eqb, ne_eqb}
use lib.Dec.{eqb, ltb}
use lib.ListN.{length, length-append}
use Rattle.rules.specs.Basic.{rising_from, rising}
use Rattle.rules.specs.Expression.{slot_size}
use Rattle.rules.specs.Object.{Object, object_allowed_with, all_allowed_with, all_allowed}
use Rattle.rules.specs.Layout.{size_with, size, objects_allowed, record_bytes_with, record_bytes, pack_with, pack, find, replaced}
use Rattle.laws.proofs.Tests.{if_by, and_left, and_right}
use Rattle.laws.proofs.Facts.{allowed_with, numbers, all_allowed_facts}
use Rattle.laws.proofs.Inverse.{record_length_with}

-- bytes of several records --------------------------------------------------------------------------------------------

module _ (slot : ℕ) where
  pub pack_append_with : (os ps : List Object) → pack_with slot (os ++ ps) ≡ pack_with slot os ++ pack_with slot ps
  unfolding pack_with
  pack_append_with [] ps = refl
  pack_append_with (o ∷ os) ps = rw (pack_append_with os ps) (sym (append_assoc (record_bytes_with slot o) (pack_with slot os) (pack_with slot ps)))

  pub pack_length_with : 2 ≤ slot → (os : List Object) → all_allowed_with slot os ≡ true → length (pack_with slot os) ≡ size_with slot os
  unfolding pack_with size_with all_allowed_with
  pack_length_with l [] h = refl
  pack_length_with l (o ∷ os) h =
      omega (
        arith,
        length-append (record_bytes_with slot o) (pack_with slot os),
        record_length_with slot l o (allowed_with slot o (and_left (object_allowed_with slot o) (all_allowed_with slot os) h)),
        pack_length_with l os (and_right (object_allowed_with slot o) (all_allowed_with slot os) h),
      )

-- with the present slots
pub pack_append : (os ps : List Object) → pack (os ++ ps) ≡ pack os ++ pack ps
pack_append = pack_append_with slot_size

pub pack_length : (os : List Object) → all_allowed os ≡ true → length (pack os) ≡ size os
pack_length = pack_length_with slot_size (omega arith)

-- finding -------------------------------------------------------------------------------------------------------------

-- o is the object of number n, between those before it and those after it
pub record Stands (n : ℕ) (os : List Object) (o : Object) : Type 0 where
  pub before : List Object
  pub after : List Object
  pub split : os ≡ before ++ o ∷ after
  pub number : o.number ≡ n

pub found_stands : (n : ℕ) (os : List Object) (o : Object) → find n os ≡ some o → Stands n os o
unfolding find
found_stands n [] o h = let z : ◌≡◌ {A = ℕ} 0 1 = cc in absurd (omega arith)
found_stands n (p ∷ os) o h =
    if_by (λ m. m ≡ some o → Stands n (p ∷ os) o) (eqb n p.number) (some p) (find n os)
    (λ t h.
    let q : p ≡ o = cc in
    let e = eqb-true n p.number t in
    record { before = []; after = os; split = ap (λ x. x ∷ os) q; number = cc })
    (λ t h.
    let r = found_stands n os o h in
    record { before = p ∷ r.before; after = r.after; split = ap (λ x. p ∷ x) r.split; number = r.number })
    h

-- replacing -----------------------------------------------------------------------------------------------------------

-- an object whose number is not above k is not among objects that rise from k
replaced_above : (o : Object) (k : ℕ) (os : List Object) → o.number ≤ k → rising_from k (numbers os) ≡ true → replaced o os ≡ os
unfolding replaced rising_from numbers
replaced_above o k [] l h = refl
replaced_above o k (p ∷ os) l h =
    let above : k < p.number = ltb-true k p.number (and_left (ltb k p.number) (rising_from p.number (numbers os)) h) in
    let rest = replaced_above o p.number os (omega arith) (and_right (ltb k p.number) (rising_from p.number (numbers os)) h) in
    rw (ne_eqb p.number o.number (λ e. omega arith), rest)

-- what rises from k up to o: k is below o
rising_to : (k : ℕ) (before : List Object) (o : Object) (after : List Object) → rising_from k (numbers (before ++ o ∷ after)) ≡ true → k < o.number
unfolding rising_from numbers
rising_to k [] o after h = ltb-true k o.number (and_left (ltb k o.number) _ h)
rising_to k (p ∷ before) o after h =
    omega (arith, ltb-true k p.number (and_left (ltb k p.number) _ h), rising_to p.number before o after (and_right (ltb k p.number) _ h))

rising_tail : (k : ℕ) (ns : List ℕ) → rising_from k ns ≡ true → rising ns ≡ true
unfolding rising_from rising
rising_tail k [] h = refl
rising_tail k (n ∷ ns) h = and_right (ltb k n) _ h

-- where numbers rise, replacing an object changes it alone
pub replaced_at : (before : List Object) (o : Object) (after : List Object) (new : Object) → new.number ≡ o.number →
    rising (numbers (before ++ o ∷ after)) ≡ true → replaced new (before ++ o ∷ after) ≡ before ++ new ∷ after
unfolding rising replaced numbers
replaced_at [] o after new e h =
    rw (eq-eqb o.number new.number (sym e)) (ap (λ x. new ∷ x) (replaced_above new o.number after (omega arith) h))
replaced_at (p ∷ before) o after new e h =
    let l : p.number < o.number = rising_to p.number before o after h in
    rw (ne_eqb p.number new.number (λ q. omega arith)) (ap (λ x. p ∷ x) (replaced_at before o after new e (rising_tail p.number _ h)))

-- an object in its own place
pub replaced_itself : (n : ℕ) (os : List Object) (o : Object) → objects_allowed os ≡ true → find n os ≡ some o → replaced o os ≡ os
replaced_itself n os o h e =
    let st = found_stands n os o e in
    rw st.split (replaced_at st.before o st.after o refl (rw st.split at (all_allowed_facts os h).rises))

-- the store's bytes after it
pub replaced_bytes : (before : List Object) (o : Object) (after : List Object) (new : Object) → new.number ≡ o.number →
    rising (numbers (before ++ o ∷ after)) ≡ true →
    pack (replaced new (before ++ o ∷ after)) ≡ pack before ++ (record_bytes new ++ pack after)
replaced_bytes before o after new e h =
    ap pack (replaced_at before o after new e h) ∙ pack_append before (new ∷ after) ∙ ap (λ x. pack before ++ x) (unfold pack_with in refl)
