-- The check of a store: the tests of its loop, and that they say whether the bytes are a store.
use Prim.Native.Nat.{ℕ, zero, suc, ◌+◌, ◌-◌, ◌≤◌, ◌<◌}
use mathlib.Core.Path.{◌≡◌, refl, sym, ap, ◌∙◌}
use mathlib.Core.Bool.{Bool, true, false, not, ◌&&◌, ◌||◌, false≢true, or-true, and-true}
use mathlib.Core.List.{List, [], ◌∷◌, ◌++◌}
use borrow.Author.Tests.{eq-eqb, ne_eqb, eqb-true, le-leb, not-false}
use native.Mathlib.Omega.{arith}
use native.Mathlib.Nat.{add-sub_cancel_left}
use native.Mathlib.Numerals.{add-one}
use lib.Dec.{eqb, leb, leb-zero}
use lib.ListN.{length, drop, drop_of_length-le, take-append-drop}
use lib.Seq.{drop-drop}
use Rattle.rules.specs.Basic.{all, is_some, little_endian_at, rising_from, rising}
use Rattle.rules.specs.Object.{Object, object_allowed, all_allowed, all_allowed_with}
use Rattle.rules.specs.Layout.{head_size, record_size, size, record_bytes, pack, unpack, read_record, pack_with}
use Rattle.laws.proofs.Tests.{and_left, and_right, at_place}
use Rattle.laws.proofs.Facts.{allowed, numbers, all_allowed_facts, all_allowed_by}
use Rattle.laws.proofs.Inverse.{unpack_pack, pack_unpack}
use Rattle.laws.proofs.Places.{pack_length}
use Rattle.expression.proofs.Tests.{same_test, some_of, some_is}
use Rattle.record.specs.Places.{object_at, Stored}
use Rattle.record.specs.Records.{part, is_record}
use Rattle.record.proofs.Records.{record_is, is_record_of}
use Rattle.record.proofs.Standing.{size_here, length_here, record_here, rest_here, object_here, stands_here, stored_facts}

-- what one turn of the loop judges of the record at i; `rest` is whether those behind it pass
abbrev turn : Bool → ℕ → ℕ → List ℕ → Bool
turn rest low i s =
    all
    (leb (head_size + 1) (length s - i) ∷
    leb (little_endian_at i s) (length s - i) ∷
    is_record (part s i (i + little_endian_at i s)) ∷
    leb low (object_at i s).number ∷
    (eqb (length s - i) (little_endian_at i s) || rest) ∷ [])

-- from i on stand at most n records, with numbers of at least low
unfoldable pub records_at : ℕ → ℕ → ℕ → List ℕ → Bool
records_at zero low i s = false
records_at (suc n) low i s = turn (records_at n ((object_at i s).number + 1) (i + little_endian_at i s) s) low i s

-- a record of z bytes at i is that of the object there
record_of : (s : List ℕ) (i z : ℕ) → is_record (part s i (i + z)) ≡ true →
    (object_allowed (object_at i s) ≡ true) × (drop i s ≡ record_bytes (object_at i s) ++ drop (i + z) s)
record_of s i z h =
    let (ok, q) = is_record_of (part s i (i + z)) h in
    let e : drop i s ≡ record_bytes (read_record (part s i (i + z))) ++ drop (i + z) s =
    rw (q, add-sub_cancel_left i z, ← drop-drop z i s) (sym (take-append-drop z (drop i s))) in
    rw (object_here i s (read_record (part s i (i + z))) (drop (i + z) s) ok e) (ok, e)

-- the loop ---------------------------------------------------------------------------------------------------------------

module _ (w : Bool) (s : List ℕ) (n low i : ℕ) (inv : w ≡ records_at n low i s) where
  pub records_end : n ≤ 0 → false ≡ w
  unfolding records_at
  records_end h = let z : n ≡ 0 = omega arith in sym (inv ∙ rw z)

  pub records_by : 0 < n → (r : Bool) → r ≡ turn (records_at (n - 1) ((object_at i s).number + 1) (i + little_endian_at i s) s) low i s → r ≡ w
  unfolding records_at
  records_by h r e = let q : n ≡ suc (n - 1) = omega arith in e ∙ sym (inv ∙ ap (λ k. records_at k low i s) q)

  -- the record at i has passed: z, r and y are what the calls gave
  module _ (h : 0 < n) (y z : ℕ) (r : Bool) (ez : z ≡ little_endian_at i s) (a : head_size + 1 ≤ length s - i) (b : z ≤ length s - i)
      (er : r ≡ is_record (part s i (i + z))) (t : not r ≡ false) (ey : y ≡ (object_at i s).number) (d : low ≤ y) where
    passed : (eqb (length s - i) z || records_at (n - 1) (y + 1) (i + z) s) ≡ w
    unfolding all
    passed =
        let q = sym er ∙ not-false r t in
        records_by h _ (rw (← ey, ← ez, le-leb (head_size + 1) (length s - i) a, le-leb z (length s - i) b, q, le-leb low y d) (sym (and-true _)))

    pub records_last : length s - i ≡ z → true ≡ w
    records_last e = rw (eq-eqb (length s - i) z e) at passed

    pub records_on : (length s - i ≡ z → ⊥) → w ≡ records_at (n - 1) (y + 1) (i + z) s
    records_on e = sym (rw (ne_eqb (length s - i) z e) at passed)

pub same_record : {r : Bool} (s : List ℕ) (i z z' : ℕ) → r ≡ is_record (part s i (i + z')) → z' ≡ z → r ≡ is_record (part s i (i + z))
same_record s i z z' e f = rw f at e

-- a record that passes stands there
pub record_stored : {r : Bool} (s : List ℕ) (i z : ℕ) → r ≡ is_record (part s i (i + z)) → not r ≡ false → Stored i s
record_stored {r} s i z e t =
    let (ok, q) = record_of s i z (sym e ∙ not-false r t) in
    stored_facts i s (stands_here i s (object_at i s) (drop (i + z) s) ok q)

-- numbers that rise ------------------------------------------------------------------------------------------------------

from : ℕ → List ℕ → Bool
from low [] = true
from low (m ∷ ms) = leb low m && from (m + 1) ms

from_rising : (k : ℕ) (ms : List ℕ) → from (k + 1) ms ≡ rising_from k ms
unfolding from rising_from
from_rising k [] = refl
from_rising k (m ∷ ms) = rw (add-one k, from_rising m ms)

from_zero : (ms : List ℕ) → from 0 ms ≡ rising ms
unfolding from rising
from_zero [] = refl
from_zero (m ∷ ms) = rw (leb-zero m) (from_rising m ms)

-- records that pass are those of allowed objects ---------------------------------------------------------------------------

record Walked (n low : ℕ) (b : List ℕ) : Type 0 where
  objects : List Object
  bytes : pack objects ≡ b
  few : length objects ≤ n
  each : all_allowed objects ≡ true
  order : from low (numbers objects) ≡ true

either : {A : Type 0} (t b : Bool) → (t || b) ≡ true → (t ≡ true → A) → (b ≡ true → A) → A
either true b h f g = f refl
either false b h f g = g h

walk : (n low i : ℕ) (s : List ℕ) → records_at n low i s ≡ true → (r : Walked n low (drop i s)) × (1 ≤ length r.objects)
unfolding records_at pack_with all_allowed_with numbers from
walk zero low i s h = absurd (false≢true h)
walk (suc n) low i s h =
    let o = object_at i s in
    let z = little_endian_at i s in
    let (ok, e) = record_of s i z (at_place _ h 2) in
    let on : Walked n (o.number + 1) (drop (i + z) s) → (r : Walked (suc n) low (drop i s)) × (1 ≤ length r.objects) = λ r. (
      record {
        objects = o ∷ r.objects;
        bytes = rw (e, r.bytes);
        few = omega (arith, r.few);
        each = rw ok r.each;
        order = rw (at_place _ h 3) r.order;
      },
      omega arith,
    ) in
    either (eqb (length s - i) z) _ (at_place _ h 4)
    (λ q. let last = eqb-true (length s - i) z q in
    on (record { objects = []; bytes = sym (drop_of_length-le s {i = i + z} (omega arith)); few = omega arith; each = refl; order = refl }))
    (λ k. on (walk n (o.number + 1) (i + z) s k).0)

-- records of allowed objects pass ------------------------------------------------------------------------------------------

walk_turn : (n low i : ℕ) (s : List ℕ) (o : Object) (r : List ℕ) → object_allowed o ≡ true → drop i s ≡ record_bytes o ++ r → leb low o.number ≡ true →
    (eqb (length s - i) (record_size o) || records_at n (o.number + 1) (i + record_size o) s) ≡ true → records_at (suc n) low i s ≡ true
unfolding records_at all
walk_turn n low i s o r ok e l h =
    let k = length_here i s o r ok e in
    let m = (allowed o ok).some_room in
    rw (size_here i s o r ok e, object_here i s o r ok e, add-sub_cancel_left, record_here i s o r ok e, record_is o ok, l, h)
    (rw (le-leb (head_size + 1) (length s - i) (omega arith), le-leb (record_size o) (length s - i) (omega arith)))

walk_back : (n low i : ℕ) (s : List ℕ) (os : List Object) → drop i s ≡ pack os → 1 ≤ length os → length os ≤ n → all_allowed os ≡ true →
    from low (numbers os) ≡ true → records_at n low i s ≡ true
unfolding pack_with all_allowed_with numbers from
walk_back n low i s [] b l f a r = absurd (omega arith)
walk_back zero low i s (o ∷ os) b l f a r = absurd (omega arith)
walk_back (suc n) low i s (o ∷ []) b l f a r =
    let ok = and_left (object_allowed o) true a in
    walk_turn n low i s o [] ok b (and_left (leb low o.number) true r)
    (rw (eq-eqb (length s - i) (record_size o) (omega (arith, length_here i s o [] ok b))))
walk_back (suc n) low i s (o ∷ p ∷ os) b l f a r =
    let rest = record_bytes p ++ pack os in
    let ok = and_left (object_allowed o) _ a in
    let more = walk_back n (o.number + 1) (i + record_size o) s (p ∷ os) (rest_here i s o rest ok b) (omega arith) (omega arith)
    (and_right (object_allowed o) _ a) (and_right (leb low o.number) _ r) in
    walk_turn n low i s o rest ok b (and_left (leb low o.number) _ r) (rw more (or-true (eqb (length s - i) (record_size o))))

-- the two theorems ---------------------------------------------------------------------------------------------------------

pub store_joined : (s : List ℕ) → length s ≤ 16384 → is_some (unpack s) ≡ records_at 32 0 0 s
store_joined s l =
    same_test (is_some (unpack s)) (records_at 32 0 0 s)
    (λ h. let (os, u) = some_of (unpack s) h in
    let (packed, ok) = pack_unpack s os u in
    let a = all_allowed_facts os ok in
    walk_back 32 0 0 s os (sym packed) a.some_object a.count a.each (from_zero (numbers os) ∙ a.rises))
    (λ h. let (r, some_there) = walk 32 0 0 s h in
    let fits : size r.objects ≤ 16384 = omega (arith, pack_length r.objects r.each, ap length r.bytes) in
    let rises = sym (from_zero (numbers r.objects)) ∙ r.order in
    let ok = all_allowed_by _ (search (some_there, r, fits, rises)) in
    some_is (unpack s) r.objects (ap unpack (sym r.bytes) ∙ unpack_pack r.objects ok))

pub store_long : (s : List ℕ) → 16384 < length s → false ≡ is_some (unpack s)
store_long s l =
    same_test false (is_some (unpack s)) (λ h. absurd (false≢true h))
    (λ h. let (os, u) = some_of (unpack s) h in
    let (packed, ok) = pack_unpack s os u in
    let a = all_allowed_facts os ok in
    absurd (omega (arith, a.fits, pack_length os a.each, ap length packed)))
