-- Content as the fields that fill it: those that are left at a place, the first of them, and how many there can be.
use Prim.Native.Nat.{ℕ, ◌+◌, ◌-◌, ◌/◌, ◌≤◌, ◌<◌, min, max}
use mathlib.Core.Path.{◌≡◌, refl, sym, ap, ◌∙◌}
use mathlib.Core.Bool.{Bool, true, false, ◌&&◌, ◌||◌, false≢true}
use mathlib.Core.List.{List, [], ◌∷◌, ◌++◌, map}
use mathlib.Core.Logic.{inl, inr}
use native.Mathlib.Omega.{arith}
use borrow.Author.Tests.{eqb-true, ltb-true, lt-ltb}
use types.Run.{OneOf}
use lib.Dec.{eqb, ltb}
use lib.ListN.{length, take, drop}
use lib.Seq.{take-append_seam, drop-append_seam}
use Rattle.std.specs.Prelude.{if◌then◌else◌, Some, Ok}
use Rattle.rules.specs.Basic.{among, rising, rising_from}
use Rattle.rules.specs.Metadata.{Field, fields_bytes, field_allowed, fields_allowed}
use Rattle.laws.proofs.Tests.{and_left, and_right}
use Rattle.reader.specs.Content.{field_at}
use Rattle.reader.proofs.Fields.{stands, bytes}

abbrev pub tags : List Field → List ℕ
tags fs = map (λ f. f.tag) fs

-- b is the bytes of fields, each allowed at this LcsO, their tags rising and above t
pub record Filling (lcso t : ℕ) (b : List ℕ) : Type 0 where
  pub fs : List Field
  pub bytes : b ≡ fields_bytes fs
  pub rise : rising_from t (tags fs) ≡ true
  pub allowed : fields_allowed lcso fs ≡ true

-- the first of such fields is f; behind it are the others
pub record First (lcso last k : ℕ) (f : Field) (m : List ℕ) (fs : List Field) : Type 0 where
  pub above : last < f.tag
  pub allowed : field_allowed lcso f ≡ true
  pub rest : Filling lcso f.tag (drop (k + 2 + length f.value) m)
  pub is : fs ≡ f ∷ rest.fs

same_fronts : (x y b c : List ℕ) → length x ≡ length y → x ++ b ≡ y ++ c → (x ≡ y) × (b ≡ c)
same_fronts x y b c l e = (
  sym (take-append_seam x b) ∙ (λ i. take (l i) (e i)) ∙ take-append_seam y c,
  sym (drop-append_seam x b) ∙ (λ i. drop (l i) (e i)) ∙ drop-append_seam y c,
)

first_of : (lcso last k : ℕ) (f : Field) (m : List ℕ) (fs : List Field) →
    f.tag ∷ length f.value ∷ f.value ++ drop (k + 2 + length f.value) m ≡ fields_bytes fs →
    rising_from last (tags fs) ≡ true → fields_allowed lcso fs ≡ true → First lcso last k f m fs
unfolding fields_bytes rising_from fields_allowed
first_of lcso last k f m [] b up ok = absurd (omega (arith, ap length b))
first_of lcso last k f m (g ∷ fs) b up ok =
    let i : g.tag ≡ f.tag = cc in
    let (v, after) = same_fronts f.value g.value (drop (k + 2 + length f.value) m) (fields_bytes fs) (cc) (cc) in
    let is : g ≡ f = λ x. record { tag = i x; value = sym v x } in
    let up' = rw is at up in
    let ok' = rw is at ok in
    record {
      above = ltb-true last f.tag (and_left _ _ up');
      allowed = and_left _ _ ok';
      rest = record {
        fs = fs;
        bytes = after;
        rise = and_right (ltb last f.tag) _ up';
        allowed = and_right (field_allowed lcso f) _ ok';
      };
      is = ap (λ x. x ∷ fs) is;
    }

pub first : (lcso last k : ℕ) (m : List ℕ) (f : Field) → field_at k m ≡ Some (Ok f) → (g : Filling lcso last (drop k m)) → First lcso last k f m g.fs
first lcso last k m f stood g = first_of lcso last k f m g.fs (sym (bytes k m f stood) ∙ g.bytes) g.rise g.allowed

-- where no field stands, there are none
pub none_left : (k : ℕ) (m : List ℕ) (fs : List Field) → drop k m ≡ fields_bytes fs → ((f : Field) → field_at k m ≡ Some (Ok f) → ⊥) → fs ≡ []
none_left k m [] b n = refl
none_left k m (f ∷ fs) b n = absurd (n f (stands k m f fs b))

-- one of the four tags, for LcsO, change, read and execute
abbrev pub Tag : ℕ → Type 0
Tag = OneOf (0xC0 ∷ 0xD0 ∷ 0xD1 ∷ 0xD3 ∷ [])

pub its_tag : (lcso : ℕ) (f : Field) → field_allowed lcso f ≡ true → Tag f.tag
unfolding field_allowed among
its_tag lcso f h = go (eqb f.tag 0xC0) (eqb f.tag 0xD0) (eqb f.tag 0xD1) (eqb f.tag 0xD3) _ _ refl refl refl refl h
  where
    go : (p q r s x y : Bool) → eqb f.tag 0xC0 ≡ p → eqb f.tag 0xD0 ≡ q → eqb f.tag 0xD1 ≡ r → eqb f.tag 0xD3 ≡ s →
        (if p then x else ((q || (r || (s || false))) && y)) ≡ true → Tag f.tag
    go true q r s x y e1 e2 e3 e4 h = inl (eqb-true f.tag 0xC0 e1)
    go false true r s x y e1 e2 e3 e4 h = inr (inl (eqb-true f.tag 0xD0 e2))
    go false false true s x y e1 e2 e3 e4 h = inr (inr (inl (eqb-true f.tag 0xD1 e3)))
    go false false false true x y e1 e2 e3 e4 h = inr (inr (inr (eqb-true f.tag 0xD3 e4)))
    go false false false false x y e1 e2 e3 e4 h = absurd (false≢true h)

-- how many of them are at most t, for a t up to the last
abbrev passed : ℕ → ℕ
passed t = t / 0xC0 + t / 0xD0 + t / 0xD1 + t / 0xD3

-- none of them is 0, so that the first is above 0 too
one_more : (t u : ℕ) → Tag u → t < max 1 u → (passed t < passed u) × (passed u ≤ 4) × (0 < u)
one_more t u (inl e) h = rw e (omega arith)
one_more t u (inr (inl e)) h = rw e (omega arith)
one_more t u (inr (inr (inl e))) h = rw e (omega arith)
one_more t u (inr (inr (inr e))) h = rw e (omega arith)

-- allowed fields whose tags rise are at most four
pub few : (lcso t : ℕ) (fs : List Field) → rising_from t (tags fs) ≡ true → fields_allowed lcso fs ≡ true → length fs ≤ 4 - passed t
unfolding rising_from fields_allowed
few lcso t [] h a = omega arith
few lcso t (f ∷ fs) h a =
    let up = ltb-true t f.tag (and_left _ _ h) in
    let more = one_more t f.tag (its_tag lcso f (and_left _ _ a)) (omega arith) in
    omega (arith, few lcso f.tag fs (and_right (ltb t f.tag) _ h) (and_right (field_allowed lcso f) _ a))

-- to rise is to rise from 0
pub from_zero : (lcso : ℕ) (fs : List Field) → fields_allowed lcso fs ≡ true → rising (tags fs) ≡ rising_from 0 (tags fs)
unfolding rising rising_from fields_allowed
from_zero lcso [] a = refl
from_zero lcso (f ∷ fs) a = rw (lt-ltb 0 f.tag (one_more 0 f.tag (its_tag lcso f (and_left _ _ a)) (omega arith)).2)

-- there are some where bytes are
pub some_alike : (fs : List Field) → min 1 (length fs) ≡ min 1 (length (fields_bytes fs))
unfolding fields_bytes
some_alike [] = refl
some_alike (f ∷ fs) = omega arith
