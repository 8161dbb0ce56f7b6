-- What a computed test tells.
use Prim.Native.Nat.{ℕ, zero, suc}
use mathlib.Core.Bool.{Bool, true, false, not, ◌&&◌, ◌||◌, false≢true}
pub use mathlib.Core.Bool.{and_assoc}
use mathlib.Core.List.{List, [], ◌∷◌}
use mathlib.Core.Path.{◌≡◌, refl, sym, ap, ◌∙◌}
use mathlib.Core.Option.{Option, none, some}
use native.Mathlib.Omega.{arith}
use borrow.Author.Tests.{eqb-true, eq-eqb}
use lib.Dec.{eqb}
use lib.ListN.{get_or}
use Rattle.std.specs.Prelude.{if◌then◌else◌}
use Rattle.rules.specs.Basic.{all, same, is_some, or_else}

pub and_left : (a b : Bool) → a && b ≡ true → a ≡ true
and_left true b h = refl
and_left false b h = h

pub and_right : (a b : Bool) → a && b ≡ true → b ≡ true
and_right true b h = h
and_right false b h = absurd (false≢true h)

pub and_both : (a b : Bool) → a ≡ true → b ≡ true → a && b ≡ true
and_both a b p q = rw (p, q)

pub false_not : (t : Bool) → t ≡ false → not t ≡ true
false_not t h = rw h

pub or_parts : (a b : Bool) → a || b ≡ false → (a ≡ false) × (b ≡ false)
or_parts true b h = absurd (false≢true (sym h))
or_parts false b h = (refl, h)

pub or_left : (a b : Bool) → a || b ≡ false → a ≡ false
or_left a b h = (or_parts a b h).0

pub or_right : (a b : Bool) → a || b ≡ false → b ≡ false
or_right a b h = (or_parts a b h).1

-- what holds of either, as the test says, holds of the one chosen
pub if_by : {A : Type 0} (P : A → Type 0) (t : Bool) (a b : A) → (t ≡ true → P a) → (t ≡ false → P b) → P (if t then a else b)
if_by P true a b p q = p refl
if_by P false a b p q = q refl

-- by a test's two answers
pub by_test : {A : Type 0} (t : Bool) → (t ≡ true → A) → (t ≡ false → A) → A
by_test true p q = p refl
by_test false p q = q refl

pub some_else : {A : Type 0} (m : Option A) (d : A) → is_some m ≡ true → m ≡ some (or_else m d)
some_else none d h = absurd (false≢true h)
some_else (some a) d h = refl

-- the test at place k of those that all hold
pub at_place : (ts : List Bool) → all ts ≡ true → (k : ℕ) → get_or ts k true ≡ true
unfolding all
at_place [] h k = refl
at_place (t ∷ ts) h zero = and_left t (all ts) h
at_place (t ∷ ts) h (suc k) = at_place ts (and_right t (all ts) h) k

pub same_refl : (xs : List ℕ) → same xs xs ≡ true
unfolding same
same_refl [] = refl
same_refl (x ∷ xs) = and_both (eqb x x) (same xs xs) (eq-eqb x x refl) (same_refl xs)

pub same_eq : (xs ys : List ℕ) → same xs ys ≡ true → xs ≡ ys
unfolding same
same_eq [] [] h = refl
same_eq [] (y ∷ ys) h = absurd (false≢true h)
same_eq (x ∷ xs) [] h = absurd (false≢true h)
same_eq (x ∷ xs) (y ∷ ys) h =
    let p = eqb-true x y (and_left (eqb x y) (same xs ys) h) in
    let q = same_eq xs ys (and_right (eqb x y) (same xs ys) h) in
    cc

-- what is read from bytes, where it is allowed and they are its bytes
pub read_checked : {A : Type 0} (allowed : A → Bool) (bytes : A → List ℕ) (b : List ℕ) (x y : A) →
    (if allowed x && same (bytes x) b then some x else none) ≡ some y → (bytes y ≡ b) × (allowed y ≡ true)
read_checked allowed bytes b x y =
    if_by (λ m. m ≡ some y → (bytes y ≡ b) × (allowed y ≡ true)) (allowed x && same (bytes x) b) (some x) none
    (λ t h.
    let e : x ≡ y = cc in
    (ap bytes (sym e) ∙ same_eq (bytes x) b (and_right (allowed x) _ t), ap allowed (sym e) ∙ and_left (allowed x) _ t))
    (λ t h. let z : ◌≡◌ {A = ℕ} 0 1 = cc in absurd (omega arith))
