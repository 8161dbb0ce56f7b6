-- Bytes that are all zero.
use Prim.Native.Nat.{ℕ, zero, suc, ◌+◌, ◌≤◌, ◌<◌}
use mathlib.Core.Path.{◌≡◌, refl, ◌∙◌}
use mathlib.Core.Bool.{Bool, true, ◌&&◌, and-true}
use mathlib.Core.List.{List, [], ◌∷◌, ◌++◌}
use native.Mathlib.Omega.{arith}
use native.Mathlib.Numerals.{add-one}
use borrow.Author.Tests.{ne_eqb}
use lib.Bits.{bit_or, or_add_and, and_le_r}
use lib.Dec.{eqb, eqb-suc-zero}
use lib.ListN.{length, get_or, drop, length-replicate}
use lib.Seq.{drop-cons, drop-length}
use Rattle.rules.specs.Basic.{same, zeros}
use Rattle.laws.proofs.Tests.{and_assoc, same_refl, same_eq}
use Rattle.primitives.specs.Bytes.{all_zero}

-- an or is zero where both are
or_none : (a b : ℕ) → eqb (bit_or a b) 0 ≡ (eqb a 0 && eqb b 0)
or_none zero b = refl
or_none (suc a) b = ne_eqb (bit_or (suc a) b) 0 (λ e. omega (arith, or_add_and (suc a) b, and_le_r (suc a) b)) ∙ rw (eqb-suc-zero a)

-- the loop of `all_zero` -----------------------------------------------------------------------------------------------

module _ (w : Bool) (s : List ℕ) (all i : ℕ) (inv : w ≡ (eqb all 0 && all_zero (drop i s))) where
  pub zero_on : i < length s → w ≡ (eqb (bit_or all (get_or s i 0)) 0 && all_zero (drop (i + 1) s))
  unfolding all_zero same
  zero_on h = rw (inv, drop-cons s i 0, or_none, add-one, and_assoc)

  pub zero_end : i ≤ length s → length s ≤ i → eqb all 0 ≡ w
  unfolding all_zero same
  zero_end h k = let e : i ≡ length s = omega arith in rw (inv, e, drop-length, and-true)

pub zeros_are : (n : ℕ) → all_zero (zeros n) ≡ true
unfolding all_zero
zeros_are n = rw (length-replicate {A = ℕ} n 0) (same_refl (zeros n))

pub are_zeros : (b : List ℕ) → all_zero b ≡ true → b ≡ zeros (length b)
unfolding all_zero
are_zeros b h = same_eq b (zeros (length b)) h

pub zeros_joined : (x y : List ℕ) → all_zero (x ++ y) ≡ (all_zero x && all_zero y)
unfolding all_zero same
zeros_joined [] y = refl
zeros_joined (a ∷ x) y = rw (zeros_joined x y, and_assoc)
