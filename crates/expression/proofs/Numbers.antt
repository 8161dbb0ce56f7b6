-- Numbers at a place: those behind the first bytes, and the bytes that a number was read from.
use Prim.Native.Nat.{ℕ, ◌+◌, ◌/◌, ◌%◌, ◌<◌}
use mathlib.Core.List.{List, ◌++◌}
use mathlib.Core.Path.{◌≡◌, sym, ap, ◌∙◌}
use native.Mathlib.Omega.{arith}
use native.Mathlib.Nat.{add_assoc}
use mir.Val
use mir.Syntax.{w8}
use lib.ListN.{length, get_or, drop}
use lib.Seq.{get_or-drop}
use Rattle.rules.specs.Basic.{little_endian, little_endian_at, little_endian_4, little_endian_4_at}
use Rattle.expression.proofs.Conditions.{two}

pub low_drop : (p k : ℕ) (b : List ℕ) → little_endian_at k (drop p b) ≡ little_endian_at (p + k) b
unfolding little_endian_at
low_drop p k b = simp (get_or-drop, add_assoc)

pub low_4_drop : (p k : ℕ) (b : List ℕ) → little_endian_4_at k (drop p b) ≡ little_endian_4_at (p + k) b
unfolding little_endian_4_at
low_4_drop p k b = simp (low_drop, add_assoc)

-- every entry is a byte
abbrev pub Bytes : List ℕ → Type 0
Bytes b = (i : ℕ) → mir.Val.Fits w8 (get_or b i 0)

module _ (b : List ℕ) (bytes : Bytes b) where
  two_small : (k : ℕ) → little_endian_at k b < 0x10000
  unfolding little_endian_at
  two_small k = omega (arith, (bytes k).fits, (bytes (k + 1)).fits)

  pub four_small : (k : ℕ) → little_endian_4_at k b < 0x100000000
  unfolding little_endian_4_at
  four_small k = omega (arith, two_small k, two_small (k + 2))

  -- the bytes of a number before what follows
  pub two_back : (k n : ℕ) → k + 1 < length b → little_endian_at k b ≡ n → little_endian n ++ drop (k + 2) b ≡ drop k b
  unfolding little_endian_at
  two_back k n l e =
      let low : n % 256 ≡ get_or b k 0 = omega (arith, (bytes k).fits) in
      let high : n / 256 ≡ get_or b (k + 1) 0 = omega (arith, (bytes k).fits) in
      rw (low, high) (sym (two b k l))

  pub four_back : (k n : ℕ) → k + 3 < length b → little_endian_4_at k b ≡ n → little_endian_4 n ++ drop (k + 4) b ≡ drop k b
  unfolding little_endian_4 little_endian_4_at
  four_back k n l e =
      let low : little_endian_at k b ≡ n % 0x10000 = omega (arith, two_small k) in
      let high : little_endian_at (k + 2) b ≡ n / 0x10000 = omega (arith, two_small k) in
      ap (λ x. little_endian (n % 0x10000) ++ x) (ap (λ j. little_endian (n / 0x10000) ++ drop j b) (sym (add_assoc k 2 2)) ∙ two_back (k + 2) _ (omega arith) high) ∙
      two_back k _ (omega arith) low
