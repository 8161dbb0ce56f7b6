-- The bytes of an expression's conditions, chunk by chunk: three of a condition, and the byte that joins it to the next.
use Prim.Native.Nat.{ℕ, ◌+◌, ◌%◌, ◌≤◌, ◌<◌, min}
use mathlib.Core.Path.{◌≡◌, refl, ap, ◌∙◌}
use mathlib.Core.List.{List, [], ◌∷◌, ◌++◌}
use native.Mathlib.Omega.{arith}
use lib.ListN.{length, get_or, length-append}

-- the bytes s begin with the chunk x, before r
module _ (s x r : List ℕ) (parts : s ≡ x ++ r) (size : length x ≡ min 4 (length s)) (whole : length s % 4 ≡ 3) where
  pub total : length s ≡ length x + length r
  total = ap length parts ∙ length-append x r

  pub three_there : 3 ≤ length x
  three_there = omega (arith, size, whole)

  pub rest_whole : 0 < length r → length r % 4 ≡ 3
  rest_whole h = omega (arith, size, whole, total)

  -- the last condition
  pub last_chunk : length x < 4 → s ≡ get_or x 0 0 ∷ get_or x 1 0 ∷ get_or x 2 0 ∷ []
  last_chunk h = parts ∙ go x r (omega (arith, three_there)) (omega (arith, size, total))
    where
      go : (x r : List ℕ) → length x ≡ 3 → length r ≡ 0 → x ++ r ≡ get_or x 0 0 ∷ get_or x 1 0 ∷ get_or x 2 0 ∷ []
      go (a ∷ b ∷ c ∷ []) [] h k = refl
      go (a ∷ b ∷ c ∷ []) (d ∷ r) h k = absurd (omega (arith, k))
      go (a ∷ b ∷ c ∷ d ∷ x) r h k = absurd (omega (arith, h))
      go (a ∷ b ∷ []) r h k = absurd (omega (arith, h))
      go (a ∷ []) r h k = absurd (omega (arith, h))
      go [] r h k = absurd (omega (arith, h))

  -- one that is joined to the next
  pub joined_chunk : 4 ≤ length x → s ≡ get_or x 0 0 ∷ get_or x 1 0 ∷ get_or x 2 0 ∷ get_or x 3 0 ∷ r
  joined_chunk h = parts ∙ go x (omega (arith, size))
    where
      go : (x : List ℕ) → length x ≡ 4 → x ++ r ≡ get_or x 0 0 ∷ get_or x 1 0 ∷ get_or x 2 0 ∷ get_or x 3 0 ∷ r
      go (a ∷ b ∷ c ∷ d ∷ []) h = refl
      go (a ∷ b ∷ c ∷ d ∷ e ∷ x) h = absurd (omega (arith, h))
      go (a ∷ b ∷ c ∷ []) h = absurd (omega (arith, h))
      go (a ∷ b ∷ []) h = absurd (omega (arith, h))
      go (a ∷ []) h = absurd (omega (arith, h))
      go [] h = absurd (omega (arith, h))
