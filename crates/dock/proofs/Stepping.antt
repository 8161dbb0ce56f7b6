-- One byte: the lent bytes with it.
use Prim.Native.Nat.{ℕ, ◌+◌, ◌<◌}
use mathlib.Core.Path.{◌≡◌}
use mathlib.Core.List.{List, [], ◌∷◌, ◌++◌}
use native.Mathlib.Numerals.{add-one}
use lib.ListN.{length, take, set}
use lib.Seq.{take-suc-set}

-- the front of the lent bytes with one byte more
pub front_more : (buffer : List ℕ) (n b : ℕ) → n < length buffer → take (n + 1) (set buffer n b) ≡ take n buffer ++ (b ∷ [])
front_more buffer n b h = rw add-one (take-suc-set buffer n b h)
