-- Bytes put at a place, and bytes that are all zero.
use Rattle.std.specs.Prelude.{ℕ, ◌+◌, Bool, List, ◌++◌, length, take, drop}
use Rattle.rules.specs.Basic.{same, zeros}

-- xs with ys in place of as many bytes from index a on
unfoldable pub over : ℕ → List ℕ → List ℕ → List ℕ
over a ys xs = take a xs ++ (ys ++ drop (a + length ys) xs)

unfoldable pub all_zero : List ℕ → Bool
all_zero b = same b (zeros (length b))
