-- A response that is written piece by piece.
use Rattle.std.specs.Prelude.{ℕ, List, ◌∷◌, ◌++◌}
use Rattle.rules.specs.Basic.{big_endian}
use Rattle.primitives.specs.Bytes.{over}

-- status 00 and an OutLen of n, then x, which is written so far
unfoldable pub begun : ℕ → List ℕ → List ℕ → List ℕ
begun n x room = over 0 ((0x00 ∷ 0x00 ∷ big_endian n) ++ x) room
