-- The way of a search for an object: the records from the front of a store up to the first numbered at or above it.
use Rattle.std.specs.Prelude.{ℕ, Bool, false, ◌&&◌, ◌||◌, List, [], ◌∷◌, leb, length, take, if◌then◌else◌}
use Rattle.rules.specs.Basic.{same}
use Rattle.rules.specs.Object.{Object, all_allowed}
use Rattle.rules.specs.Layout.{slot_size, size, pack, read_records_with}

-- objects up to the first numbered at or above n, and that one
unfoldable pub up_to : ℕ → List Object → List Object
up_to n [] = []
up_to n (o ∷ os) = let rest = up_to n os in o ∷ (if leb n o.number then [] else rest)

-- one of them is numbered at or above n
unfoldable pub reaches : ℕ → List Object → Bool
reaches n [] = false
reaches n (o ∷ os) = leb n o.number || reaches n os

-- the objects whose records are read on the way to n: no store has more records than bytes
unfoldable pub way : ℕ → List ℕ → List Object
way n b = up_to n (read_records_with slot_size (length b) b)

-- the bytes up to the end of the way
abbrev pub front : ℕ → List ℕ → List ℕ
front n b = take (size (way n b)) b

-- the way is sound: those bytes are the records of allowed objects
unfoldable pub leads : ℕ → List ℕ → Bool
leads n b = all_allowed (way n b) && same (pack (way n b)) (front n b)
