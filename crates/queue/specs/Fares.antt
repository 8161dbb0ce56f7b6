-- Words for the contracts of the check.
use Rattle.std.specs.Prelude.{ℕ, ◌+◌, ◌-◌, Bool, List, [], ◌∷◌, eqb, leb, ltb, length, if◌then◌else◌}
use Rattle.rules.specs.Basic.{all, little_endian_at, little_endian_4_at}
use Rattle.rules.specs.Queue.{fare_head, queue_head, fare_kind}

-- the fare numbered n stands whole at p, with an allowed length
unfoldable pub whole_fare : ℕ → ℕ → List ℕ → Bool
whole_fare p n b =
    all
    (leb (fare_head + 1) (length b - p) ∷
    leb (fare_head + 1) (little_endian_at p b) ∷
    leb (little_endian_at p b) (fare_head + 200) ∷
    leb (little_endian_at p b) (length b - p) ∷
    eqb (little_endian_at (p + 2) b) fare_kind ∷
    eqb (little_endian_4_at (p + 4) b) n ∷ [])

-- the number in the first fare; the next number where there is none
unfoldable pub first_number : List ℕ → ℕ
first_number b = if ltb (length b) (queue_head + fare_head) then little_endian_4_at 0 b else little_endian_4_at (queue_head + 4) b
