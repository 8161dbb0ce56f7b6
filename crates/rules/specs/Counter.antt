-- Counters: value 4 bytes, threshold 4 bytes, both most significant byte first. A count moves the value by a step to its threshold.
use Rattle.std.specs.Prelude.{ℕ, ◌+◌, ◌-◌, Bool, List, ◌++◌, leb, drop, if◌then◌else◌}
use Rattle.rules.specs.declared.Direction.{Direction}
use Rattle.rules.specs.declared.Direction.TheVariants.{Up, Down}
use Rattle.rules.specs.Basic.{big_endian_4, big_endian_4_at}

-- numbers ----------------------------------------------------------------------------------------------------------------

-- the step added; counting down, taken away
unfoldable pub moved : Direction → ℕ → ℕ → ℕ
moved Up value step = value + step
moved Down value step = value - step

-- at or above the threshold; counting down, at or below it
unfoldable pub at_or_past : Direction → ℕ → ℕ → Bool
at_or_past Up value threshold = leb threshold value
at_or_past Down value threshold = leb value threshold

-- At or past the threshold the value becomes the threshold.
unfoldable pub counted : Direction → ℕ → ℕ → ℕ → ℕ
counted d value threshold step =
    let next = moved d value step in
    if at_or_past d next threshold then threshold else next

-- bytes ------------------------------------------------------------------------------------------------------------------

unfoldable pub value : List ℕ → ℕ
value content = big_endian_4_at 0 content

unfoldable pub threshold : List ℕ → ℕ
threshold content = big_endian_4_at 4 content

-- the value is at or past its threshold already
unfoldable pub exhausted : Direction → List ℕ → Bool
exhausted d content = at_or_past d (value content) (threshold content)

-- the content after a count: the threshold stays
unfoldable pub after_count : Direction → ℕ → List ℕ → List ℕ
after_count d step content = big_endian_4 (counted d (value content) (threshold content) step) ++ drop 4 content
