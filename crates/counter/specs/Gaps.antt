-- The gap between a value and its threshold, and how a count closes it, once for both directions.
use Rattle.std.specs.Prelude.{ℕ, ◌-◌, min, ◌≡◌}
use Rattle.rules.specs.declared.Direction.{Direction}
use Rattle.rules.specs.declared.Direction.TheVariants.{Up, Down}

abbrev pub opposite : Direction → Direction
opposite Up = Down
opposite Down = Up

-- how far the value is from its threshold; 0 at or past it
unfoldable pub gap : Direction → (value threshold : ℕ) → ℕ
gap Up v t = t - v
gap Down v t = v - t

-- a count of s from v to w: the gap falls by the smaller of step and gap, and the value does not pass its threshold
pub record Moves (d : Direction) (v t s w : ℕ) : Type 0 where
  pub nearer : gap d w t ≡ gap d v t - min s (gap d v t)
  pub not_past : gap (opposite d) w t ≡ 0
