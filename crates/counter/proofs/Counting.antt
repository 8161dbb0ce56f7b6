-- The law of counting, once for both directions, and what the code's arms say of the rule.
use Prim.Native.Nat.{ℕ, ◌+◌, ◌-◌, ◌<◌, min, max}
use mathlib.Core.Path.{◌≡◌, ◌∙◌}
use mathlib.Core.Bool.{true}
use borrow.Author.Tests.{le-leb, leb-true, leb-false}
use native.Mathlib.Omega.{arith}
use lib.Dec.{leb}
use Rattle.rules.specs.declared.Direction.{Direction}
use Rattle.rules.specs.declared.Direction.TheVariants.{Up, Down}
use Rattle.rules.specs.Counter.{moved, at_or_past, counted}
use Rattle.laws.proofs.Tests.{if_by}
use Rattle.counter.specs.Gaps.{gap, Moves}

-- a value is at or past its threshold exactly where there is no gap
pub past_no_gap : (d : Direction) (v t : ℕ) → at_or_past d v t ≡ true → gap d v t ≡ 0
unfolding at_or_past gap
past_no_gap Up v t h = omega (arith, leb-true t v h)
past_no_gap Down v t h = omega (arith, leb-true v t h)

pub no_gap_past : (d : Direction) (v t : ℕ) → gap d v t ≡ 0 → at_or_past d v t ≡ true
unfolding at_or_past gap
no_gap_past Up v t h = le-leb t v (omega arith)
no_gap_past Down v t h = le-leb v t (omega arith)

-- a count up ends at the smaller of value plus step and threshold
pub counted_up : (v t s : ℕ) → counted Up v t s ≡ min (v + s) t
unfolding counted moved at_or_past
counted_up v t s =
    if_by (λ w. w ≡ min (v + s) t) (leb t (v + s)) t (v + s) (λ h. omega (arith, leb-true t (v + s) h)) (λ h. omega (arith, leb-false t (v + s) h))

-- a count down ends at the larger of value less step and threshold
pub counted_down : (v t s : ℕ) → counted Down v t s ≡ max (v - s) t
unfolding counted moved at_or_past
counted_down v t s =
    if_by (λ w. w ≡ max (v - s) t) (leb (v - s) t) t (v - s) (λ h. omega (arith, leb-true (v - s) t h)) (λ h. omega (arith, leb-false (v - s) t h))

-- the gap falls by the smaller of step and gap, and the value does not pass its threshold
pub count_moves : (d : Direction) (v t s : ℕ) → Moves d v t s (counted d v t s)
unfolding gap
count_moves Up v t s = rw counted_up (record { nearer = omega arith; not_past = omega arith })
count_moves Down v t s = rw counted_down (record { nearer = omega arith; not_past = omega arith })

down_gap : (v t s : ℕ) → v - t - min s (v - t) ≡ v - s - t
down_gap v t s = omega arith

down_ends : (v t s w : ℕ) → w - t ≡ v - s - t → t - w ≡ 0 → w ≡ max (v - s) t
down_ends v t s w e k = omega arith

-- nothing else moves so
pub count_only : (d : Direction) (v t s w : ℕ) → Moves d v t s w → w ≡ counted d v t s
unfolding gap
count_only Up v t s w m = rw counted_up (omega arith)
count_only Down v t s w m = rw counted_down (down_ends v t s w (m.nearer ∙ down_gap v t s) m.not_past)

-- a value and a threshold of four bytes stay so
pub count_fits : (n : ℕ) (d : Direction) (v t s : ℕ) → v < n → t < n → counted d v t s < n
count_fits n Up v t s h k = rw counted_up (omega arith)
count_fits n Down v t s h k = rw counted_down (omega arith)
