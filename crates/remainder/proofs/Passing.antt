-- The loop of the remainder: what is passed and what is left.
use Prim.Native.Nat.{ℕ, ◌+◌, ◌<◌, ◌≤◌}
use mathlib.Core.Path.{◌≡◌, sym, ap, ◌∙◌}
use mathlib.Core.List.{List}
use native.Mathlib.Numerals.{add-one}
use lib.ListN.{length, drop, get_or, drop_of_length-le}
use lib.Seq.{drop-cons}
use Rattle.remainder.specs.Remainder.{with_byte, remainder_from}

module _ (w : ℕ) (s : List ℕ) (x i : ℕ) (inv : remainder_from x (drop i s) ≡ w) where
  pub remainder_on : (y : ℕ) → i < length s → y ≡ with_byte x (get_or s i 0) → remainder_from y (drop (i + 1) s) ≡ w
  unfolding remainder_from
  remainder_on y h e = rw (e, add-one) (sym (ap (remainder_from x) (drop-cons s i 0 h)) ∙ inv)

  pub remainder_end : length s ≤ i → x ≡ w
  unfolding remainder_from
  remainder_end h = sym (ap (remainder_from x) (drop_of_length-le s h)) ∙ inv
