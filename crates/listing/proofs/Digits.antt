-- Digits, two to a byte.
use Prim.Native.Nat.{ℕ, ◌+◌, ◌/◌, ◌%◌, ◌≤◌, ◌<◌}
use mathlib.Core.Path.{◌≡◌}
use mathlib.Core.List.{List, [], ◌∷◌}
use native.Mathlib.Numerals.{add-one}
use borrow.Author.Tests.{lt-ltb, le-ltb}
use lib.ListN.{length, get_or, drop, drop_of_length-le}
use lib.Seq.{drop-cons}
use Rattle.rules.specs.Program.{digit, upper_hex}
use Rattle.listing.specs.Text.{Put}
use Rattle.listing.proofs.Texts.{Onward, put_next, onward, onward_end}

pub low_digit : (n : ℕ) → n < 10 → 0x30 + n ≡ digit n
unfolding digit
low_digit n h = rw (lt-ltb n 10 h)

pub high_digit : (n : ℕ) → 10 ≤ n → 0x37 + n ≡ digit n
unfolding digit
high_digit n h = rw (le-ltb n 10 h)

-- `put_pair`
pub pair_put : (at b d e n₁ n₂ : ℕ) (o o₁ o₂ : List ℕ) → d ≡ digit (b / 16) → e ≡ digit (b % 16)
    → Put at (d ∷ []) o o₁ n₁ → Put n₁ (e ∷ []) o₁ o₂ n₂ → Put at (upper_hex (b ∷ [])) o o₂ n₂
unfolding upper_hex
pair_put at b d e n₁ n₂ o o₁ o₂ p q f g = rw (← p, ← q) (put_next f g)

-- the loop of `put_hex`
module _ (at₀ at i : ℕ) (b o₀ o : List ℕ) (w : Onward at₀ (upper_hex b) o₀ at (upper_hex (drop i b)) o) where
  pub hex_on : (o₁ : List ℕ) (n₁ : ℕ) → i < length b → Put at (upper_hex (get_or b i 0 ∷ [])) o o₁ n₁
      → Onward at₀ (upper_hex b) o₀ n₁ (upper_hex (drop (i + 1) b)) o₁
  unfolding upper_hex
  hex_on o₁ n₁ h p = onward w p (rw (add-one, drop-cons b i 0 h))

  pub hex_end : length b ≤ i → at ≤ length o → Put at₀ (upper_hex b) o₀ o at
  unfolding upper_hex
  hex_end h k = onward_end w (rw (drop_of_length-le b h)) k
