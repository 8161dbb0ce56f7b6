-- Each entry of the table.
use Prim.Native.Nat.{ℕ, zero, suc, ◌+◌, ◌/◌, ◌%◌, ◌<◌}
use mathlib.Core.Path.{◌≡◌, sym, ap, ◌∙◌}
use mathlib.Core.List.{List}
use native.Mathlib.Nat.{add-zero, zero-add, add-suc, suc-add, le_of_suc-le-suc, not-suc-le-zero}
use native.Mathlib.Omega.{arith}
use lib.Bits.{bit_xor}
use lib.ListN.{get_or}
use Rattle.remainder.specs.Remainder.{eight_steps, entries, table, with_byte}
use Rattle.remainder.proofs.Xor.{byte}

entry_from : (n i k : ℕ) → k < n → get_or (entries n i) k 0 ≡ eight_steps (i + k)
unfolding entries
entry_from zero i k h = absurd (not-suc-le-zero h)
entry_from (suc n) i zero h = ap eight_steps (sym (add-zero i))
entry_from (suc n) i (suc k) h = entry_from n (suc i) k (le_of_suc-le-suc h) ∙ ap eight_steps (suc-add i k ∙ sym (add-suc i k))

pub entry_at : (k : ℕ) → k < 256 → get_or table k 0 ≡ eight_steps k
unfolding table
entry_at k h = entry_from 256 0 k h ∙ ap eight_steps (zero-add k)

-- `with_byte`
pub with_byte_by : (es : List ℕ) (x b : ℕ) → es ≡ table → bit_xor (get_or es (bit_xor x b % 256) 0) (bit_xor x b / 256) ≡ with_byte x b
unfolding with_byte
with_byte_by es x b e =
    let y = bit_xor x b in
    let i : y % 256 < 256 = omega arith in
    rw (e, entry_at (y % 256) i) (sym (byte y))
