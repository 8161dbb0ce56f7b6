-- Exclusive or is associative, and eight bits of a number are those of its low byte, with its high part. Assumes nothing.
use Prim.Native.Nat.{ℕ, zero, suc, ◌+◌, ◌*◌, ◌/◌, ◌%◌, ◌<◌, ◌≤◌}
use mathlib.Core.Path.{◌≡◌, refl, sym, ap, ◌∙◌}
use mathlib.Core.Bool.{Bool, true, false}
use native.Mathlib.Omega.{arith}
use native.Mathlib.Nat.{mul_assoc}
use lib.Bits.{bit_xor, differ, xor_step, xor_shr, xor_mod, xor_comm, xor_shifted}
use lib.Dec.{eqb}
use Rattle.std.specs.Prelude.{if◌then◌else◌}
use Rattle.remainder.specs.Remainder.{bit_step, eight_steps}

-- of single digits, by cases
digit : (x y z : ℕ) → x < 2 → y < 2 → z < 2 → differ (bit_xor x y) z ≡ differ x (bit_xor y z)
digit zero zero z hx hy hz = refl
digit zero (suc zero) zero hx hy hz = refl
digit zero (suc zero) (suc zero) hx hy hz = refl
digit zero (suc zero) (suc (suc z)) hx hy hz = absurd (omega arith)
digit (suc zero) zero z hx hy hz = refl
digit (suc zero) (suc zero) zero hx hy hz = refl
digit (suc zero) (suc zero) (suc zero) hx hy hz = refl
digit (suc zero) (suc zero) (suc (suc z)) hx hy hz = absurd (omega arith)
digit zero (suc (suc y)) z hx hy hz = absurd (omega arith)
digit (suc zero) (suc (suc y)) z hx hy hz = absurd (omega arith)
digit (suc (suc x)) y z hx hy hz = absurd (omega arith)

bit_lt : (x : ℕ) → x % 2 < 2
bit_lt x = omega arith

assoc : (n a b c : ℕ) → a ≤ n → bit_xor (bit_xor a b) c ≡ bit_xor a (bit_xor b c)
assoc zero zero b c h = refl
assoc zero (suc a) b c h = absurd (omega arith)
assoc (suc n) a b c h =
    xor_step (bit_xor a b) c
    ∙ rw (xor_shr a b 1, xor_mod a b 1, assoc n (a / 2) (b / 2) (c / 2) (omega arith), digit (a % 2) (b % 2) (c % 2) (bit_lt a) (bit_lt b) (bit_lt c), ← xor_shr b c 1, ← xor_mod b c 1)
    (sym (xor_step a (bit_xor b c)))

pub xor_assoc : (a b c : ℕ) → bit_xor (bit_xor a b) c ≡ bit_xor a (bit_xor b c)
xor_assoc a b c = assoc a a b c (omega arith)

-- a bit of a number that has an even part: the even part is halved
taken : (t : Bool) (a y : ℕ) → if t then bit_xor (bit_xor a y) 0x8408 else bit_xor a y ≡ bit_xor a (if t then bit_xor y 0x8408 else y)
taken true a y = xor_assoc a y 0x8408
taken false a y = refl

low : (a y : ℕ) → bit_xor (a * 2) y % 2 ≡ y % 2
low a y = xor_mod (a * 2) y 1 ∙ ap (λ (n : ℕ). bit_xor n (y % 2)) (let e : a * 2 % 2 ≡ 0 = omega arith in e)

high : (a y : ℕ) → bit_xor (a * 2) y / 2 ≡ bit_xor a (y / 2)
high a y = xor_shr (a * 2) y 1 ∙ ap (λ (n : ℕ). bit_xor n (y / 2)) (let e : a * 2 / 2 ≡ a = omega arith in e)

down : (h m y : ℕ) → bit_step (bit_xor (h * (m * 2)) y) ≡ bit_xor (h * m) (bit_step y)
unfolding bit_step
down h m y = rw (← mul_assoc h m 2, low, high) (taken (eqb (y % 2) 1) (h * m) (y / 2))

-- eight bits of a number, by its low byte: what a table of 256 is good for
pub byte : (x : ℕ) → eight_steps x ≡ bit_xor (eight_steps (x % 256)) (x / 256)
unfolding eight_steps
byte x =
    let h = x / 256 in
    let l = x % 256 in
    let apart : x ≡ bit_xor (h * 256) l = (let e : x ≡ h * 256 + l = omega arith in e ∙ sym (xor_shifted h 8 l (omega arith))) in
    let e₁ : bit_step x ≡ bit_xor (h * 128) (bit_step l) = ap bit_step apart ∙ down h 128 l in
    let e₂ = ap bit_step e₁ ∙ down h 64 (bit_step l) in
    let e₃ = ap bit_step e₂ ∙ down h 32 (bit_step (bit_step l)) in
    let e₄ = ap bit_step e₃ ∙ down h 16 (bit_step (bit_step (bit_step l))) in
    let e₅ = ap bit_step e₄ ∙ down h 8 (bit_step (bit_step (bit_step (bit_step l)))) in
    let e₆ = ap bit_step e₅ ∙ down h 4 (bit_step (bit_step (bit_step (bit_step (bit_step l))))) in
    let e₇ = ap bit_step e₆ ∙ down h 2 (bit_step (bit_step (bit_step (bit_step (bit_step (bit_step l)))))) in
    let e₈ = ap bit_step e₇ ∙ down h 1 (bit_step (bit_step (bit_step (bit_step (bit_step (bit_step (bit_step l))))))) in
    e₈ ∙ ap (λ (n : ℕ). bit_xor n (eight_steps l)) (let e : h * 1 ≡ h = omega arith in e) ∙ xor_comm h (eight_steps l)
