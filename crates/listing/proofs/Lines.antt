-- From answers to lines, and from lines to what is printed.
use Prim.Native.Nat.{ℕ, zero, suc, ◌+◌, ◌-◌, ◌*◌, ◌≤◌, ◌<◌, min}
use mathlib.Core.Path.{◌≡◌, refl, ap, ◌∙◌}
use mathlib.Core.Bool.{Bool, true, false}
use mathlib.Core.List.{List, [], ◌∷◌, ◌++◌}
use native.Mathlib.Omega.{arith}
use native.Mathlib.Nat.{zero-add, add-sub_cancel_left}
use native.Mathlib.Numerals.{add-one}
use borrow.Author.Tests.{lt-ltb, le-ltb}
use lib.Dec.{ltb}
use lib.ListN.{length, get_or, take, drop, length-drop, drop_of_length-le}
use lib.Seq.{drop-cons, drop-drop}
use Rattle.rules.specs.declared.Session.{Session}
use Rattle.rules.specs.Verdict.{Verdict, accepted}
use Rattle.std.specs.Prelude.{Ok, Err, if◌then◌else◌}
use Rattle.rules.specs.Basic.{zeros, big_endian_at}
use Rattle.rules.specs.Hex.{ascii}
use Rattle.rules.specs.Object.{Object}
use Rattle.rules.specs.Factory.{factory_store, fresh_session, factory_made}
use Rattle.rules.specs.Refusals.{Ruling}
use Rattle.rules.specs.Step.{After, declined, performed, answered, judged, unanswered, step}
use Rattle.rules.specs.Program.{digit, upper_hex, line, response_in, answer_line, lines, printed}
use Rattle.listing.specs.Text.{in_front, shown_size, Put}
use Rattle.listing.proofs.Texts.{Onward, put_next, onward, onward_last, onward_end, take_min}

-- the outcome is one digit ------------------------------------------------------------------------------------------------------

either_small : (t : Bool) (v : Verdict) (p : Ruling) (room store : List ℕ) (os : List Object) (s s' : Session) →
    (if t then unanswered room store s else answered v p room store os s').outcome < 16
unfolding unanswered answered declined performed
either_small true v p room store os s s' = omega arith
either_small false (Err r) p room store os s s' = omega arith
either_small false (Ok _) p room store os s s' = omega arith

-- `put_line`
module _ (n : ℕ) (room' store' : List ℕ) (s' : Session) (c store : List ℕ) (s : Session)
    (e : record { outcome = n; room = room'; store = store'; session = s' } ≡ step c (zeros 1504) store s) where
  pub outcome_small : n < 16
  unfolding step judged
  outcome_small = rw (ap (λ (a : After). a.outcome) e) (either_small (ltb (length (zeros 1504)) 4) _ _ (zeros 1504) store _ s _)

  pub line_put : (at d n₁ n₂ n₃ n₄ : ℕ) (o o₁ o₂ o₃ o₄ : List ℕ) → d ≡ digit n
      → Put at (d ∷ []) o o₁ n₁ → Put n₁ (0x20 ∷ []) o₁ o₂ n₂ → Put n₂ (upper_hex (response_in room')) o₂ o₃ n₃ → Put n₃ (0x0A ∷ []) o₃ o₄ n₄
      → Put at (answer_line (step c (zeros 1504) store s)) o o₄ n₄
  unfolding answer_line line
  line_put at d n₁ n₂ n₃ n₄ o o₁ o₂ o₃ o₄ f p q r t = rw (← e, ← f) (put_next (put_next (put_next p q) r) t)

  pub line_store : store' ≡ (step c (zeros 1504) store s).store
  line_store = ap (λ (a : After). a.store) e

  pub line_session : s' ≡ (step c (zeros 1504) store s).session
  line_session = ap (λ (a : After). a.session) e

-- `put_response`: a response that fills the room or less
pub response_put : (at n k z : ℕ) (room o after : List ℕ) → k ≡ big_endian_at 2 room → z ≡ min (4 + k) (length room) → Put at (upper_hex (take z room)) o after n
    → Put at (upper_hex (response_in room)) o after n
unfolding response_in
response_put at n k z room o after e f p = rw (f, take_min, e) at p

-- `put_cut`
pub cut_put : (at n : ℕ) (o after : List ℕ) → Put at (99 ∷ 117 ∷ 116 ∷ 10 ∷ []) o after n → Put at (line (ascii "cut")) o after n
unfolding line ascii
cut_put at n o after p = p

-- lines -------------------------------------------------------------------------------------------------------------------------

-- more commands allowed than there are bytes
enough : (n m : ℕ) (xs store : List ℕ) (s : Session) → length xs ≤ n → length xs ≤ m → lines n xs store s ≡ lines m xs store s
unfolding lines
enough zero zero xs store s h k = refl
enough zero (suc m) [] store s h k = refl
enough zero (suc m) (x ∷ xs) store s h k = absurd (omega arith)
enough (suc n) zero [] store s h k = refl
enough (suc n) zero (x ∷ xs) store s h k = absurd (omega arith)
enough (suc n) (suc m) [] store s h k = refl
enough (suc n) (suc m) (x ∷ []) store s h k = refl
enough (suc n) (suc m) (x ∷ y ∷ rest) store s h k =
    let size = big_endian_at 0 (x ∷ y ∷ []) in
    let a = step (take size rest) (zeros 1504) store s in
    ap (λ more. if ltb (length rest) size then line (ascii "cut") else answer_line a ++ more)
    (enough n m (drop size rest) a.store a.session (simp length-drop (omega arith)) (simp length-drop (omega arith)))

-- the lines for all of an input
abbrev pub lines_of : List ℕ → List ℕ → Session → List ℕ
lines_of input store s = lines (length input) input store s

one_line : (x y : ℕ) (rest store : List ℕ) (s : Session) → 256 * x + y ≤ length rest →
    let a = step (take (256 * x + y) rest) (zeros 1504) store s in
    lines_of (x ∷ y ∷ rest) store s ≡ answer_line a ++ lines_of (drop (256 * x + y) rest) a.store a.session
unfolding lines
one_line x y rest store s h =
    let size = 256 * x + y in
    let a = step (take size rest) (zeros 1504) store s in
    rw (le-ltb (length rest) size h)
    (ap (λ more. answer_line a ++ more)
    (enough (suc (length rest)) (length (drop size rest)) (drop size rest) a.store a.session (simp length-drop (omega arith)) (omega arith)))

no_line : (x y : ℕ) (rest store : List ℕ) (s : Session) → length rest < 256 * x + y → lines_of (x ∷ y ∷ rest) store s ≡ line (ascii "cut")
unfolding lines
no_line x y rest store s h = rw (lt-ltb (length rest) (256 * x + y) h)

-- the length that leads a command, and what comes after it
led : (input : List ℕ) (at : ℕ) → 2 ≤ length input - at → drop at input ≡ get_or input at 0 ∷ get_or input (at + 1) 0 ∷ drop (at + 2) input
led input at h =
    let past : at + 2 ≡ suc (suc at) = omega arith in
    rw (past, add-one, drop-cons input at 0 (omega arith), drop-cons input (suc at) 0 (omega arith))

-- the loop of `put_lines`
module _ (input all o₀ store o : List ℕ) (s : Session) (at₀ at next : ℕ) (w : Onward at₀ all o₀ next (lines_of (drop at input) store s) o) where
  module _ (size : ℕ) (e : size ≡ big_endian_at at input) (h : 2 ≤ length input - at) where
    pub lines_on : (o₁ store₁ : List ℕ) (s₁ : Session) (n₁ : ℕ) → size ≤ length input - at - 2 →
        let a = step (take (at + 2 + size - (at + 2)) (drop (at + 2) input)) (zeros 1504) store s in
        Put next (answer_line a) o o₁ n₁ → store₁ ≡ a.store → s₁ ≡ a.session
        → Onward at₀ all o₀ n₁ (lines_of (drop (at + 2 + size) input) store₁ s₁) o₁
    lines_on o₁ store₁ s₁ n₁ k p f g =
        let within : 256 * get_or input at 0 + get_or input (at + 1) 0 ≤ length (drop (at + 2) input) = simp length-drop (omega arith) in
        onward w p (rw (led input at h, one_line (get_or input at 0) _ _ store s within, f, g, add-sub_cancel_left (at + 2) size, e, drop-drop))

    pub lines_cut : (o₁ : List ℕ) (n₁ : ℕ) → length input - at - 2 < size → Put next (line (ascii "cut")) o o₁ n₁ → Put at₀ all o₀ o₁ n₁
    lines_cut o₁ n₁ k p =
        onward_last w p (rw (led input at h) (no_line (get_or input at 0) (get_or input (at + 1) 0) (drop (at + 2) input) store s (simp length-drop (omega arith))))

  pub length_cut : (o₁ : List ℕ) (n₁ : ℕ) → at < length input → length input - at < 2 → Put next (line (ascii "cut")) o o₁ n₁ → Put at₀ all o₀ o₁ n₁
  unfolding lines
  length_cut o₁ n₁ h k p = onward_last w p (rw (drop-cons input at 0 h, drop_of_length-le input {i = suc at} (omega arith)))

  pub lines_end : length input ≤ at → next ≤ length o → Put at₀ all o₀ o next
  unfolding lines
  lines_end h k = onward_end w (rw (drop_of_length-le input h)) k

-- `print_all` -------------------------------------------------------------------------------------------------------------------

pub shown : (text o after : List ℕ) (n : ℕ) → Put 0 text o after n → (n ≡ shown_size text o) × (after ≡ in_front text o)
unfolding shown_size
shown text o after n p = (p.count ∙ rw zero-add, p.bytes)

abbrev too_long : List ℕ
too_long = 116 ∷ 111 ∷ 111 ∷ 32 ∷ 108 ∷ 111 ∷ 110 ∷ 103 ∷ 10 ∷ []

pub long_printed : (input o after : List ℕ) (n : ℕ) → 16384 < length input → Put 0 too_long o after n → Put 0 (printed input) o after n
unfolding printed line ascii
long_printed input o after n h p = rw (lt-ltb 16384 (length input) h) p

pub lines_printed : (input o after store : List ℕ) (n : ℕ) (s : Session) → length input ≤ 16384 → store ≡ factory_made (zeros 6024) → s ≡ fresh_session
    → Put 0 (lines (length input) input store s) o after n → Put 0 (printed input) o after n
unfolding printed factory_made
lines_printed input o after store n s h e f p = let made : store ≡ factory_store = e in rw (le-ltb 16384 (length input) h, ← made, ← f) p
