-- Bytes taken at once: where they are put, and what is judged.
use Prim.Native.Nat.{ℕ, ◌+◌, ◌-◌, ◌≤◌, ◌<◌, min}
use mathlib.Core.Path.{◌≡◌, refl, ap, sym, ◌∙◌}
use mathlib.Core.List.{List, ◌++◌, append_assoc}
use native.Mathlib.Omega.{arith}
use lib.ListN.{length, take, drop, length-append}
use lib.Seq.{length-take-le, take_at}
use Rattle.primitives.specs.Bytes.{over}
use Rattle.frames.specs.declared.FrameLength.{FrameLength}
use Rattle.frames.specs.declared.Step.{Step}
use Rattle.frames.specs.declared.Step.TheVariants.{Whole, NotYet, Stopped}
use Rattle.frames.specs.Frames.{longest, judged_by_head, judged}
use Rattle.dock.specs.Parts.{judged_after, next_judged, reach}
use Rattle.dock.proofs.Ahead.{reached}

-- `put_behind`: the bytes judged are those collected before, and those put behind them
pub behind_judged : (n : ℕ) (buffer bytes kept : List ℕ) (r : Step) → kept ≡ over n bytes buffer → n + length bytes ≤ length buffer
    → r ≡ judged (take (n + length bytes) kept) → r ≡ judged (take n buffer ++ bytes)
unfolding over
behind_judged n buffer bytes kept r e h f =
    let l : length (take n buffer ++ bytes) ≡ n + length bytes = length-append (take n buffer) bytes ∙ ap (λ k. k + length bytes) (length-take-le n buffer (omega arith)) in
    let front : take (n + length bytes) (over n bytes buffer) ≡ take n buffer ++ bytes =
    ap (take (n + length bytes)) (sym (append_assoc (take n buffer) bytes (drop (n + length bytes) buffer)))
    ∙ take_at (take n buffer ++ bytes) (drop (n + length bytes) buffer) (n + length bytes) l in
    f ∙ ap (λ b. judged (take (n + length bytes) b)) e ∙ ap judged front

-- bytes that are no frame's beginning are judged with the next byte
module _ (bs : List ℕ) (s : Step) (e : s ≡ judged_by_head bs) where
  judged_by : {m : ℕ} → m ≡ judged_after s bs → m ≡ next_judged bs
  unfolding next_judged
  judged_by h = h ∙ ap (λ t. judged_after t bs) e

  pub next_else : ((n : FrameLength) → s ≡ NotYet n → ⊥) → length bs + 1 ≡ next_judged bs
  next_else k = judged_by (go s k)
    where
      go : (t : Step) → ((n : FrameLength) → t ≡ NotYet n → ⊥) → length bs + 1 ≡ judged_after t bs
      go (Whole k n) o = unfold judged_after in refl
      go (NotYet n) o = absurd (o n refl)
      go (Stopped f) o = unfold judged_after in refl

-- `collect`: n bytes collected in the lent bytes, with these to come; they are judged next where there are m
module _ (n m : ℕ) (buffer bytes : List ℕ) (g : m ≡ reach n buffer bytes) (size : length buffer ≡ longest) (low : n < longest) where
  front_size : length (take n buffer) ≡ n
  front_size = length-take-le n buffer (omega arith)

  pub judged_ahead : n ≤ m
  judged_ahead = omega (arith, (reached n buffer bytes).ahead, front_size)

  judged_within : m ≤ longest
  judged_within = omega (arith, (reached n buffer bytes).within (omega (arith, front_size)))

  module _ (taken : ℕ) (t : taken ≡ min (m - n) (length bytes)) where
    pub put_fits : n + length (take taken bytes) ≤ length buffer
    put_fits = omega (arith, judged_within, judged_ahead, length-take-le taken bytes (omega arith))
