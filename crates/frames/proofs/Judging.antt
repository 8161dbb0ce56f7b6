-- Bytes that are no whole frame are judged by their head.
use mathlib.Core.Path.{◌≡◌, refl, ap, ◌∙◌}
use mathlib.Core.List.{List}
use Prim.Native.Nat.{ℕ}
use Rattle.frames.specs.declared.BodyLength.{BodyLength}
use Rattle.frames.specs.declared.Kind.{Kind}
use Rattle.frames.specs.declared.Step.{Step}
use Rattle.frames.specs.declared.Step.TheVariants.{Whole, NotYet, Stopped}
use Rattle.frames.specs.Frames.{judged_by_head, checked, judged}

not_whole : (s : Step) (bs : List ℕ) → ((k : Kind) (n : BodyLength) → s ≡ Whole k n → ⊥) → s ≡ checked s bs
unfolding checked
not_whole (Whole k n) bs h = absurd (h k n refl)
not_whole (NotYet n) bs h = refl
not_whole (Stopped f) bs h = refl

pub judged_early : (s : Step) (bs : List ℕ) → s ≡ judged_by_head bs → ((k : Kind) (n : BodyLength) → s ≡ Whole k n → ⊥) → s ≡ judged bs
unfolding judged
judged_early s bs e h = not_whole s bs h ∙ ap (λ t. checked t bs) e
