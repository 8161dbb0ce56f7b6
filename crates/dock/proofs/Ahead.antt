-- Where bytes are judged next: none before it can end a frame or stop the stream.
use Prim.Native.Nat.{ℕ, ◌+◌, ◌≤◌, ◌<◌}
use mathlib.Core.Path.{◌≡◌, refl, ap, sym, ◌∙◌}
use mathlib.Core.Bool.{Bool, true, false, ◌&&◌}
use mathlib.Core.List.{List, [], ◌++◌}
use mathlib.Core.Logic.{inl, inr}
use native.Mathlib.Omega.{arith}
use borrow.Author.Tests.{eqb-true, leb-true}
use lib.Dec.{eqb, leb}
use lib.ListN.{length, take, drop, length-append, take-append-drop}
use lib.Seq.{length-take-le, take-take}
use Rattle.std.specs.Prelude.{if◌then◌else◌}
use Rattle.rules.specs.Basic.{little_endian_at}
use Rattle.frames.specs.declared.FrameLength.{FrameLength}
use Rattle.frames.specs.declared.Step.{Step}
use Rattle.frames.specs.declared.Step.TheVariants.{Whole, NotYet, Stopped}
use Rattle.frames.specs.Frames.{around, longest, in_frame, kind_numbered, judged_by_head, checked, judged}
use Rattle.frames.proofs.Judgments.{by_ltb, low_or_high, number_front, Going, going, length_to_come, kind_to_come, end_to_come}
use Rattle.dock.specs.Parts.{judged_after, next_judged, head_judged, reach}

-- m is where bytes are judged next, whatever comes: it is ahead, within the longest frame, and up to there nothing happens
record Quiet (bs : List ℕ) (m : ℕ) : Type 0 where
  pub ahead : length bs < m
  pub within : length bs < longest → m ≤ longest
  pub quiet : (xs : List ℕ) → 0 < length xs → length bs + length xs < m → judged (bs ++ xs) ≡ NotYet (in_frame (length (bs ++ xs)))

-- bytes that are no frame's beginning are judged with the next byte
next_byte : (bs : List ℕ) → Quiet bs (length bs + 1)
next_byte bs = record { ahead = omega arith; within = λ h. omega arith; quiet = λ xs h l. absurd (omega arith) }

module _ (bs : List ℕ) (g : Going bs) where
  next_length : length bs < 2 → Quiet bs 2
  next_length h =
      record {
        ahead = h;
        within = λ l. omega arith;
        quiet = λ xs i l. length_to_come (bs ++ xs) (omega (arith, length-append bs xs));
      }

  next_kind : 2 ≤ length bs → length bs < 4 → Quiet bs 4
  next_kind h i =
      record {
        ahead = i;
        within = λ l. omega arith;
        quiet = λ xs j l. kind_to_come (bs ++ xs) (little_endian_at 0 bs) (sym (number_front 0 bs xs h)) (g.length_good h).0 (g.length_good h).1
            (omega (arith, length-append bs xs)) (omega (arith, length-append bs xs));
      }

  next_end : 4 ≤ length bs → Quiet bs (little_endian_at 0 bs)
  next_end h =
      let two : 2 ≤ length bs = omega arith in
      let k = g.kind_known h in
      record {
        ahead = (g.length_good two).2;
        within = λ l. (g.length_good two).1;
        quiet = λ xs j l. end_to_come (bs ++ xs) (little_endian_at 0 bs) (sym (number_front 0 bs xs two)) (g.length_good two).0 (g.length_good two).1
            k.0 (omega (arith, length-append bs xs)) (ap kind_numbered (sym (number_front 2 bs xs h)) ∙ k.1) (omega (arith, length-append bs xs));
      }

still_going : (bs : List ℕ) (n : FrameLength) → judged_by_head bs ≡ NotYet n → Going bs
still_going bs n e = going bs n (unfold judged checked in rw e)

quiet_next : (bs : List ℕ) → Quiet bs (next_judged bs)
unfolding next_judged
quiet_next bs = go (judged_by_head bs) refl
  where
    go : (s : Step) → judged_by_head bs ≡ s → Quiet bs (judged_after s bs)
    go (Whole k n) e = unfold judged_after in next_byte bs
    go (NotYet n) e =
        let g = still_going bs n e in
        unfold judged_after in
        by_ltb (Quiet bs) (length bs) 2 (next_length bs g) (λ two. by_ltb (Quiet bs) (length bs) 4 (next_kind bs g two) (next_end bs g))
    go (Stopped f) e = unfold judged_after in next_byte bs

-- m is where bytes are judged next, with these to come
pub record Next (c bytes : List ℕ) (m : ℕ) : Type 0 where
  pub ahead : length c < m
  pub within : length c < longest → m ≤ longest
  pub quiet : (k : ℕ) → 0 < k → k ≤ length bytes → length c + k < m → judged (c ++ take k bytes) ≡ NotYet (in_frame (length (c ++ take k bytes)))

next : (c bytes : List ℕ) → Next c bytes (next_judged c)
next c bytes =
    let q = quiet_next c in
    record {
      ahead = q.ahead;
      within = q.within;
      quiet = λ k p l h. q.quiet (take k bytes) (omega (arith, length-take-le k bytes l)) (omega (arith, length-take-le k bytes l));
    }

-- Where a frame begins with four bytes that go on, no byte of its head stops the stream either.
module _ (bytes : List ℕ) (four : 4 ≤ length bytes) (g : Going (take 4 bytes)) where
  head_size : length (take 4 bytes) ≡ 4
  head_size = length-take-le 4 bytes four

  length_good : (around ≤ little_endian_at 0 (take 4 bytes)) × (little_endian_at 0 (take 4 bytes) ≤ longest) × (length (take 4 bytes) < little_endian_at 0 (take 4 bytes))
  length_good = g.length_good (omega (arith, head_size))

  in_head : (k : ℕ) → 2 ≤ k → k ≤ 4 → little_endian_at 0 (take k bytes) ≡ little_endian_at 0 (take 4 bytes)
  in_head k l h =
      let s = length-take-le k bytes (omega arith) in
      number_front 0 (take k bytes) (drop k (take 4 bytes)) (omega (arith, s))
      ∙ ap (little_endian_at 0) (ap (λ (x : List ℕ). x ++ drop k (take 4 bytes)) (sym (take-take k 4 bytes h)) ∙ take-append-drop k (take 4 bytes))

  head_quiet : (k : ℕ) → 0 < k → k ≤ length bytes → k < little_endian_at 0 (take 4 bytes) → judged (take k bytes) ≡ NotYet (in_frame (length (take k bytes)))
  head_quiet k p l h =
      let s = length-take-le k bytes l in
      elim (low_or_high k 2) [
        | inl i ↦ length_to_come (take k bytes) (omega (arith, s))
        | inr i ↦ elim (low_or_high k 4) [
          | inl j ↦ kind_to_come (take k bytes) (little_endian_at 0 (take 4 bytes)) (in_head k i (omega arith)) length_good.0 length_good.1 (omega (arith, s)) (omega (arith, s))
          | inr j ↦
              let whole : take 4 bytes ++ drop 4 (take k bytes) ≡ take k bytes =
              ap (λ (z : List ℕ). z ++ drop 4 (take k bytes)) (sym (take-take 4 k bytes j)) ∙ take-append-drop 4 (take k bytes) in
              let kind = g.kind_known (omega (arith, head_size)) in
              end_to_come (take k bytes) (little_endian_at 0 (take 4 bytes))
              (sym (number_front 0 (take 4 bytes) (drop 4 (take k bytes)) (omega (arith, head_size)) ∙ ap (little_endian_at 0) whole)) length_good.0 length_good.1
              kind.0 (omega (arith, s))
              (ap kind_numbered (sym (number_front 2 (take 4 bytes) (drop 4 (take k bytes)) (omega (arith, head_size)) ∙ ap (little_endian_at 2) whole)) ∙ kind.1) (omega (arith, s))
        ]
      ]

  next_of_head : Next [] bytes (little_endian_at 0 (take 4 bytes))
  next_of_head = record { ahead = omega (arith, length_good.0); within = λ h. length_good.1; quiet = λ k p l h. head_quiet k p l (omega arith) }

head_goes : (bytes : List ℕ) → 4 ≤ length bytes → around ≤ next_judged (take 4 bytes) → Next [] bytes (next_judged (take 4 bytes))
unfolding next_judged
head_goes bytes four h = go (judged_by_head (take 4 bytes)) refl h
  where
    s : length (take 4 bytes) ≡ 4
    s = length-take-le 4 bytes four

    go : (t : Step) → judged_by_head (take 4 bytes) ≡ t → around ≤ judged_after t (take 4 bytes) → Next [] bytes (judged_after t (take 4 bytes))
    go (Whole k n) e l = absurd (unfold judged_after in omega (arith, s))
    go (NotYet n) e l = unfold judged_after in rw s (next_of_head bytes four (still_going (take 4 bytes) n e))
    go (Stopped f) e l = absurd (unfold judged_after in omega (arith, s))

head_reached : (bytes : List ℕ) → around ≤ head_judged bytes → Next [] bytes (head_judged bytes)
unfolding head_judged
head_reached bytes l =
    by_ltb (λ m. around ≤ m → Next [] bytes m) (length bytes) 4 (λ short i. absurd (omega arith)) (head_goes bytes) l

pub reached : (n : ℕ) (buffer bytes : List ℕ) → Next (take n buffer) bytes (reach n buffer bytes)
unfolding reach
reached n buffer bytes = go (eqb n 0) (leb around (head_judged bytes)) refl refl
  where
    go : (s t : Bool) → eqb n 0 ≡ s → leb around (head_judged bytes) ≡ t → Next (take n buffer) bytes (if s && t then head_judged bytes else next_judged (take n buffer))
    go true true e f = rw (eqb-true n 0 e) (head_reached bytes (leb-true around (head_judged bytes) f))
    go true false e f = next (take n buffer) bytes
    go false t e f = next (take n buffer) bytes
