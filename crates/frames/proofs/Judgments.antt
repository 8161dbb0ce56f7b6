-- What a judgment tells of the bytes judged, and when a stream stops.
use Prim.Native.Nat.{ℕ, ◌+◌, ◌-◌, ◌≤◌, ◌<◌}
use mathlib.Core.Path.{◌≡◌, refl, sym, subst, ◌∙◌}
use mathlib.Core.Bool.{Bool, true, false}
use mathlib.Core.List.{List, ◌++◌}
use mathlib.Core.Logic.{◌⊎◌, inl, inr}
use native.Mathlib.Omega.{arith}
use borrow.Author.Tests.{ltb-true, ltb-false, lt-ltb, le-ltb}
use lib.Dec.{ltb}
use lib.ListN.{length, get_or, get_or-append}
use Rattle.std.specs.Prelude.{if◌then◌else◌}
use Rattle.rules.specs.Basic.{little_endian_at}
use Rattle.frames.specs.declared.FrameLength.{FrameLength}
use Rattle.frames.specs.declared.BodyLength.{BodyLength}
use Rattle.frames.specs.declared.Kind.{Kind}
use Rattle.std.specs.Prelude.{Option, Some, None}
use Rattle.frames.specs.declared.Fault.TheVariants.{BadLength, UnknownKind, BadCheck}
use Rattle.frames.specs.declared.Step.{Step}
use Rattle.frames.specs.declared.Step.TheVariants.{Whole, NotYet, Stopped}
use Rattle.frames.specs.Frames.{around, longest, in_frame, in_body, kind_numbered, by_kind, judged_by_head, check_right, checked, judged}

-- a choice by a test of two numbers
pub by_ltb : {A : Type 0} (P : A → Type 0) (a b : ℕ) {x y : A} → (a < b → P x) → (b ≤ a → P y) → P (if ltb a b then x else y)
by_ltb P a b {x} {y} low high = go (ltb a b) refl
  where
    go : (t : Bool) → ltb a b ≡ t → P (if t then x else y)
    go true e = low (ltb-true a b e)
    go false e = high (ltb-false a b e)

pub low_or_high : (a b : ℕ) → (a < b) ⊎ (b ≤ a)
low_or_high a b = go (ltb a b) refl
  where
    go : (t : Bool) → ltb a b ≡ t → (a < b) ⊎ (b ≤ a)
    go true e = inl (ltb-true a b e)
    go false e = inr (ltb-false a b e)

-- a whole frame has its two last bytes
pub whole_long : (s : Step) (bs : List ℕ) (k : Kind) (n : BodyLength) → s ≡ judged_by_head bs → s ≡ Whole k n → 2 ≤ length bs
unfolding judged_by_head
whole_long s bs k n e h =
    by_ltb (λ (t : Step). Whole k n ≡ t → 2 ≤ length bs) (length bs) 2 (λ low f. let z : ◌≡◌ {A = ℕ} 0 1 = cc in absurd (omega arith)) (λ two f. two) (sym h ∙ e)

-- a number at the front is the same with more bytes behind
pub number_front : (j : ℕ) (p q : List ℕ) → j + 1 < length p → little_endian_at j p ≡ little_endian_at j (p ++ q)
unfolding little_endian_at
number_front j p q h =
    let a : get_or (p ++ q) j 0 ≡ get_or p j 0 = get_or-append p q 0 j (omega arith) in
    let b : get_or (p ++ q) (j + 1) 0 ≡ get_or p (j + 1) 0 = get_or-append p q 0 (j + 1) h in
    rw (a, b)

-- the length is there and passes
pub record Good (bs : List ℕ) : Type 0 where
  pub there : 2 ≤ length bs
  pub least : around ≤ little_endian_at 0 bs
  pub most : little_endian_at 0 bs ≤ longest
  pub within : length bs ≤ little_endian_at 0 bs

-- each way through the tests
pub data Judgment (bs : List ℕ) : Step → Type 0 where
  no_length : length bs < 2 → Judgment bs (NotYet (in_frame (length bs)))
  too_short : 2 ≤ length bs → little_endian_at 0 bs < around → Judgment bs (Stopped BadLength)
  too_long : 2 ≤ length bs → longest < little_endian_at 0 bs → Judgment bs (Stopped BadLength)
  passed : 2 ≤ length bs → around ≤ little_endian_at 0 bs → little_endian_at 0 bs < length bs → Judgment bs (Stopped BadLength)
  no_kind : Good bs → length bs < 4 → Judgment bs (NotYet (in_frame (length bs)))
  unknown : Good bs → 4 ≤ length bs → kind_numbered (little_endian_at 2 bs) ≡ None → Judgment bs (Stopped UnknownKind)
  no_end : {k : Kind} → Good bs → 4 ≤ length bs → kind_numbered (little_endian_at 2 bs) ≡ Some k → length bs < little_endian_at 0 bs → Judgment bs (NotYet (in_frame (length bs)))
  whole : {k : Kind} → Good bs → 4 ≤ length bs → kind_numbered (little_endian_at 2 bs) ≡ Some k → length bs ≡ little_endian_at 0 bs → check_right bs ≡ true → Judgment bs (Whole k (in_body (length bs - around)))
  bad_check : {k : Kind} → Good bs → 4 ≤ length bs → kind_numbered (little_endian_at 2 bs) ≡ Some k → length bs ≡ little_endian_at 0 bs → check_right bs ≡ false → Judgment bs (Stopped BadCheck)

judgment_check : (bs : List ℕ) (k : Kind) (c : Bool) → Good bs → 4 ≤ length bs → kind_numbered (little_endian_at 2 bs) ≡ Some k → length bs ≡ little_endian_at 0 bs → check_right bs ≡ c
    → Judgment bs (if c then Whole k (in_body (length bs - around)) else Stopped BadCheck)
judgment_check bs k true g l e n c = whole g l e n c
judgment_check bs k false g l e n c = bad_check g l e n c

judgment_kind : (bs : List ℕ) (m : Option Kind) → Good bs → 4 ≤ length bs → kind_numbered (little_endian_at 2 bs) ≡ m → Judgment bs (checked (by_kind m bs) bs)
unfolding checked by_kind
judgment_kind bs None g l e = unknown g l e
judgment_kind bs (Some k) g l e =
    by_ltb (λ s. Judgment bs (checked s bs)) (length bs) (little_endian_at 0 bs) (no_end g l e)
    (λ n. judgment_check bs k (check_right bs) g l e (omega (arith, g.within)) refl)

pub judgment : (bs : List ℕ) → Judgment bs (judged bs)
unfolding judged judged_by_head checked
judgment bs =
    let P = λ (s : Step). Judgment bs (checked s bs) in
    by_ltb P (length bs) 2 no_length (λ two.
    by_ltb P (little_endian_at 0 bs) around (too_short two) (λ least.
    by_ltb P longest (little_endian_at 0 bs) (too_long two) (λ most.
    by_ltb P (little_endian_at 0 bs) (length bs) (passed two least) (λ within.
    let good : Good bs = record { there = two; least = least; most = most; within = within } in
    by_ltb P (length bs) 4 (no_kind good) (λ four. judgment_kind bs (kind_numbered (little_endian_at 2 bs)) good four refl)))))

-- sizes -----------------------------------------------------------------------------------------------------------------------

-- a step that tells a size, of m bytes judged
abbrev pub Tells : ℕ → Step → Type 0
Tells m (Whole k n) = n.0 + around ≡ m
Tells m (NotYet n) = n.0 ≡ m
Tells m (Stopped f) = Unit

tells : {bs : List ℕ} {s : Step} → Judgment bs s → Tells (length bs) s
tells (no_length h) = refl
tells (too_short h l) = tt
tells (too_long h l) = tt
tells (passed h l n) = tt
tells (no_kind g h) = refl
tells (unknown g l e) = tt
tells (no_end g l e n) = refl
tells (whole g l e n c) = omega (arith, g.least)
tells (bad_check g l e n c) = tt

-- a whole frame and one that is not yet complete have as many bytes as the step says
pub judged_tells : (bs : List ℕ) → Tells (length bs) (judged bs)
judged_tells bs = tells (judgment bs)

-- more bytes than the longest frame has are a bad length
pub judged_long : (bs : List ℕ) → longest < length bs → judged bs ≡ Stopped BadLength
unfolding judged judged_by_head checked
judged_long bs l =
    let P = λ (s : Step). checked s bs ≡ Stopped BadLength in
    rw (le-ltb (length bs) 2 (omega arith))
    (by_ltb P (little_endian_at 0 bs) around (λ least. refl) (λ least.
    by_ltb P longest (little_endian_at 0 bs) (λ most. refl) (λ most. rw (lt-ltb (little_endian_at 0 bs) (length bs) (omega arith)))))

-- bytes that are not yet a frame ----------------------------------------------------------------------------------------------

pub record Going (bs : List ℕ) : Type 0 where
  pub length_good : 2 ≤ length bs → (around ≤ little_endian_at 0 bs) × (little_endian_at 0 bs ≤ longest) × (length bs < little_endian_at 0 bs)
  pub kind_known : 4 ≤ length bs → (k : Kind) × (kind_numbered (little_endian_at 2 bs) ≡ Some k)

abbrev Goes : List ℕ → Step → Type 0
Goes bs (Whole k n) = Unit
Goes bs (NotYet n) = Going bs
Goes bs (Stopped f) = Unit

goes : {bs : List ℕ} {s : Step} → Judgment bs s → Goes bs s
goes (no_length h) = record { length_good = λ l. absurd (omega arith); kind_known = λ l. absurd (omega arith) }
goes (too_short h l) = tt
goes (too_long h l) = tt
goes (passed h l n) = tt
goes (no_kind g h) = record { length_good = λ l. (g.least, g.most, omega arith); kind_known = λ l. absurd (omega arith) }
goes (unknown g l h) = tt
goes (no_end {k = k} g l h n) = record { length_good = λ i. (g.least, g.most, n); kind_known = λ i. (k, h) }
goes (whole g l h n c) = tt
goes (bad_check g l h n c) = tt

pub going : (bs : List ℕ) (n : FrameLength) → judged bs ≡ NotYet n → Going bs
going bs n e = subst (Goes bs) e (goes (judgment bs))

-- they end before the length's end, the kind's, the frame's
pub length_to_come : (p : List ℕ) → length p < 2 → judged p ≡ NotYet (in_frame (length p))
unfolding judged judged_by_head checked
length_to_come p h = rw (lt-ltb (length p) 2 h)

module _ (p : List ℕ) (n : ℕ) (a : little_endian_at 0 p ≡ n) (least : around ≤ n) (most : n ≤ longest) where
  pub kind_to_come : 2 ≤ length p → length p < 4 → judged p ≡ NotYet (in_frame (length p))
  unfolding judged judged_by_head checked
  kind_to_come l h =
      rw (le-ltb (length p) 2 l, a, le-ltb n around least, le-ltb longest n most, le-ltb n (length p) (omega arith), lt-ltb (length p) 4 h)

  pub end_to_come : (k : Kind) → 4 ≤ length p → kind_numbered (little_endian_at 2 p) ≡ Some k → length p < n → judged p ≡ NotYet (in_frame (length p))
  unfolding judged judged_by_head checked by_kind
  end_to_come k l b h =
      rw (le-ltb (length p) 2 (omega arith), a, le-ltb n around least, le-ltb longest n most, le-ltb n (length p) (omega arith), le-ltb (length p) 4 l, b)
      (rw (a, lt-ltb (length p) n h))

-- a fault stops -----------------------------------------------------------------------------------------------------------------

pub length_stops : (p : List ℕ) → 2 ≤ length p → (little_endian_at 0 p < around) ⊎ (longest < little_endian_at 0 p) → judged p ≡ Stopped BadLength
unfolding judged judged_by_head checked
length_stops p l (inl h) = rw (le-ltb (length p) 2 l, lt-ltb (little_endian_at 0 p) around h)
length_stops p l (inr h) = rw (le-ltb (length p) 2 l, le-ltb (little_endian_at 0 p) around (omega arith), lt-ltb longest (little_endian_at 0 p) h)

module _ (p : List ℕ) (n : ℕ) (a : little_endian_at 0 p ≡ n) (least : around ≤ n) (most : n ≤ longest) (there : 4 ≤ length p) (within : length p ≤ n) where
  head_passed : judged_by_head p ≡ by_kind (kind_numbered (little_endian_at 2 p)) p
  unfolding judged_by_head
  head_passed =
      rw (le-ltb (length p) 2 (omega arith), a, le-ltb n around least, le-ltb longest n most, le-ltb n (length p) within, le-ltb (length p) 4 there)

  pub kind_stops : kind_numbered (little_endian_at 2 p) ≡ None → judged p ≡ Stopped UnknownKind
  unfolding judged checked by_kind
  kind_stops e = rw (head_passed, e)

  pub check_stops : (k : Kind) → kind_numbered (little_endian_at 2 p) ≡ Some k → n ≤ length p → check_right p ≡ false → judged p ≡ Stopped BadCheck
  unfolding judged checked by_kind
  check_stops k e h c = rw (head_passed, e, a, le-ltb (length p) n h, c)
