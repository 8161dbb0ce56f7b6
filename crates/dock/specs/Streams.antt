-- A stream of frames: a step for each byte, so that pieces are of no account.
use Rattle.std.specs.Prelude.{ℕ, ◌<◌, ◌≡◌, false, None, List, [], ◌∷◌, ◌++◌, ◌⊎◌, length}
use Rattle.rules.specs.Basic.{little_endian_at}
use Rattle.frames.specs.declared.Kind.{Kind}
use Rattle.frames.specs.declared.Fault.{Fault}
use Rattle.frames.specs.declared.Fault.TheVariants.{BadLength, UnknownKind, BadCheck}
use Rattle.frames.specs.declared.Step.{Step}
use Rattle.frames.specs.declared.Step.TheVariants.{Whole, NotYet, Stopped}
use Rattle.frames.specs.Frames.{around, longest, in_frame, body_at, kind_numbered, check_right, judged}

-- what comes out of a stream
pub record Frame : Type 0 where
  pub kind : Kind
  pub body : List ℕ

-- the frame that a step has found whole
unfoldable pub shown : Step → List ℕ → List Frame
shown (Whole k n) bs = record { kind = k; body = body_at n.0 bs } ∷ []
shown (NotYet n) bs = []
shown (Stopped f) bs = []

-- Any machine that takes bytes: what it is after each, and what comes out -------------------------------------------------

pub record Ran (S : Type 0) : Type 0 where
  pub frames : List Frame
  pub state : S

unfoldable pub run : {S : Type 0} → (S → ℕ → S) → (S → ℕ → List Frame) → S → List ℕ → Ran S
run next out s [] = record { frames = []; state = s }
run next out s (b ∷ bs) =
    let later = run next out (next s b) bs in
    record { frames = out s b ++ later.frames; state = later.state }

-- The stream --------------------------------------------------------------------------------------------------------------

-- the bytes of a frame not yet complete, or the fault that stopped the stream
pub data State : Type 0 where
  collecting : List ℕ → State
  stopped : Fault → State

-- between frames
abbrev pub between : State
between = collecting []

unfoldable pub after : Step → List ℕ → State
after (Whole k n) bs = between
after (NotYet n) bs = collecting bs
after (Stopped f) bs = stopped f

unfoldable pub next : State → ℕ → State
next (collecting bs) b = after (judged (bs ++ (b ∷ []))) (bs ++ (b ∷ []))
next (stopped f) b = stopped f

unfoldable pub out : State → ℕ → List Frame
out (collecting bs) b = shown (judged (bs ++ (b ∷ []))) (bs ++ (b ∷ []))
out (stopped f) b = []

-- the frames that come out of these bytes, and the state that is left
unfoldable pub received : State → List ℕ → Ran State
received s bs = run next out s bs

-- When a stream stops -----------------------------------------------------------------------------------------------------

-- a state that a stream comes to: nothing collected, or bytes that are not yet a frame
abbrev pub Reached : State → Type 0
Reached (collecting bs) = (bs ≡ []) ⊎ (judged bs ≡ NotYet (in_frame (length bs)))
Reached (stopped f) = Unit

-- the byte of a frame at which each fault is told: the second of the length, the second of the kind, the last
abbrev pub told_at : Fault → List ℕ → ℕ
told_at BadLength bs = 2
told_at UnknownKind bs = 4
told_at BadCheck bs = little_endian_at 0 bs

-- what each fault is
abbrev pub Faulty : Fault → List ℕ → Type 0
Faulty BadLength bs = (little_endian_at 0 bs < around) ⊎ (longest < little_endian_at 0 bs)
Faulty UnknownKind bs = kind_numbered (little_endian_at 2 bs) ≡ None
Faulty BadCheck bs = check_right bs ≡ false

-- the bytes of a frame end where this fault is told, and have it
pub record Told (f : Fault) (bs : List ℕ) : Type 0 where
  pub now : length bs ≡ told_at f bs
  pub why : Faulty f bs
