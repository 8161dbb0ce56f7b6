-- A stream as the code holds it: its value, and the lent bytes in which a frame is collected.
use Rattle.std.specs.Prelude.{ℕ, ◌+◌, List, [], ◌∷◌, ◌++◌, ltb, take, set, if◌then◌else◌}
use Rattle.frames.specs.declared.Fault.TheVariants.{BadLength}
use Rattle.dock.specs.declared.Stream.{Stream}
use Rattle.dock.specs.declared.Stream.TheVariants.{Collecting, Stopped as Stays}
use Rattle.frames.specs.declared.Step.{Step}
use Rattle.frames.specs.declared.Step.TheVariants.{Whole, NotYet, Stopped}
use Rattle.dock.specs.declared.Fed.{Fed}
use Rattle.frames.specs.Frames.{longest, in_frame, judged}
use Rattle.dock.specs.Streams.{State, collecting, stopped}

-- the state of the rules that this is
unfoldable pub state_of : Stream → List ℕ → State
state_of (Collecting n) buffer = collecting (take n.0 buffer)
state_of (Stays f) buffer = stopped f

-- One byte: the answer, the stream after it, and the lent bytes after it. No frame has room for more than the longest.
unfoldable pub step_of : Stream → List ℕ → ℕ → Step
step_of (Collecting n) buffer b = if ltb n.0 longest then judged (take n.0 buffer ++ (b ∷ [])) else Stopped BadLength
step_of (Stays f) buffer b = Stopped f

abbrev pub stream_after : Step → Stream
stream_after (Whole k n) = Collecting (in_frame 0)
stream_after (NotYet n) = Collecting n
stream_after (Stopped f) = Stays f

unfoldable pub buffer_after : Stream → List ℕ → ℕ → List ℕ
buffer_after (Collecting n) buffer b = if ltb n.0 longest then set buffer n.0 b else buffer
buffer_after (Stays f) buffer b = buffer

-- the answer where no byte is left
abbrev pub resting : Stream → Step
resting (Collecting n) = NotYet n
resting (Stays f) = Stopped f

-- A piece -----------------------------------------------------------------------------------------------------------------

-- what `feed` answers, and the lent bytes as it leaves them
pub record Feeding : Type 0 where
  pub answer : Fed
  pub buffer : List ℕ

abbrev pub fed : Fed → List ℕ → Feeding
fed r buffer = record { answer = r; buffer = buffer }

-- a whole frame ends the call; after any other answer it goes on
unfoldable pub whole_or : Step → Feeding → Feeding → Feeding
whole_or (Whole k n) ended more = ended
whole_or (NotYet n) ended more = more
whole_or (Stopped f) ended more = more

-- with i bytes of the piece taken
unfoldable pub feeding_from : ℕ → Stream → List ℕ → List ℕ → Feeding
feeding_from i stream buffer [] = fed (record { stream = stream; step = resting stream; taken = i }) buffer
feeding_from i stream buffer (b ∷ bs) =
    let step = step_of stream buffer b in
    let later = stream_after step in
    let kept = buffer_after stream buffer b in
    whole_or step (fed (record { stream = later; step = step; taken = i + 1 }) kept) (feeding_from (i + 1) later kept bs)

unfoldable pub feeding : Stream → List ℕ → List ℕ → Feeding
feeding stream buffer piece = feeding_from 0 stream buffer piece
