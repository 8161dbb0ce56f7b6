-- Cases that antt computes from the rules of the stream. What they expect is written by hand, with no rule's own function; the checks were worked out
-- elsewhere, by a long division of the bits.
use Rattle.std.specs.Prelude.{ℕ, Bool, true, false, ◌&&◌, List, [], ◌∷◌, ◌++◌, eqb, replicate}
use Rattle.rules.specs.Basic.{all, same}
use Rattle.rules.specs.Hex.{hex}
use Rattle.frames.specs.declared.Kind.{Kind}
use Rattle.frames.specs.declared.Kind.TheVariants.{Command, Response}
use Rattle.frames.specs.declared.Fault.{Fault}
use Rattle.frames.specs.declared.Fault.TheVariants.{BadLength, UnknownKind, BadCheck}
use Rattle.frames.specs.declared.Step.{Step}
use Rattle.frames.specs.declared.Step.TheVariants.{Stopped}
use Rattle.frames.specs.Cases.{whole, not_yet, same_kind, same_fault, same_step, reading, reading_frame, done, done_frame}
use Rattle.dock.specs.declared.Stream.{Stream}
use Rattle.dock.specs.declared.Stream.TheVariants.{Collecting, Stopped as Stays}
use Rattle.dock.specs.declared.HostStream.{HostStream}
use Rattle.dock.specs.declared.HostFed.{HostFed}
use Rattle.dock.specs.Streams.{Frame, State, collecting, stopped, between, received, told_at}
use Rattle.dock.specs.Held.{state_of, step_of, stream_after, buffer_after, resting, feeding}
use Rattle.dock.specs.Host.{stream_of, host_of, host_feeding}
use Rattle.dock.specs.Hosts.{holding, held_state, told}

-- streams by hand ----------------------------------------------------------------------------------------------------------

-- with so many bytes collected
abbrev pub collected : ℕ → Stream
collected n = Collecting (record { 0 = n })

-- a host's two numbers: collected, stop; and what it is told: these, then kind, size, taken
abbrev pub keeps : ℕ → ℕ → HostStream
keeps n stop = record { collected = n; stop = stop }

abbrev pub hears : ℕ → ℕ → ℕ → ℕ → ℕ → HostFed
hears n stop kind size taken = record { stream = keeps n stop; kind = kind; size = size; taken = taken }

abbrev pub frame : Kind → List ℕ → Frame
frame k body = record { kind = k; body = body }

unfoldable pub same_frames : List Frame → List Frame → Bool
same_frames [] [] = true
same_frames (f ∷ fs) (g ∷ gs) = same_kind f.kind g.kind && same f.body g.body && same_frames fs gs
same_frames fs gs = false

unfoldable pub same_state : State → State → Bool
same_state (collecting bs) (collecting cs) = same bs cs
same_state (stopped f) (stopped g) = same_fault f g
same_state s t = false

unfoldable pub same_stream : Stream → Stream → Bool
same_stream (Collecting n) (Collecting m) = eqb n.0 m.0
same_stream (Stays f) (Stays g) = same_fault f g
same_stream s t = false

unfoldable pub same_numbers : HostStream → HostStream → Bool
same_numbers h i = eqb h.collected i.collected && eqb h.stop i.stop

-- cases ------------------------------------------------------------------------------------------------------------------

pub data Case : Type 0 where
  -- in this state, these bytes leave that state, and these frames come out
  receives : State → List ℕ → State → List Frame → Case
  -- the state that a stream and the lent bytes are
  stands : Stream → List ℕ → State → Case
  -- with these lent bytes, one byte: the answer, the stream after it, the lent bytes after it
  steps : Stream → (lent : List ℕ) → ℕ → Step → Stream → (after : List ℕ) → Case
  -- the answer to no byte
  rests : Stream → Step → Case
  -- with these lent bytes, a piece: the stream after it, the answer, how many bytes are taken, the lent bytes after it
  feeds : Stream → (lent piece : List ℕ) → Stream → Step → ℕ → (after : List ℕ) → Case
  -- two numbers of a host and the stream that they are; a stream and its two numbers; the state that they and the lent bytes are
  is_stream : HostStream → Stream → Case
  has_numbers : Stream → HostStream → Case
  holds : HostStream → List ℕ → State → Case
  -- `feeds` for a host
  host_feeds : HostStream → (lent piece : List ℕ) → HostFed → (after : List ℕ) → Case
  -- the frames that a host is told of, in these lent bytes
  tells : HostFed → List ℕ → List Frame → Case
  -- the byte of a frame with these bytes at which a fault is told
  told_with : Fault → List ℕ → ℕ → Case

unfoldable pub right : Case → Bool
right (receives s bs left fs) =
    let r = received s bs in
    same_state r.state left && same_frames r.frames fs
right (stands s lent state) = same_state (state_of s lent) state
right (steps s lent b answer later after) =
    let step = step_of s lent b in
    same_step step answer && same_stream (stream_after step) later && same (buffer_after s lent b) after
right (rests s answer) = same_step (resting s) answer
right (feeds s lent piece later answer taken after) =
    let f = feeding s lent piece in
    all
    (same_stream f.answer.stream later ∷ same_step f.answer.step answer ∷ eqb f.answer.taken taken ∷ same f.buffer after ∷ [])
right (is_stream h s) = same_stream (stream_of h) s
right (has_numbers s h) = same_numbers (host_of s) h
right (holds h lent state) = same_state (held_state (holding h lent)) state
right (host_feeds h lent piece r after) =
    let f = host_feeding h lent piece in
    all
    (same_numbers f.answer.stream r.stream ∷ eqb f.answer.kind r.kind ∷ eqb f.answer.size r.size ∷
    eqb f.answer.taken r.taken ∷ same f.buffer after ∷ [])
right (tells r lent fs) = same_frames (told r lent) fs
right (told_with f bs n) = eqb (told_at f bs) n

unfoldable pub all_right : List Case → Bool
all_right [] = true
all_right (c ∷ cs) = right c && all_right cs

-- The rules of the stream, over bytes ------------------------------------------------------------------------------------

unfoldable pub stream_cases : List Case
stream_cases =
    -- no byte changes nothing
    receives between [] between [] ∷ receives (collecting (hex "06 00 01")) [] (collecting (hex "06 00 01")) [] ∷
    receives (stopped BadCheck) [] (stopped BadCheck) [] ∷
    -- frames come out whole, in their order, and nothing of them is left
    receives (collecting []) reading_frame (collecting []) (frame Command reading ∷ []) ∷
    receives between (reading_frame ++ done_frame) (collecting []) (frame Command reading ∷ frame Response done ∷ []) ∷
    receives between (done_frame ++ done_frame ++ reading_frame) (collecting [])
    (frame Response done ∷ frame Response done ∷ frame Command reading ∷ []) ∷
    receives between (hex "06 00 01 00 42 52 06 00 02 00 2A 78") (collecting []) (frame Command [] ∷ frame Response [] ∷ []) ∷
    -- a frame in a frame's body does not come out
    receives between (hex "0C 00 02 00 06 00 01 00 42 52 DA D2") (collecting []) (frame Response (hex "06 00 01 00 42 52") ∷ []) ∷
    -- bytes of a frame not yet complete stay; the rest completes it
    receives between (hex "06") (collecting (hex "06")) [] ∷ receives between (hex "06 00 01 00 42") (collecting (hex "06 00 01 00 42")) [] ∷
    receives between (reading_frame ++ hex "0A 00 02 00 00 00 00 00 85") (collecting (hex "0A 00 02 00 00 00 00 00 85"))
    (frame Command reading ∷ []) ∷
    receives (collecting (hex "06")) (hex "00 01 00 42 52") (collecting []) (frame Command [] ∷ []) ∷
    receives (collecting (hex "08 00 02 00 A1 B2 90")) (hex "38 06 00") (collecting (hex "06 00")) (frame Response (hex "A1 B2") ∷ []) ∷
    -- each fault stops at its byte, and not before
    receives between (hex "05") (collecting (hex "05")) [] ∷ receives between (hex "05 00") (stopped BadLength) [] ∷
    receives between (hex "1C 06") (stopped BadLength) [] ∷ receives between (hex "06 00 03") (collecting (hex "06 00 03")) [] ∷
    receives between (hex "06 00 03 00") (stopped UnknownKind) [] ∷ receives between (hex "06 00 01 00 43") (collecting (hex "06 00 01 00 43")) [] ∷
    receives between (hex "06 00 01 00 43 52") (stopped BadCheck) [] ∷
    -- frames before it come out; none after it, and no other fault takes its place
    receives between (done_frame ++ hex "06 00 03 00" ++ reading_frame) (stopped UnknownKind) (frame Response done ∷ []) ∷
    receives between (hex "00 00" ++ reading_frame) (stopped BadLength) [] ∷
    receives between (reading_frame ++ hex "06 00 01 00 42 53" ++ done_frame ++ hex "05 00") (stopped BadCheck) (frame Command reading ∷ []) ∷
    receives (stopped BadLength) done_frame (stopped BadLength) [] ∷ receives (stopped UnknownKind) done_frame (stopped UnknownKind) [] ∷
    receives (stopped BadCheck) (hex "05 00") (stopped BadCheck) [] ∷
    -- collected bytes that a host has changed: more than their length says
    receives (collecting (hex "06 00 01 00 42 52")) (hex "06") (stopped BadLength) [] ∷
    receives (collecting (hex "06 00 01 00 42 52 06")) done_frame (stopped BadLength) [] ∷
    receives (collecting (hex "05 00")) (hex "01") (stopped BadLength) [] ∷
    -- with the last two bytes of a longer one
    receives (collecting (hex "32 01 01 00" ++ replicate 300 0x5A)) (hex "A5 5B 06") (collecting (hex "06"))
    (frame Command (replicate 300 0x5A) ∷ []) ∷
    -- where each fault is told: the second byte, the fourth, the last that the length counts
    told_with BadLength (hex "05 00") 2 ∷ told_with UnknownKind (hex "06 00 03 00") 4 ∷ told_with BadCheck (hex "06 00 01 00 43 52") 6 ∷
    told_with BadCheck (hex "32 01 01 00") 306 ∷ []

-- As a host holds it --------------------------------------------------------------------------------------------------

unfoldable pub held_cases : List Case
held_cases =
    -- the state: as many of the lent bytes as are collected, or the fault
    stands (collected 0) (hex "06 00 01") (collecting []) ∷ stands (collected 2) (hex "06 00 01") (collecting (hex "06 00")) ∷
    stands (collected 3) (hex "06 00 01") (collecting (hex "06 00 01")) ∷ stands (Stays BadLength) (hex "06 00 01") (stopped BadLength) ∷
    stands (Stays BadCheck) (hex "06 00 01") (stopped BadCheck) ∷
    -- a byte is stored behind those collected; lent bytes past it count for nothing, and stay
    steps (collected 0) (hex "EE EE EE") 0x06 (not_yet 1) (collected 1) (hex "06 EE EE") ∷
    steps (collected 1) (hex "06 EE EE") 0x00 (not_yet 2) (collected 2) (hex "06 00 EE") ∷
    steps (collected 2) (hex "06 00 EE") 0x01 (not_yet 3) (collected 3) (hex "06 00 01") ∷
    steps (collected 1) (hex "05 EE EE") 0x00 (Stopped BadLength) (Stays BadLength) (hex "05 00 EE") ∷
    steps (collected 3) (hex "06 00 03 EE") 0x00 (Stopped UnknownKind) (Stays UnknownKind) (hex "06 00 03 00") ∷
    -- the last byte of a frame: whole, and between frames; or a bad check
    steps (collected 5) (hex "06 00 01 00 42 EE EE") 0x52 (whole Command 0) (collected 0) (hex "06 00 01 00 42 52 EE") ∷
    steps (collected 7) (hex "08 00 02 00 A1 B2 90 EE") 0x38 (whole Response 2) (collected 0) (hex "08 00 02 00 A1 B2 90 38") ∷
    steps (collected 5) (hex "06 00 01 00 42 EE EE") 0x53 (Stopped BadCheck) (Stays BadCheck) (hex "06 00 01 00 42 53 EE") ∷
    -- a stopped stream stores nothing and answers its fault
    steps (Stays BadLength) (hex "06 00 01") 0x05 (Stopped BadLength) (Stays BadLength) (hex "06 00 01") ∷
    steps (Stays UnknownKind) (hex "06 00 01") 0x05 (Stopped UnknownKind) (Stays UnknownKind) (hex "06 00 01") ∷
    steps (Stays BadCheck) [] 0x05 (Stopped BadCheck) (Stays BadCheck) [] ∷
    -- with 1,562 bytes collected there is room for one more, with 1,563 or above there is not: nothing is stored
    steps (collected 1562) [] 0x06 (not_yet 1) (collected 1) [] ∷ steps (collected 1563) [] 0x06 (Stopped BadLength) (Stays BadLength) [] ∷
    steps (collected 65535) [] 0x06 (Stopped BadLength) (Stays BadLength) [] ∷
    steps (collected 1562) (replicate 1564 0xEE) 0x06 (Stopped BadLength) (Stays BadLength) (replicate 1562 0xEE ++ hex "06 EE") ∷
    steps (collected 1563) (replicate 1564 0xEE) 0x06 (Stopped BadLength) (Stays BadLength) (replicate 1564 0xEE) ∷
    -- lent bytes that a host has changed
    steps (collected 6) (hex "06 00 01 00 42 52 EE") 0x06 (Stopped BadLength) (Stays BadLength) (hex "06 00 01 00 42 52 06") ∷
    steps (collected 4) (hex "00 00 01 00 EE EE") 0x42 (Stopped BadLength) (Stays BadLength) (hex "00 00 01 00 42 EE") ∷
    steps (collected 4) (hex "06 00 00 01 EE EE") 0x42 (Stopped UnknownKind) (Stays UnknownKind) (hex "06 00 00 01 42 EE") ∷
    -- the answer to no byte
    rests (collected 0) (not_yet 0) ∷ rests (collected 5) (not_yet 5) ∷ rests (Stays BadLength) (Stopped BadLength) ∷
    rests (Stays UnknownKind) (Stopped UnknownKind) ∷ rests (Stays BadCheck) (Stopped BadCheck) ∷
    -- an empty piece
    feeds (collected 0) (hex "EE EE") [] (collected 0) (not_yet 0) 0 (hex "EE EE") ∷
    feeds (collected 2) (hex "06 00 EE") [] (collected 2) (not_yet 2) 0 (hex "06 00 EE") ∷
    feeds (Stays BadCheck) (hex "06") [] (Stays BadCheck) (Stopped BadCheck) 0 (hex "06") ∷
    -- a piece of a frame is taken whole and stored
    feeds (collected 0) (replicate 8 0xEE) (hex "06 00 01") (collected 3) (not_yet 3) 3 (hex "06 00 01 EE EE EE EE EE") ∷
    feeds (collected 3) (hex "06 00 01 EE EE EE EE EE") (hex "00 42") (collected 5) (not_yet 5) 2 (hex "06 00 01 00 42 EE EE EE") ∷
    -- a whole frame ends the call and stands at the front; what follows it is not taken and not stored
    feeds (collected 0) (replicate 8 0xEE) (hex "06 00 01 00 42 52") (collected 0) (whole Command 0) 6 (hex "06 00 01 00 42 52 EE EE") ∷
    feeds (collected 5) (hex "06 00 01 00 42 EE EE EE") (hex "52 05 00") (collected 0) (whole Command 0) 1 (hex "06 00 01 00 42 52 EE EE") ∷
    feeds (collected 0) (replicate 12 0xEE) (done_frame ++ reading_frame) (collected 0) (whole Response 4) 10 (done_frame ++ hex "EE EE") ∷
    -- the next frame is stored over it
    feeds (collected 0) (hex "06 00 01 00 42 52 EE EE") (hex "08 00 02") (collected 3) (not_yet 3) 3 (hex "08 00 02 00 42 52 EE EE") ∷
    feeds (collected 0) (hex "08 00 02 00 A1 B2 90 38") (hex "06 00 01 00 42 52") (collected 0) (whole Command 0) 6 (hex "06 00 01 00 42 52 90 38") ∷
    -- a fault does not end the call: all bytes are taken, and none behind the fault is stored
    feeds (collected 0) (replicate 8 0xEE) (hex "05 00 01 00") (Stays BadLength) (Stopped BadLength) 4 (hex "05 00 EE EE EE EE EE EE") ∷
    feeds (collected 1) (hex "06 EE EE EE EE EE") (hex "00 03 00 06 00") (Stays UnknownKind) (Stopped UnknownKind) 5 (hex "06 00 03 00 EE EE") ∷
    feeds (collected 4) (hex "06 00 01 00 EE EE EE EE") (hex "42 53 06 00 01 00 42 52") (Stays BadCheck) (Stopped BadCheck) 8
    (hex "06 00 01 00 42 53 EE EE") ∷
    -- a stopped stream takes all
    feeds (Stays BadLength) (hex "06 00 01 00 42 EE") (hex "52 06 00") (Stays BadLength) (Stopped BadLength) 3 (hex "06 00 01 00 42 EE") ∷
    feeds (Stays UnknownKind) (replicate 6 0xEE) (hex "06 00 01 00 42 52") (Stays UnknownKind) (Stopped UnknownKind) 6 (replicate 6 0xEE) ∷
    feeds (Stays BadCheck) (hex "EE") (hex "05") (Stays BadCheck) (Stopped BadCheck) 1 (hex "EE") ∷
    -- with 1,563 bytes or more collected: a bad length, all taken, nothing stored
    feeds (collected 1563) (replicate 1565 0xEE) (hex "06 00") (Stays BadLength) (Stopped BadLength) 2 (replicate 1565 0xEE) ∷
    feeds (collected 65535) (hex "EE EE") (hex "06 00 01 00 42 52 07") (Stays BadLength) (Stopped BadLength) 7 (hex "EE EE") ∷ []

-- As a host in C keeps it ---------------------------------------------------------------------------------------------

unfoldable pub host_cases : List Case
host_cases =
    -- two numbers are a stream: 0 collects, 2 and 3 are faults, and every other number is a bad length
    is_stream (keeps 0 0) (collected 0) ∷ is_stream (keeps 7 0) (collected 7) ∷ is_stream (keeps 1563 0) (collected 1563) ∷
    is_stream (keeps 65535 0) (collected 65535) ∷ is_stream (keeps 0 1) (Stays BadLength) ∷ is_stream (keeps 7 1) (Stays BadLength) ∷
    is_stream (keeps 7 2) (Stays UnknownKind) ∷ is_stream (keeps 0 2) (Stays UnknownKind) ∷ is_stream (keeps 7 3) (Stays BadCheck) ∷
    is_stream (keeps 0 3) (Stays BadCheck) ∷ is_stream (keeps 2 4) (Stays BadLength) ∷ is_stream (keeps 3 256) (Stays BadLength) ∷
    is_stream (keeps 0 65535) (Stays BadLength) ∷
    -- the numbers of a stream; of a stopped one nothing is collected
    has_numbers (collected 0) (keeps 0 0) ∷ has_numbers (collected 7) (keeps 7 0) ∷ has_numbers (collected 1563) (keeps 1563 0) ∷
    has_numbers (Stays BadLength) (keeps 0 1) ∷ has_numbers (Stays UnknownKind) (keeps 0 2) ∷ has_numbers (Stays BadCheck) (keeps 0 3) ∷
    -- the state of the rules
    holds (keeps 2 0) (hex "06 00 01") (collecting (hex "06 00")) ∷ holds (keeps 0 0) (hex "06 00 01") (collecting []) ∷
    holds (keeps 2 1) (hex "06 00 01") (stopped BadLength) ∷ holds (keeps 2 2) (hex "06 00 01") (stopped UnknownKind) ∷
    holds (keeps 2 3) (hex "06 00 01") (stopped BadCheck) ∷ holds (keeps 2 4) (hex "06 00 01") (stopped BadLength) ∷
    -- a call: kind and size of the body where a frame is whole, else 0 and 0
    host_feeds (keeps 0 0) (replicate 10 0xEE) (hex "08 00 02 00 A1 B2 90 38 06") (hears 0 0 2 2 8) (hex "08 00 02 00 A1 B2 90 38 EE EE") ∷
    host_feeds (keeps 0 0) (replicate 16 0xEE) reading_frame (hears 0 0 1 10 16) reading_frame ∷
    host_feeds (keeps 5 0) (hex "06 00 01 00 42 EE") (hex "52") (hears 0 0 1 0 1) (hex "06 00 01 00 42 52") ∷
    host_feeds (keeps 0 0) (hex "EE EE EE") (hex "06 00") (hears 2 0 0 0 2) (hex "06 00 EE") ∷
    host_feeds (keeps 2 0) (hex "06 00 EE") [] (hears 2 0 0 0 0) (hex "06 00 EE") ∷
    -- a fault: its number, nothing collected, all taken
    host_feeds (keeps 0 0) (hex "EE EE EE EE") (hex "05 00 06") (hears 0 1 0 0 3) (hex "05 00 EE EE") ∷
    host_feeds (keeps 2 0) (hex "06 00 EE EE EE") (hex "03 00 01") (hears 0 2 0 0 3) (hex "06 00 03 00 EE") ∷
    host_feeds (keeps 4 0) (hex "06 00 01 00 EE EE EE") (hex "42 00 06") (hears 0 3 0 0 3) (hex "06 00 01 00 42 00 EE") ∷
    -- a stop stays, of any number and with any number collected
    host_feeds (keeps 0 1) (hex "EE EE") (hex "06 00") (hears 0 1 0 0 2) (hex "EE EE") ∷
    host_feeds (keeps 9 2) (hex "EE EE") (hex "06 00") (hears 0 2 0 0 2) (hex "EE EE") ∷
    host_feeds (keeps 5 3) (hex "06 00 01 00 42 EE") (hex "52") (hears 0 3 0 0 1) (hex "06 00 01 00 42 EE") ∷
    host_feeds (keeps 5 4) (hex "06 00 01 00 42 EE") (hex "52") (hears 0 1 0 0 1) (hex "06 00 01 00 42 EE") ∷
    host_feeds (keeps 0 65535) [] [] (hears 0 1 0 0 0) [] ∷
    -- any number collected
    host_feeds (keeps 1562 0) [] [] (hears 1562 0 0 0 0) [] ∷ host_feeds (keeps 1563 0) (hex "EE") (hex "06 00") (hears 0 1 0 0 2) (hex "EE") ∷
    host_feeds (keeps 65535 0) (hex "EE") [] (hears 65535 0 0 0 0) (hex "EE") ∷
    -- the frame that a host is told of: its body behind four lent bytes; none for a number that no kind has
    tells (hears 0 0 1 2 8) (hex "08 00 01 00 A1 B2 5D 1D EE") (frame Command (hex "A1 B2") ∷ []) ∷
    tells (hears 0 0 2 2 8) (hex "08 00 02 00 A1 B2 90 38 EE") (frame Response (hex "A1 B2") ∷ []) ∷
    tells (hears 0 0 1 0 6) (hex "06 00 01 00 42 52") (frame Command [] ∷ []) ∷ tells (hears 3 0 0 0 6) (hex "06 00 01 00 42 52") [] ∷
    tells (hears 0 1 0 2 6) (hex "08 00 01 00 A1 B2 5D 1D") [] ∷ tells (hears 0 0 3 2 8) (hex "08 00 01 00 A1 B2 5D 1D") [] ∷
    tells (hears 0 0 257 2 8) (hex "08 00 01 00 A1 B2 5D 1D") [] ∷ []
