-- Frames: length 2, kind 2, body, check 2, all least significant byte first, the length counting the whole frame.
use Rattle.std.specs.Prelude.{ℕ, ◌+◌, ◌-◌, Bool, ◌≡◌, Option, Some, None, Result, Ok, Err, List, ◌++◌, eqb, ltb, length, take, drop, if◌then◌else◌}
use Rattle.rules.specs.Basic.{little_endian, little_endian_at}
use Rattle.remainder.specs.Remainder.{remainder}
use Rattle.frames.specs.declared.FrameLength.{FrameLength}
use Rattle.frames.specs.declared.BodyLength.{BodyLength}
use Rattle.frames.specs.declared.Kind.{Kind}
use Rattle.frames.specs.declared.Kind.TheVariants.{Command, Response}
use Rattle.frames.specs.declared.Fault.{Fault}
use Rattle.frames.specs.declared.Fault.TheVariants.{BadLength, UnknownKind, BadCheck}
use Rattle.frames.specs.declared.Step.{Step}
use Rattle.frames.specs.declared.Step.TheVariants.{Whole, NotYet, Stopped}
use Rattle.frames.specs.declared.WriteRefusal.{WriteRefusal}
use Rattle.frames.specs.declared.WriteRefusal.TheVariants.{BodyTooLong, RoomTooSmall}

-- the number of each kind, and the kind of a number
abbrev pub kind_number : Kind → ℕ
kind_number Command = 0x0001
kind_number Response = 0x0002

unfoldable pub kind_numbered : ℕ → Option Kind
kind_numbered n = if eqb n 0x0001 then Some Command else (if eqb n 0x0002 then Some Response else None)

-- what a stream stops with, and what the writer refuses with
abbrev pub fault_number : Fault → ℕ
fault_number BadLength = 1
fault_number UnknownKind = 2
fault_number BadCheck = 3

abbrev pub refusal_number : WriteRefusal → ℕ
refusal_number BodyTooLong = 1
refusal_number RoomTooSmall = 2

unfoldable pub written_number : Result FrameLength WriteRefusal → ℕ
written_number (Ok n) = 0
written_number (Err r) = refusal_number r

-- the bytes around a body, the longest frame and the longest body
abbrev pub around : ℕ
around = 6

abbrev pub longest : ℕ
longest = 1563

abbrev pub longest_body : ℕ
longest_body = 1557

-- so many bytes of a frame, and of a body
abbrev pub in_frame : ℕ → FrameLength
in_frame n = record { 0 = n }

abbrev pub in_body : ℕ → BodyLength
in_body n = record { 0 = n }

-- a frame up to its check, and the whole
unfoldable pub unchecked : Kind → List ℕ → List ℕ
unchecked k body = little_endian (length body + around) ++ (little_endian (kind_number k) ++ body)

unfoldable pub frame_bytes : Kind → List ℕ → List ℕ
frame_bytes k body = unchecked k body ++ little_endian (remainder (unchecked k body))

-- the body, of n bytes, of the frame that these bytes begin with
unfoldable pub body_at : ℕ → List ℕ → List ℕ
body_at n bs = take n (drop 4 bs)

-- Bytes of a frame, judged -----------------------------------------------------------------------------------------------

-- by the kind: a known one goes on to the frame's last byte, as its length says
unfoldable pub by_kind : Option Kind → List ℕ → Step
by_kind (Some k) bs =
    if ltb (length bs) (little_endian_at 0 bs) then NotYet (in_frame (length bs)) else Whole k (in_body (length bs - around))
by_kind None bs = Stopped UnknownKind

-- By length and kind, each as soon as its bytes are there. The third test of the length stops no stream that was started and
-- fed (`stops_in_time` of crate dock): it says what becomes of lent bytes that a host has changed.
unfoldable pub judged_by_head : List ℕ → Step
judged_by_head bs =
    if ltb (length bs) 2 then NotYet (in_frame (length bs)) else
    (if ltb (little_endian_at 0 bs) around then Stopped BadLength else
    (if ltb longest (little_endian_at 0 bs) then Stopped BadLength else
    (if ltb (little_endian_at 0 bs) (length bs) then Stopped BadLength else
    (if ltb (length bs) 4 then NotYet (in_frame (length bs)) else
    by_kind (kind_numbered (little_endian_at 2 bs)) bs))))

-- the last two bytes are the remainder of all before them
unfoldable pub check_right : List ℕ → Bool
check_right bs = eqb (remainder (take (length bs - 2) bs)) (little_endian_at (length bs - 2) bs)

-- a whole frame, by its check
unfoldable pub checked : Step → List ℕ → Step
checked (Whole k n) bs = if check_right bs then Whole k n else Stopped BadCheck
checked (NotYet n) bs = NotYet n
checked (Stopped f) bs = Stopped f

-- what the bytes of a frame so far amount to
unfoldable pub judged : List ℕ → Step
judged bs = checked (judged_by_head bs) bs

-- Writing ----------------------------------------------------------------------------------------------------------------

-- the writer's answer and the room as it leaves it
pub record Writing : Type 0 where
  pub answer : Result FrameLength WriteRefusal
  pub room : List ℕ

abbrev pub written : Result FrameLength WriteRefusal → List ℕ → Writing
written r room = record { answer = r; room = room }

unfoldable pub writing : Kind → (body room : List ℕ) → Writing
writing k body room =
    if ltb longest_body (length body) then written (Err BodyTooLong) room else
    (if ltb (length room) (length body + around) then written (Err RoomTooSmall) room else
    written (Ok (in_frame (length body + around))) (frame_bytes k body ++ drop (length body + around) room))

-- the number that a host in C is told, and its room
pub record HostWrites (k : Kind) (body room : List ℕ) (number : ℕ) (after : List ℕ) : Type 0 where
  pub told : number ≡ written_number (writing k body room).answer
  pub left : after ≡ (writing k body room).room
