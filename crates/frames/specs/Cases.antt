-- Cases that antt computes from the rules of frames. What they expect is written by hand, with no rule's own function; the checks were worked out
-- elsewhere, by a long division of the bits.
use Rattle.std.specs.Prelude.{ℕ, Bool, true, false, ◌&&◌, Option, Some, None, Result, Ok, Err, List, [], ◌∷◌, ◌++◌, eqb, length, replicate}
use Rattle.std.specs.Bool.{beq}
use Rattle.rules.specs.Basic.{same, zeros}
use Rattle.rules.specs.Hex.{hex}
use Rattle.frames.specs.declared.FrameLength.{FrameLength}
use Rattle.frames.specs.declared.Kind.{Kind}
use Rattle.frames.specs.declared.Kind.TheVariants.{Command, Response}
use Rattle.frames.specs.declared.Fault.{Fault}
use Rattle.frames.specs.declared.Fault.TheVariants.{BadLength, UnknownKind, BadCheck}
use Rattle.frames.specs.declared.Step.{Step}
use Rattle.frames.specs.declared.Step.TheVariants.{Whole, NotYet, Stopped}
use Rattle.frames.specs.declared.WriteRefusal.{WriteRefusal}
use Rattle.frames.specs.declared.WriteRefusal.TheVariants.{BodyTooLong, RoomTooSmall}
use Rattle.frames.specs.Frames.{kind_number, kind_numbered, fault_number, refusal_number, written_number}
use Rattle.frames.specs.Frames.{unchecked, frame_bytes, body_at, judged_by_head, check_right, judged, writing}

-- answers by hand --------------------------------------------------------------------------------------------------------

abbrev pub whole : Kind → ℕ → Step
whole k n = Whole k (record { 0 = n })

abbrev pub not_yet : ℕ → Step
not_yet n = NotYet (record { 0 = n })

abbrev pub wrote : ℕ → Result FrameLength WriteRefusal
wrote n = Ok (record { 0 = n })

unfoldable pub same_kind : Kind → Kind → Bool
same_kind Command Command = true
same_kind Response Response = true
same_kind k l = false

unfoldable pub same_named : Option Kind → Option Kind → Bool
same_named (Some k) (Some l) = same_kind k l
same_named None None = true
same_named m n = false

unfoldable pub same_fault : Fault → Fault → Bool
same_fault BadLength BadLength = true
same_fault UnknownKind UnknownKind = true
same_fault BadCheck BadCheck = true
same_fault f g = false

unfoldable pub same_step : Step → Step → Bool
same_step (Whole k n) (Whole l m) = same_kind k l && eqb n.0 m.0
same_step (NotYet n) (NotYet m) = eqb n.0 m.0
same_step (Stopped f) (Stopped g) = same_fault f g
same_step s t = false

unfoldable pub same_refusal : WriteRefusal → WriteRefusal → Bool
same_refusal BodyTooLong BodyTooLong = true
same_refusal RoomTooSmall RoomTooSmall = true
same_refusal r s = false

unfoldable pub same_written : Result FrameLength WriteRefusal → Result FrameLength WriteRefusal → Bool
same_written (Ok n) (Ok m) = eqb n.0 m.0
same_written (Err r) (Err s) = same_refusal r s
same_written w v = false

-- cases ------------------------------------------------------------------------------------------------------------------

pub data Case : Type 0 where
  -- the number of a kind, of a fault, of a refusal and of a writer's answer; the kind of a number
  kind_has : Kind → ℕ → Case
  fault_has : Fault → ℕ → Case
  refusal_has : WriteRefusal → ℕ → Case
  answer_has : Result FrameLength WriteRefusal → ℕ → Case
  number_of : ℕ → Option Kind → Case
  -- a kind and a body in bytes: up to the check, and whole
  begun : Kind → (body bytes : List ℕ) → Case
  framed : Kind → (body bytes : List ℕ) → Case
  -- the body of so many bytes in these bytes
  body_in : ℕ → (bytes body : List ℕ) → Case
  -- these bytes by length and kind alone, and by the check too
  head : List ℕ → Step → Case
  judges : List ℕ → Step → Case
  -- these bytes one by one: not yet a frame, with as many as are there, up to the last, and this with the last
  one_by_one : List ℕ → Step → Case
  -- the last two bytes are the check of those before them
  checks : List ℕ → Bool → Case
  -- a frame written into this room: the answer, its number for a host in C, and the room after it
  writes : Kind → (body room : List ℕ) → Result FrameLength WriteRefusal → ℕ → (after : List ℕ) → Case

unfoldable pub each_right : (before rest : List ℕ) → Step → Bool
each_right before [] last = same_step (judged before) last
each_right before (b ∷ bs) last = same_step (judged before) (not_yet (length before)) && each_right (before ++ (b ∷ [])) bs last

unfoldable pub right : Case → Bool
right (kind_has k n) = eqb (kind_number k) n
right (fault_has f n) = eqb (fault_number f) n
right (refusal_has r n) = eqb (refusal_number r) n
right (answer_has w n) = eqb (written_number w) n
right (number_of n k) = same_named (kind_numbered n) k
right (begun k body bytes) = same (unchecked k body) bytes
right (framed k body bytes) = same (frame_bytes k body) bytes
right (body_in n bytes body) = same (body_at n bytes) body
right (head bs s) = same_step (judged_by_head bs) s
right (judges bs s) = same_step (judged bs) s
right (one_by_one bs last) = each_right [] bs last
right (checks bs b) = beq (check_right bs) b
right (writes k body room answer number after) =
    let w = writing k body room in
    same_written w.answer answer && eqb (written_number w.answer) number && same w.room after

unfoldable pub all_right : List Case → Bool
all_right [] = true
all_right (c ∷ cs) = right c && all_right cs

-- frames by hand ---------------------------------------------------------------------------------------------------------

-- a command to read 16 bytes of F1D0, and its frame
unfoldable pub reading : List ℕ
reading = hex "81 01 00 06 F1 D0 00 00 00 10"

unfoldable pub reading_frame : List ℕ
reading_frame = hex "10 00 01 00 81 01 00 06 F1 D0 00 00 00 10 5D E3"

-- a response without data, and its frame
unfoldable pub done : List ℕ
done = hex "00 00 00 00"

unfoldable pub done_frame : List ℕ
done_frame = hex "0A 00 02 00 00 00 00 00 85 2E"

-- a body of 300 bytes 5A, and of 1,557 zeros, in a command's frame
unfoldable pub frame_300 : List ℕ
frame_300 = hex "32 01 01 00" ++ replicate 300 0x5A ++ hex "A5 5B"

unfoldable pub longest_frame : List ℕ
longest_frame = hex "1B 06 01 00" ++ zeros 1557 ++ hex "2A DD"

unfoldable pub frame_cases : List Case
frame_cases =
    -- numbers of kinds, and no others: neither the next ones, nor the bytes swapped, nor a high byte beside a known low one
    kind_has Command 0x0001 ∷ kind_has Response 0x0002 ∷ number_of 0x0001 (Some Command) ∷ number_of 0x0002 (Some Response) ∷
    number_of 0x0000 None ∷ number_of 0x0003 None ∷ number_of 0x0100 None ∷ number_of 0x0200 None ∷ number_of 0x0101 None ∷
    number_of 0x0201 None ∷ number_of 0x0102 None ∷ number_of 0xFFFF None ∷
    -- numbers of faults, of refusals, and of the writer's answer
    fault_has BadLength 1 ∷ fault_has UnknownKind 2 ∷ fault_has BadCheck 3 ∷ refusal_has BodyTooLong 1 ∷ refusal_has RoomTooSmall 2 ∷
    answer_has (wrote 6) 0 ∷ answer_has (wrote 1563) 0 ∷ answer_has (Err BodyTooLong) 1 ∷ answer_has (Err RoomTooSmall) 2 ∷
    -- a frame up to its check: length, kind, body; the length counts the check too, and has two bytes
    begun Command [] (hex "06 00 01 00") ∷ begun Response [] (hex "06 00 02 00") ∷ begun Command (hex "A1 B2") (hex "08 00 01 00 A1 B2") ∷
    begun Command (replicate 249 0x5A) (hex "FF 00 01 00" ++ replicate 249 0x5A) ∷
    begun Command (replicate 250 0x5A) (hex "00 01 01 00" ++ replicate 250 0x5A) ∷
    -- whole frames, the check least significant byte first
    framed Command [] (hex "06 00 01 00 42 52") ∷ framed Response [] (hex "06 00 02 00 2A 78") ∷
    framed Command (hex "AA") (hex "07 00 01 00 AA 50 60") ∷ framed Command (hex "A1 B2") (hex "08 00 01 00 A1 B2 5D 1D") ∷
    framed Response (hex "A1 B2") (hex "08 00 02 00 A1 B2 90 38") ∷ framed Command reading reading_frame ∷ framed Response done done_frame ∷
    framed Command (replicate 300 0x5A) frame_300 ∷
    -- a body: behind four bytes, as many as are asked for and there
    body_in 2 (hex "08 00 01 00 A1 B2 5D 1D") (hex "A1 B2") ∷ body_in 0 (hex "06 00 01 00 42 52") [] ∷
    body_in 1 (hex "08 00 01 00 A1 B2 5D 1D") (hex "A1") ∷ body_in 4 (hex "08 00 01 00 A1 B2 5D 1D EE EE") (hex "A1 B2 5D 1D") ∷
    body_in 9 (hex "08 00 01 00 A1") (hex "A1") ∷
    -- frames byte by byte: not yet with so many bytes, and whole at the last, with the size of the body
    one_by_one (hex "06 00 01 00 42 52") (whole Command 0) ∷ one_by_one (hex "06 00 02 00 2A 78") (whole Response 0) ∷
    one_by_one (hex "08 00 01 00 A1 B2 5D 1D") (whole Command 2) ∷ one_by_one done_frame (whole Response 4) ∷
    judges reading_frame (whole Command 10) ∷ judges (hex "32 01 01 00" ++ replicate 300 0x5A ++ hex "A5") (not_yet 305) ∷
    -- 1: a length below 6 or above 1,563, with its second byte and not before; length 6, 7, 1,562 and 1,563 go on
    one_by_one (hex "00 00") (Stopped BadLength) ∷ one_by_one (hex "05 00") (Stopped BadLength) ∷ one_by_one (hex "1C 06") (Stopped BadLength) ∷
    one_by_one (hex "FF FF") (Stopped BadLength) ∷ judges (hex "01 00") (Stopped BadLength) ∷ judges (hex "06 00") (not_yet 2) ∷
    judges (hex "07 00") (not_yet 2) ∷ judges (hex "1A 06") (not_yet 2) ∷ judges (hex "1B 06") (not_yet 2) ∷
    judges (hex "00 07") (Stopped BadLength) ∷ judges (hex "00 80") (Stopped BadLength) ∷ judges (hex "1B 07") (Stopped BadLength) ∷
    -- a high byte alone is a length: 256 and 1,536
    judges (hex "00 01") (not_yet 2) ∷ judges (hex "00 06") (not_yet 2) ∷ judges (hex "05 01") (not_yet 2) ∷
    judges (hex "06 1B") (Stopped BadLength) ∷
    -- 2: an unknown kind, with its second byte and not before, whatever the frame still lacks
    one_by_one (hex "06 00 00 00") (Stopped UnknownKind) ∷ one_by_one (hex "06 00 03 00") (Stopped UnknownKind) ∷
    one_by_one (hex "1B 06 00 01") (Stopped UnknownKind) ∷ judges (hex "06 00 01 01") (Stopped UnknownKind) ∷
    judges (hex "06 00 01 02") (Stopped UnknownKind) ∷ judges (hex "06 00 02 01") (Stopped UnknownKind) ∷
    judges (hex "06 00 00 02") (Stopped UnknownKind) ∷ judges (hex "06 00 01 00") (not_yet 4) ∷ judges (hex "06 00 02 00") (not_yet 4) ∷
    judges (hex "06 00 03 00 F2") (Stopped UnknownKind) ∷
    -- a right check does not help it
    judges (hex "06 00 00 00 9A 4B") (Stopped UnknownKind) ∷ judges (hex "06 00 03 00 F2 61") (Stopped UnknownKind) ∷
    judges (hex "06 00 00 01 13 5A") (Stopped UnknownKind) ∷ judges (hex "06 00 01 01 CB 43") (Stopped UnknownKind) ∷
    judges (hex "06 00 01 02 50 71") (Stopped UnknownKind) ∷
    -- 3: a wrong check, with its second byte and not before: in its first byte, in its second, in both, swapped, inverted
    one_by_one (hex "06 00 01 00 43 52") (Stopped BadCheck) ∷ judges (hex "06 00 01 00 42 53") (Stopped BadCheck) ∷
    judges (hex "06 00 01 00 00 00") (Stopped BadCheck) ∷ judges (hex "06 00 01 00 52 42") (Stopped BadCheck) ∷
    judges (hex "06 00 01 00 BD AD") (Stopped BadCheck) ∷ judges (hex "08 00 01 00 A1 B2 5C 1D") (Stopped BadCheck) ∷
    judges (hex "08 00 01 00 A1 B2 5D 9D") (Stopped BadCheck) ∷
    -- each byte before it is checked: length, kind, the first and the last of the body
    judges (hex "07 00 01 00 00 42 52") (Stopped BadCheck) ∷ judges (hex "06 00 02 00 42 52") (Stopped BadCheck) ∷
    judges (hex "08 00 01 00 A0 B2 5D 1D") (Stopped BadCheck) ∷ judges (hex "08 00 01 00 A1 B3 5D 1D") (Stopped BadCheck) ∷
    -- the same by length and kind alone: the check is not asked
    head [] (not_yet 0) ∷ head (hex "05 00") (Stopped BadLength) ∷ head (hex "06 00 03 00") (Stopped UnknownKind) ∷
    head (hex "06 00 01 00 42") (not_yet 5) ∷ head (hex "06 00 01 00 42 52") (whole Command 0) ∷ head (hex "06 00 01 00 00 00") (whole Command 0) ∷
    head (hex "08 00 02 00 A1 B2 00 00") (whole Response 2) ∷
    -- the check alone: of any bytes
    checks (hex "06 00 01 00 42 52") true ∷ checks (hex "06 00 01 00 52 42") false ∷ checks (hex "06 00 01 00 42 53") false ∷
    checks (hex "06 00 01 00 43 52") false ∷ checks (hex "06 00 03 00 F2 61") true ∷ checks (hex "41 8D 53") true ∷ checks (hex "00 00") true ∷
    checks (hex "00 01") false ∷ checks (hex "06 00 01 00 42 52 00 00") true ∷ checks (hex "06 00 01 00 42 52 42 52") false ∷
    -- two faults at once: the length before the kind, the kind before the check, the length before the check
    judges (hex "05 00 03 00") (Stopped BadLength) ∷ judges (hex "05 00 03 00 00") (Stopped BadLength) ∷
    judges (hex "1C 06 03 00") (Stopped BadLength) ∷ judges (hex "06 00 03 00 00 00") (Stopped UnknownKind) ∷
    judges (hex "05 00 01 00 00") (Stopped BadLength) ∷ judges (hex "04 00 00 00") (Stopped BadLength) ∷
    -- more bytes than the length says, where a host has changed them: a bad length, before kind and check
    judges (hex "06 00 01 00 42 52 00") (Stopped BadLength) ∷ judges (hex "06 00 01 00 42 52 42 52") (Stopped BadLength) ∷
    judges (hex "06 00 03 00 00 00 00") (Stopped BadLength) ∷ judges (hex "07 00 01 00 42 52 00 00") (Stopped BadLength) ∷
    head (hex "06 00 01 00 42 52 00") (Stopped BadLength) ∷ head (hex "07 00 01 00 42 52 00") (whole Command 1) ∷
    -- the writer: the frame at the front, the rest of the room as it was; room just enough, and one byte short
    writes Response done (replicate 12 0xEE) (wrote 10) 0 (done_frame ++ hex "EE EE") ∷
    writes Response done (hex "01 02 03 04 05 06 07 08 09 0A") (wrote 10) 0 done_frame ∷
    writes Response done (hex "01 02 03 04 05 06 07 08 09") (Err RoomTooSmall) 2 (hex "01 02 03 04 05 06 07 08 09") ∷
    writes Command reading (zeros 16 ++ hex "11 22 33") (wrote 16) 0 (reading_frame ++ hex "11 22 33") ∷
    writes Command [] (hex "EE EE EE EE EE EE EE") (wrote 6) 0 (hex "06 00 01 00 42 52 EE") ∷
    writes Command [] (hex "EE EE EE EE EE EE") (wrote 6) 0 (hex "06 00 01 00 42 52") ∷
    writes Command [] (hex "01 02 03 04 05") (Err RoomTooSmall) 2 (hex "01 02 03 04 05") ∷ writes Response [] [] (Err RoomTooSmall) 2 [] ∷
    -- a body of 1,557 bytes and no more, asked before the room
    writes Command (zeros 1557) (replicate 1562 0xEE) (Err RoomTooSmall) 2 (replicate 1562 0xEE) ∷
    writes Command (zeros 1557) [] (Err RoomTooSmall) 2 [] ∷
    writes Command (zeros 1558) (replicate 1564 0xEE) (Err BodyTooLong) 1 (replicate 1564 0xEE) ∷
    writes Response (zeros 1558) (hex "01") (Err BodyTooLong) 1 (hex "01") ∷ []

-- the longest frame: written, judged, and a byte short of it
unfoldable pub longest_cases : List Case
longest_cases =
    writes Command (zeros 1557) (replicate 1564 0xEE) (wrote 1563) 0 (longest_frame ++ hex "EE") ∷ judges longest_frame (whole Command 1557) ∷
    judges (hex "1B 06 01 00" ++ zeros 1557 ++ hex "2A") (not_yet 1562) ∷ []
