-- Tables of fare queues: at least one case for each sentence about them. Stores are written byte by byte.
use Rattle.std.specs.Prelude.{ℕ, Bool, true, false, List, [], ◌∷◌, ◌++◌, replicate}
use Prim.Native.String.{String}
use Rattle.std.proofs.Math.Option.{some}
use Rattle.rules.specs.Basic.{zeros}
use Rattle.rules.specs.Hex.{hex}
use Rattle.rules.specs.Cases.{session, opened, closed, ◌gives◌, ◌refused◌leaving◌, unanswered_in, in_room, done_empty, turn, told}
use Rattle.rules.specs.Cases.{Case, talk, stores, sound, reads_writes, names, runs}
use Rattle.rules.specs.Stores.{by_hand, padded, first_record, second_record, third_record, up_counter, down_counter, guarded, many}
use Rattle.rules.specs.Stores.{guarded_queue, queue_record, guarded_40, queue_40}

-- E140 of maximum 40, changed and read always, unless said

-- records of queues -------------------------------------------------------------------------------------------------------

-- of these bytes, so many are used
unfoldable pub held : ℕ → String → Bool → Case
held used content answer = sound (queue_40 0x40 used (hex content)) answer

-- three fares of a byte each, under these numbers' low bytes, and the next number's
unfoldable pub numbered_so : ℕ → ℕ → ℕ → ℕ → Bool → Case
numbered_so a b c next answer =
    sound
    (queue_40 0x40 0x1F
    (next ∷ hex "00 00 00 09 00 01 00" ++ a ∷ hex "00 00 00 A1 09 00 01 00" ++ b ∷ hex "00 00 00 B1 09 00 01 00" ++ c ∷ hex "00 00 00 C1"))
    answer

-- one fare of this body in a queue of maximum 300, with the two bytes of used and of the fare's length
unfoldable pub one_fare : List ℕ → List ℕ → List ℕ → List ℕ
one_fare used long body =
    queue_record 0x40 (hex "8C 01") (hex "2C 01") used (padded 300 (hex "01 00 00 00" ++ long ++ hex "01 00 00 00 00 00" ++ body))

-- a fare of one byte, under its number's low byte
unfoldable pub small_fare : ℕ → List ℕ
small_fare k = hex "09 00 01 00" ++ k ∷ hex "00 00 00 AA"

-- these bytes as a record of maximum 40 with 13 used, of this kind
unfoldable pub kept_as : List ℕ → List ℕ → List ℕ
kept_as kind content = by_hand (hex "88 00" ++ kind ++ hex "40 E1 28 00 0D 00 01 00") "01 00" "01 00" "01 00" (padded 40 content)

unfoldable pub queue_record_cases : List Case
queue_record_cases =
    -- an empty queue has used 4; any next number is sound
    held 0x04 "00 00 00 00" true ∷ held 0x04 "01 00 00 00" true ∷ held 0x04 "05 04 03 02" true ∷ held 0x04 "FE FF FF FF" true ∷
    held 0x04 "FF FF FF FF" true ∷
    -- the next sequence number has 4 bytes: none, one, two, three
    held 0x00 "" false ∷ held 0x01 "05" false ∷ held 0x02 "00 00" false ∷ held 0x03 "05 00 00" false ∷
    -- so that the maximum is at least 4
    sound (queue_record 0x40 (hex "64 00") (hex "04 00") (hex "04 00") (hex "07 00 00 00")) true ∷
    sound (queue_record 0x40 (hex "63 00") (hex "03 00") (hex "03 00") (hex "07 00 00")) false ∷
    sound (queue_record 0x40 (hex "63 00") (hex "03 00") (hex "00 00") (hex "00 00 00")) false ∷
    sound (queue_record 0x40 (hex "61 00") (hex "01 00") (hex "00 00") (hex "00")) false ∷
    sound (queue_record 0x40 (hex "3C 06") (hex "DC 05") (hex "04 00") (zeros 1500)) true ∷
    -- fares end to end: length 2, kind 2, sequence number 4, body, the length counting all of it
    held 0x0D "01 00 00 00 09 00 01 00 00 00 00 00 AA" true ∷
    held 0x17 "02 00 00 00 0A 00 01 00 00 00 00 00 AA BB 09 00 01 00 01 00 00 00 CC" true ∷
    held 0x0D "01 00 00 00 01 00 01 00 00 00 00 00 AA" false ∷ held 0x0D "01 00 00 00 05 00 01 00 00 00 00 00 AA" false ∷
    held 0x0D "01 00 00 00 07 00 01 00 00 00 00 00 AA" false ∷ held 0x0D "01 00 00 00 01 00 09 00 00 00 00 00 AA" false ∷
    held 0x0D "01 00 00 00 09 00 00 00 00 00 01 00 AA" false ∷ held 0x0D "09 00 01 00 00 00 00 00 AA 01 00 00 00" false ∷
    -- as many as fit
    sound (queue_record 0x40 (hex "3C 06") (hex "DC 05") (hex "DA 05") (hex "A6 00 00 00" ++ many small_fare 166 0 ++ zeros 2)) true ∷
    -- numbered by ones up to just below the next number
    numbered_so 0 1 2 3 true ∷ numbered_so 5 6 7 8 true ∷ numbered_so 5 6 7 7 false ∷ numbered_so 5 6 7 9 false ∷ numbered_so 5 6 7 0 false ∷
    numbered_so 4 6 7 8 false ∷ numbered_so 6 6 7 8 false ∷ numbered_so 5 5 7 8 false ∷ numbered_so 5 7 7 8 false ∷ numbered_so 5 6 6 8 false ∷
    numbered_so 5 6 8 8 false ∷ numbered_so 4 5 6 8 false ∷ numbered_so 6 7 8 8 false ∷ numbered_so 7 6 5 8 false ∷ numbered_so 3 5 7 8 false ∷
    numbered_so 7 7 7 8 false ∷ numbered_so 8 8 8 8 false ∷
    held 0x0D "00 00 00 00 09 00 01 00 00 00 00 00 AA" false ∷ held 0x0D "02 00 00 00 09 00 01 00 00 00 00 00 AA" false ∷
    -- never below 0: with the next number n there are at most n fares
    held 0x16 "02 00 00 00 09 00 01 00 00 00 00 00 AA 09 00 01 00 01 00 00 00 BB" true ∷
    held 0x16 "01 00 00 00 09 00 01 00 FF FF FF FF AA 09 00 01 00 00 00 00 00 BB" false ∷
    held 0x16 "01 00 00 00 09 00 01 00 00 00 00 00 AA 09 00 01 00 00 00 00 00 BB" false ∷
    held 0x0D "00 00 00 00 09 00 01 00 FF FF FF FF AA" false ∷ numbered_so 0 0 0 0 false ∷ numbered_so 0 0 1 2 false ∷
    -- all four bytes of a number
    held 0x0D "00 01 00 00 09 00 01 00 FF 00 00 00 AA" true ∷ held 0x0D "00 00 01 00 09 00 01 00 FF FF 00 00 AA" true ∷
    held 0x0D "00 00 00 01 09 00 01 00 FF FF FF 00 AA" true ∷ held 0x0D "FF FF FF FF 09 00 01 00 FE FF FF FF AA" true ∷
    held 0x0D "05 03 02 01 09 00 01 00 04 02 02 01 AA" false ∷ held 0x0D "05 03 02 01 09 00 01 00 04 03 03 01 AA" false ∷
    held 0x0D "05 03 02 01 09 00 01 00 04 03 02 00 AA" false ∷
    -- least significant byte first: numbers, length, kind
    held 0x0D "05 03 02 01 09 00 01 00 04 03 02 01 AA" true ∷ held 0x0D "01 02 03 05 09 00 01 00 01 02 03 04 AA" false ∷
    held 0x0D "05 03 02 01 09 00 01 00 01 02 03 04 AA" false ∷ held 0x0D "01 02 03 05 09 00 01 00 04 03 02 01 AA" false ∷
    held 0x0D "02 01 05 03 09 00 01 00 02 01 04 03 AA" false ∷ held 0x0D "03 05 01 02 09 00 01 00 03 04 01 02 AA" false ∷
    held 0x0D "01 00 00 00 00 09 01 00 00 00 00 00 AA" false ∷ held 0x0D "01 00 00 00 09 00 00 01 00 00 00 00 AA" false ∷
    -- the fares' kind is 0001, both bytes, of each fare
    held 0x0D "01 00 00 00 09 00 00 00 00 00 00 00 AA" false ∷ held 0x0D "01 00 00 00 09 00 02 00 00 00 00 00 AA" false ∷
    held 0x0D "01 00 00 00 09 00 03 00 00 00 00 00 AA" false ∷ held 0x0D "01 00 00 00 09 00 01 01 00 00 00 00 AA" false ∷
    held 0x16 "02 00 00 00 09 00 01 00 00 00 00 00 AA 09 00 02 00 01 00 00 00 BB" false ∷
    -- bodies of 1 to 200 bytes, of each fare
    held 0x0C "01 00 00 00 08 00 01 00 00 00 00 00" false ∷
    held 0x15 "02 00 00 00 08 00 01 00 00 00 00 00 09 00 01 00 01 00 00 00 BB" false ∷
    held 0x15 "02 00 00 00 09 00 01 00 00 00 00 00 AA 08 00 01 00 01 00 00 00" false ∷
    held 0x1E "03 00 00 00 09 00 01 00 00 00 00 00 AA 08 00 01 00 01 00 00 00 09 00 01 00 02 00 00 00 CC" false ∷
    sound (one_fare (hex "D3 00") (hex "CF 00") (replicate 199 0x5A)) true ∷ sound (one_fare (hex "D4 00") (hex "D0 00") (replicate 200 0x5A)) true ∷
    sound (one_fare (hex "D5 00") (hex "D1 00") (replicate 201 0x5A)) false ∷ sound (one_fare (hex "0D 01") (hex "09 01") (replicate 257 0x5A)) false ∷
    -- of any bytes, those of a fare too
    held 0x15 "01 00 00 00 11 00 01 00 00 00 00 00 09 00 01 00 01 00 00 00 AA" true ∷
    held 0x15 "02 00 00 00 11 00 01 00 00 00 00 00 09 00 01 00 01 00 00 00 AA" false ∷ held 0x0D "01 00 00 00 09 00 01 00 00 00 00 00 00" true ∷
    -- whole fares: a rest of 1 to 7 bytes
    held 0x0E "02 00 00 00 09 00 01 00 00 00 00 00 AA 09" false ∷ held 0x0F "02 00 00 00 09 00 01 00 00 00 00 00 AA 09 00" false ∷
    held 0x10 "02 00 00 00 09 00 01 00 00 00 00 00 AA 09 00 01" false ∷ held 0x11 "02 00 00 00 09 00 01 00 00 00 00 00 AA 09 00 01 00" false ∷
    held 0x12 "02 00 00 00 09 00 01 00 00 00 00 00 AA 09 00 01 00 01" false ∷
    held 0x13 "02 00 00 00 09 00 01 00 00 00 00 00 AA 09 00 01 00 01 00" false ∷
    held 0x14 "02 00 00 00 09 00 01 00 00 00 00 00 AA 09 00 01 00 01 00 00" false ∷
    held 0x0E "01 00 00 00 09 00 01 00 00 00 00 00 AA 00" false ∷ held 0x14 "01 00 00 00 09 00 01 00 00 00 00 00 AA 00 00 00 00 00 00 00" false ∷
    held 0x14 "02 00 00 00 09 00 01 00 00 00 00 00 AA 07 00 01 00 01 00 00" false ∷ held 0x05 "00 00 00 00 00" false ∷
    held 0x0B "01 00 00 00 00 00 00 00 00 00 00" false ∷
    -- up to used: not past it, not short of it
    held 0x0D "01 00 00 00 0A 00 01 00 00 00 00 00 AA" false ∷ held 0x0E "01 00 00 00 09 00 01 00 00 00 00 00 AA BB" false ∷
    held 0x0C "01 00 00 00 09 00 01 00 00 00 00 00 00" false ∷ held 0x0D "01 00 00 00 09 01 01 00 00 00 00 00 AA" false ∷
    held 0x0D "01 00 00 00 FF FF 01 00 00 00 00 00 AA" false ∷ held 0x0D "01 00 00 00 00 00 01 00 00 00 00 00 AA" false ∷
    -- all bytes past used are zero
    held 0x04 "01 00 00 00 09 00 01 00 00 00 00 00 AA" false ∷ held 0x0D "01 00 00 00 09 00 01 00 00 00 00 00 AA 01" false ∷
    sound (queue_40 0x40 0x04 (zeros 39 ++ hex "01")) false ∷
    -- kind 0003, both bytes; in data these bytes are any bytes
    sound (kept_as (hex "03 00") (hex "01 00 00 00 09 00 01 00 00 00 00 00 AA")) true ∷
    sound (kept_as (hex "03 01") (hex "01 00 00 00 09 00 01 00 00 00 00 00 AA")) false ∷
    sound (kept_as (hex "00 03") (hex "01 00 00 00 09 00 01 00 00 00 00 00 AA")) false ∷
    sound (kept_as (hex "05 00") (hex "01 00 00 00 09 00 01 00 00 00 00 00 AA")) false ∷
    sound (kept_as (hex "06 00") (hex "01 00 00 00 09 00 01 00 00 00 00 00 AA")) false ∷
    sound (kept_as (hex "02 00") (hex "01 00 00 00 09 00 01 00 00 00 00 00 AA")) false ∷
    sound (kept_as (hex "04 00") (hex "01 00 00 00 09 00 01 00 00 00 00 00 AA")) false ∷
    sound (kept_as (hex "01 00") (hex "01 00 00 00 09 00 01 00 00 00 00 00 AA")) true ∷
    sound (kept_as (hex "01 00") (hex "07 00 00 00 09 00 01 00 00 00 00 00 AA")) true ∷
    -- beside others
    sound (up_counter 0x20 (hex "00 00 00 00 00 00 00 09") ++ queue_40 0x40 0x04 (hex "07 00 00 00") ++ queue_40 0x41 0x04 (hex "00 00 00 00") ++ first_record)
    true ∷
    sound (queue_40 0x40 0x04 (hex "07 00 00 00") ++ queue_40 0x41 0x05 (hex "00 00 00 00 00")) false ∷ []

-- appends -------------------------------------------------------------------------------------------------------------------

unfoldable pub empty_40 : List ℕ
empty_40 = queue_40 0x40 0x04 (hex "00 00 00 00")

-- at this next number an append of AA gets it, and leaves that one
unfoldable pub numbers : String → String → Case
numbers before after =
    stores (queue_40 0x40 0x04 (hex before)) (opened 0x00) (hex "02 04 00 03 E1 40 AA" gives done_empty ∷ [])
    (queue_40 0x40 0x0D (hex after ++ hex "09 00 01 00" ++ hex before ++ hex "AA"))

unfoldable pub append_cases : List Case
append_cases =
    -- 7: a body of 0 or over 200 bytes is 04, of any object, before step 9; 1 and 200 bytes are taken
    talk (queue_record 0x40 (hex "8C 01") (hex "2C 01") (hex "04 00") (zeros 300) ++ first_record) (opened 0x00)
    (hex "02 04 00 00" refused 0x04 leaving 0x04 ∷
    hex "02 04 00 01 E1" refused 0x04 leaving 0x04 ∷
    hex "02 04 00 02 E1 40" refused 0x04 leaving 0x04 ∷
    (hex "02 04 00 CB E1 40" ++ replicate 201 0x5A) refused 0x04 leaving 0x04 ∷
    (hex "02 04 01 03 E1 40" ++ replicate 257 0x5A) refused 0x04 leaving 0x04 ∷
    hex "02 04 00 02 F1 D0" refused 0x04 leaving 0x04 ∷
    hex "02 04 00 02 AB CD" refused 0x04 leaving 0x04 ∷
    (hex "02 04 00 CB AB CD" ++ replicate 201 0x5A) refused 0x04 leaving 0x04 ∷
    hex "02 04 00 03 E1 40 77" gives done_empty ∷
    (hex "02 04 00 CA E1 40" ++ replicate 200 0x5A) gives done_empty ∷
    in_room 230 (hex "01 00 00 06 E1 40 00 00 01 2C" gives
    (hex "00 00 00 DD 02 00 00 00 09 00 01 00 00 00 00 00 77 D0 00 01 00 01 00 00 00" ++ replicate 200 0x5A)) ∷ [])
    (opened 0x04) ∷
    -- the body as it was sent, byte for byte, one that looks like a fare too
    stores empty_40 (opened 0x00) (hex "02 04 00 0A E1 40 00 01 7F 80 FE FF 00 00" gives done_empty ∷ [])
    (queue_40 0x40 0x14 (hex "01 00 00 00 10 00 01 00 00 00 00 00 00 01 7F 80 FE FF 00 00")) ∷
    stores empty_40 (opened 0x00) (hex "02 04 00 0B E1 40 09 00 01 00 01 00 00 00 AA" gives done_empty ∷ hex "02 04 00 03 E1 40 00" gives done_empty ∷ [])
    (queue_40 0x40 0x1E (hex "02 00 00 00 11 00 01 00 00 00 00 00 09 00 01 00 01 00 00 00 AA 09 00 01 00 01 00 00 00 00")) ∷
    -- numbers start at 0; the fare gets the next number, which is one more after it, over all four bytes
    numbers "00 00 00 00" "01 00 00 00" ∷ numbers "FE 00 00 00" "FF 00 00 00" ∷ numbers "FF 00 00 00" "00 01 00 00" ∷
    numbers "FF FF 00 00" "00 00 01 00" ∷ numbers "FF FF FF 00" "00 00 00 01" ∷ numbers "FF FF FF FE" "00 00 00 FF" ∷
    numbers "01 02 03 04" "02 02 03 04" ∷ numbers "FF FF 00 FF" "00 00 01 FF" ∷ numbers "FF 00 FF FF" "00 01 FF FF" ∷
    numbers "00 FF FF FF" "01 FF FF FF" ∷ numbers "FD FF FF FF" "FE FF FF FF" ∷ numbers "FE FF FF FF" "FF FF FF FF" ∷
    -- it stands behind the last one; other objects stay as they are
    stores
    (queue_40 0x3F 0x04 (hex "07 00 00 00") ++ queue_40 0x40 0x16 (hex "07 00 00 00 09 00 01 00 05 00 00 00 AA 09 00 01 00 06 00 00 00 BB") ++
    queue_40 0x41 0x0D (hex "07 00 00 00 09 00 01 00 06 00 00 00 DD") ++ first_record)
    (opened 0x00) (hex "02 04 00 03 E1 40 CC" gives done_empty ∷ [])
    (queue_40 0x3F 0x04 (hex "07 00 00 00") ++
    queue_40 0x40 0x1F (hex "08 00 00 00 09 00 01 00 05 00 00 00 AA 09 00 01 00 06 00 00 00 BB 09 00 01 00 07 00 00 00 CC") ++
    queue_40 0x41 0x0D (hex "07 00 00 00 09 00 01 00 06 00 00 00 DD") ++ first_record) ∷
    -- a set answers with no data, and the last error stays; used and its metadata follow
    talk empty_40 (opened 0x0A)
    (hex "02 04 00 04 E1 40 AA BB" gives done_empty ∷
    hex "01 01 00 02 E1 40" gives hex "00 00 00 16 20 14 C0 01 01 C4 02 00 28 C5 02 00 0E D0 01 00 D1 01 00 D3 01 00" ∷
    hex "02 04 00 03 E1 40 CC" gives done_empty ∷
    hex "01 01 00 02 E1 40" gives hex "00 00 00 16 20 14 C0 01 01 C4 02 00 28 C5 02 00 17 D0 01 00 D1 01 00 D3 01 00" ∷
    hex "01 00 00 06 E1 40 00 00 00 28" gives hex "00 00 00 17 02 00 00 00 0A 00 01 00 00 00 00 00 AA BB 09 00 01 00 01 00 00 00 CC" ∷ [])
    (opened 0x0A) ∷
    -- 11: 08 exactly when used plus 8 plus the body is above the maximum, and nothing is lost
    talk (queue_record 0x40 (hex "6E 00") (hex "0E 00") (hex "04 00") (zeros 14) ++ queue_record 0x41 (hex "6E 00") (hex "0E 00") (hex "04 00") (zeros 14))
    (opened 0x00)
    (hex "02 04 00 05 E1 40 01 02 03" refused 0x08 leaving 0x08 ∷
    hex "02 04 00 04 E1 40 01 02" gives done_empty ∷
    hex "02 04 00 03 E1 40 03" refused 0x08 leaving 0x08 ∷
    hex "01 00 00 06 E1 40 00 00 00 0E" gives hex "00 00 00 0E 01 00 00 00 0A 00 01 00 00 00 00 00 01 02" ∷
    hex "02 04 00 03 E1 41 01" gives done_empty ∷
    hex "02 04 00 03 E1 41 02" refused 0x08 leaving 0x08 ∷
    hex "01 00 00 06 E1 41 00 00 00 0E" gives hex "00 00 00 0D 01 00 00 00 09 00 01 00 00 00 00 00 01" ∷ [])
    (opened 0x08) ∷
    talk
    (queue_record 0x40 (hex "64 00") (hex "04 00") (hex "04 00") (zeros 4) ++ queue_record 0x41 (hex "6C 00") (hex "0C 00") (hex "04 00") (zeros 12) ++
    queue_record 0x42 (hex "6D 00") (hex "0D 00") (hex "04 00") (zeros 13))
    (opened 0x00)
    (hex "02 04 00 03 E1 40 01" refused 0x08 leaving 0x08 ∷
    hex "02 04 00 03 E1 41 01" refused 0x08 leaving 0x08 ∷
    hex "02 04 00 04 E1 42 01 02" refused 0x08 leaving 0x08 ∷
    hex "02 04 00 03 E1 42 01" gives done_empty ∷ [])
    (opened 0x08) ∷
    stores
    (queue_record 0x40 (hex "8C 01") (hex "2C 01") (hex "5C 00") (hex "01 00 00 00 58 00 01 00 00 00 00 00" ++ replicate 80 0x11 ++ zeros 208)) (opened 0x00)
    ((hex "02 04 00 CA E1 40" ++ replicate 200 0x22) gives done_empty ∷ [])
    (queue_record 0x40 (hex "8C 01") (hex "2C 01") (hex "2C 01")
    (hex "02 00 00 00 58 00 01 00 00 00 00 00" ++ replicate 80 0x11 ++ hex "D0 00 01 00 01 00 00 00" ++ replicate 200 0x22)) ∷
    talk (queue_record 0x40 (hex "8C 01") (hex "2C 01") (hex "5D 00") (hex "01 00 00 00 59 00 01 00 00 00 00 00" ++ replicate 81 0x11 ++ zeros 207))
    (opened 0x00)
    ((hex "02 04 00 CA E1 40" ++ replicate 200 0x22) refused 0x08 leaving 0x08 ∷ (hex "02 04 00 C9 E1 40" ++ replicate 199 0x22) gives done_empty ∷ [])
    (opened 0x08) ∷
    -- 13: at FFFFFFFF it is 0D, after 08; the last number ever given is FFFFFFFE, also where no fare is left
    talk
    (queue_40 0x40 0x04 (hex "FD FF FF FF") ++ queue_record 0x41 (hex "6D 00") (hex "0D 00") (hex "04 00") (padded 13 (hex "FF FF FF FF")) ++
    queue_record 0x42 (hex "64 00") (hex "04 00") (hex "04 00") (hex "FF FF FF FF"))
    (opened 0x00)
    (hex "02 04 00 03 E1 42 A1" refused 0x08 leaving 0x08 ∷
    hex "02 04 00 04 E1 41 A1 A2" refused 0x08 leaving 0x08 ∷
    hex "02 04 00 03 E1 40 A1" gives done_empty ∷
    hex "02 04 00 03 E1 40 B1" gives done_empty ∷
    hex "02 04 00 03 E1 40 C1" refused 0x0D leaving 0x0D ∷
    hex "02 04 00 03 E1 41 A1" refused 0x0D leaving 0x0D ∷
    in_room 4 (hex "82 04 00 04 E1 41 A1 A2" refused 0x08 leaving 0x08) ∷
    in_room 4 (hex "02 04 00 03 E1 41 A1" refused 0x0D leaving 0x0D) ∷
    hex "01 00 00 06 E1 40 00 00 00 28" gives hex "00 00 00 16 FF FF FF FF 09 00 01 00 FD FF FF FF A1 09 00 01 00 FE FF FF FF B1" ∷
    hex "02 05 00 06 E1 40 FF FF FF FE" gives done_empty ∷
    hex "02 04 00 03 E1 40 C1" refused 0x0D leaving 0x0D ∷
    hex "01 00 00 06 E1 40 00 00 00 28" gives hex "00 00 00 04 FF FF FF FF" ∷ [])
    (opened 0x0D) ∷
    -- 9; 10, before 03, 08 and 0D
    talk
    (guarded_queue 0x40 "01 FF" "01 00" (hex "64 00") (hex "04 00") (hex "04 00") (hex "FF FF FF FF") ++
    guarded_40 0x41 "01 FF" "01 00" 0x04 (hex "FF FF FF FF") ++ guarded_40 0x42 "01 FF" "01 00" 0x04 (hex "00 00 00 00") ++ third_record)
    (opened 0x00)
    (hex "02 04 00 03 E1 43 AA" refused 0x01 leaving 0x01 ∷
    hex "02 04 00 03 E1 40 AA" refused 0x07 leaving 0x07 ∷
    hex "02 04 00 03 E1 41 AA" refused 0x07 leaving 0x07 ∷
    hex "02 04 00 03 E1 42 AA" refused 0x07 leaving 0x07 ∷
    hex "02 04 00 03 F1 D2 AA" refused 0x07 leaving 0x07 ∷ [])
    (opened 0x07) ∷
    -- the change expression, and not the read expression, with the object's own LcsO
    talk (guarded_40 0x40 "03 E1 FC 07" "01 FF" 0x04 (hex "00 00 00 00")) (opened 0x00)
    (hex "02 04 00 03 E1 40 AA" gives done_empty ∷
    hex "02 01 00 07 E1 40 20 03 C0 01 07" gives done_empty ∷
    hex "02 04 00 03 E1 40 BB" refused 0x07 leaving 0x07 ∷
    hex "01 01 00 02 E1 40" gives hex "00 00 00 18 20 16 C0 01 07 C4 02 00 28 C5 02 00 0D D0 03 E1 FC 07 D1 01 FF D3 01 00" ∷ [])
    (opened 0x07) ∷
    -- 03 of another kind and of a life cycle object, before 08; 07 of F1C2
    talk
    (up_counter 0x20 (hex "00 00 00 00 00 00 00 09") ++ down_counter 0x21 (hex "00 00 00 09 00 00 00 00") ++
    kept_as (hex "01 00") (hex "01 00 00 00 09 00 01 00 00 00 00 00 AA") ++ first_record ++ second_record)
    (opened 0x00)
    (hex "02 04 00 03 E1 40 BB" refused 0x03 leaving 0x03 ∷
    hex "02 04 00 03 E1 20 01" refused 0x03 leaving 0x03 ∷
    hex "02 04 00 03 E1 21 01" refused 0x03 leaving 0x03 ∷
    hex "02 04 00 03 F1 D0 AA" refused 0x03 leaving 0x03 ∷
    hex "02 04 00 08 F1 D1 AA BB CC DD EE FF" refused 0x03 leaving 0x03 ∷
    hex "02 04 00 03 E0 C0 03" refused 0x03 leaving 0x03 ∷
    hex "02 04 00 03 F1 C0 03" refused 0x03 leaving 0x03 ∷
    hex "02 04 00 03 F1 C2 00" refused 0x07 leaving 0x07 ∷ [])
    (opened 0x07) ∷
    -- 2: a queue that is malformed is 06, whatever is asked
    talk (queue_40 0x40 0x05 (hex "00 00 00 00")) (opened 0x00)
    (hex "02 04 00 03 E1 40 AA" refused 0x06 leaving 0x06 ∷ hex "02 04 00 02 E1 40" refused 0x06 leaving 0x06 ∷ []) (opened 0x06) ∷
    -- closed, terminated, the flush bit, and a small room
    talk empty_40 (closed 0x00) (hex "02 04 00 03 E1 40 AA" refused 0x0C leaving 0x0C ∷ []) (closed 0x0C) ∷
    talk empty_40 (session true 0x01 0x0F 0x00) (hex "02 04 00 03 E1 40 AA" refused 0x0C leaving 0x0C ∷ []) (session true 0x01 0x0F 0x0C) ∷
    talk empty_40 (opened 0x0A) (in_room 4 (hex "82 04 00 03 E1 40 AA" gives done_empty) ∷ []) (opened 0x00) ∷
    talk empty_40 (opened 0x0A)
    (unanswered_in 3 (hex "82 04 00 03 E1 40 AA") ∷
    hex "02 04 00 03 E1 40 BB" gives done_empty ∷
    hex "01 00 00 06 E1 40 00 00 00 28" gives hex "00 00 00 0D 01 00 00 00 09 00 01 00 00 00 00 00 BB" ∷ [])
    (opened 0x0A) ∷
    -- Params 03 and 06 of a set, and 04 of a get, are unknown
    talk empty_40 (opened 0x00)
    (hex "02 03 00 03 E1 40 AA" refused 0x03 leaving 0x03 ∷
    hex "02 06 00 03 E1 40 AA" refused 0x03 leaving 0x03 ∷
    hex "01 04 00 03 E1 40 AA" refused 0x03 leaving 0x03 ∷
    hex "01 04 00 03 AB CD AA" refused 0x03 leaving 0x03 ∷ [])
    (opened 0x03) ∷ []

-- acknowledgements ------------------------------------------------------------------------------------------------------------

-- the fares 5, 6 and 7, of one byte, three and two
unfoldable pub three_fares : List ℕ
three_fares =
    queue_40 0x40 0x22 (hex "08 00 00 00 09 00 01 00 05 00 00 00 A1 0B 00 01 00 06 00 00 00 B1 B2 B3 0A 00 01 00 07 00 00 00 C1 C2")

-- of these, an acknowledgement of this number leaves so many bytes in use, and these, then zeros
unfoldable pub leaves : String → ℕ → String → Case
leaves number used content =
    stores three_fares (opened 0x00) ((hex "02 05 00 06 E1 40" ++ hex number) gives done_empty ∷ []) (queue_40 0x40 used (hex content))

unfoldable pub acknowledge_cases : List Case
acknowledge_cases =
    -- 7: InLen is 6 exactly; before step 9
    talk three_fares (opened 0x00)
    (hex "02 05 00 02 E1 40" refused 0x04 leaving 0x04 ∷
    hex "02 05 00 05 E1 40 00 00 00" refused 0x04 leaving 0x04 ∷
    hex "02 05 00 07 E1 40 00 00 00 05 00" refused 0x04 leaving 0x04 ∷
    hex "02 05 00 05 AB CD 00 00 00" refused 0x04 leaving 0x04 ∷
    hex "02 05 00 07 AB CD 00 00 00 05 00" refused 0x04 leaving 0x04 ∷
    hex "02 05 00 06 E1 40 00 00 00 05" gives done_empty ∷ [])
    (opened 0x04) ∷
    -- that fare and all before it are gone: the first, one in the middle, the last; those left stand at the front, used falls, bytes past used are
    -- zero, and the next number stays
    leaves "00 00 00 05" 0x19 "08 00 00 00 0B 00 01 00 06 00 00 00 B1 B2 B3 0A 00 01 00 07 00 00 00 C1 C2" ∷
    leaves "00 00 00 06" 0x0E "08 00 00 00 0A 00 01 00 07 00 00 00 C1 C2" ∷ leaves "00 00 00 07" 0x04 "08 00 00 00" ∷
    -- a set answers with no data, and the last error stays; used and its metadata follow
    talk three_fares (opened 0x0A)
    (hex "02 05 00 06 E1 40 00 00 00 06" gives done_empty ∷
    hex "01 01 00 02 E1 40" gives hex "00 00 00 16 20 14 C0 01 01 C4 02 00 28 C5 02 00 0E D0 01 00 D1 01 00 D3 01 00" ∷
    hex "01 00 00 06 E1 40 00 00 00 28" gives hex "00 00 00 0E 08 00 00 00 0A 00 01 00 07 00 00 00 C1 C2" ∷
    hex "02 05 00 06 E1 40 00 00 00 07" gives done_empty ∷
    hex "01 01 00 02 E1 40" gives hex "00 00 00 16 20 14 C0 01 01 C4 02 00 28 C5 02 00 04 D0 01 00 D1 01 00 D3 01 00" ∷
    -- the number stays the next one
    hex "02 04 00 03 E1 40 D1" gives done_empty ∷
    hex "01 00 00 06 E1 40 00 00 00 28" gives hex "00 00 00 0D 09 00 00 00 09 00 01 00 08 00 00 00 D1" ∷ [])
    (opened 0x0A) ∷
    -- 12: a number that is not present is 05: past ones, those to come, all four bytes of it
    talk three_fares (opened 0x00)
    (hex "02 05 00 06 E1 40 00 00 00 04" refused 0x05 leaving 0x05 ∷
    hex "02 05 00 06 E1 40 00 00 00 00" refused 0x05 leaving 0x05 ∷
    hex "02 05 00 06 E1 40 00 00 00 08" refused 0x05 leaving 0x05 ∷
    hex "02 05 00 06 E1 40 00 00 00 09" refused 0x05 leaving 0x05 ∷
    hex "02 05 00 06 E1 40 FF FF FF FF" refused 0x05 leaving 0x05 ∷
    hex "02 05 00 06 E1 40 01 00 00 05" refused 0x05 leaving 0x05 ∷
    hex "02 05 00 06 E1 40 00 01 00 06" refused 0x05 leaving 0x05 ∷
    hex "02 05 00 06 E1 40 00 00 01 07" refused 0x05 leaving 0x05 ∷
    hex "02 05 00 06 E1 40 05 00 00 00" refused 0x05 leaving 0x05 ∷
    hex "02 05 00 06 E1 40 00 00 00 06" gives done_empty ∷
    hex "02 05 00 06 E1 40 00 00 00 05" refused 0x05 leaving 0x05 ∷
    hex "02 05 00 06 E1 40 00 00 00 06" refused 0x05 leaving 0x05 ∷
    hex "02 05 00 06 E1 40 00 00 00 07" gives done_empty ∷
    hex "02 05 00 06 E1 40 00 00 00 07" refused 0x05 leaving 0x05 ∷
    hex "02 05 00 06 E1 40 00 00 00 08" refused 0x05 leaving 0x05 ∷ [])
    (opened 0x05) ∷
    talk (queue_40 0x40 0x04 (hex "00 00 00 00") ++ queue_40 0x41 0x04 (hex "01 00 00 00")) (opened 0x00)
    (hex "02 05 00 06 E1 40 00 00 00 00" refused 0x05 leaving 0x05 ∷
    hex "02 05 00 06 E1 40 FF FF FF FF" refused 0x05 leaving 0x05 ∷
    hex "02 05 00 06 E1 41 00 00 00 00" refused 0x05 leaving 0x05 ∷
    hex "02 05 00 06 E1 41 00 00 00 01" refused 0x05 leaving 0x05 ∷ [])
    (opened 0x05) ∷
    -- most significant byte first
    talk (queue_40 0x40 0x16 (hex "06 03 02 01 09 00 01 00 04 03 02 01 AA 09 00 01 00 05 03 02 01 BB")) (opened 0x00)
    (hex "02 05 00 06 E1 40 04 03 02 01" refused 0x05 leaving 0x05 ∷
    hex "02 05 00 06 E1 40 02 01 04 03" refused 0x05 leaving 0x05 ∷
    hex "02 05 00 06 E1 40 03 04 01 02" refused 0x05 leaving 0x05 ∷
    hex "02 05 00 06 E1 40 01 02 03 04" gives done_empty ∷
    hex "01 00 00 06 E1 40 00 00 00 28" gives hex "00 00 00 0D 06 03 02 01 09 00 01 00 05 03 02 01 BB" ∷ [])
    (opened 0x05) ∷
    -- over a carry
    stores (queue_40 0x40 0x16 (hex "01 00 01 00 09 00 01 00 FF FF 00 00 AA 09 00 01 00 00 00 01 00 BB")) (opened 0x00)
    (hex "02 05 00 06 E1 40 00 00 FF FF" gives done_empty ∷ []) (queue_40 0x40 0x0D (hex "01 00 01 00 09 00 01 00 00 00 01 00 BB")) ∷
    stores (queue_40 0x40 0x16 (hex "01 00 01 00 09 00 01 00 FF FF 00 00 AA 09 00 01 00 00 00 01 00 BB")) (opened 0x00)
    (hex "02 05 00 06 E1 40 00 01 00 00" gives done_empty ∷ []) (queue_40 0x40 0x04 (hex "01 00 01 00")) ∷
    -- a full queue of 300 bytes; other objects stay as they are
    stores
    (queue_40 0x3F 0x0D (hex "02 00 00 00 09 00 01 00 01 00 00 00 DD") ++
    queue_record 0x40 (hex "8C 01") (hex "2C 01") (hex "2C 01")
    (hex "02 00 00 00 58 00 01 00 00 00 00 00" ++ replicate 80 0x11 ++ hex "D0 00 01 00 01 00 00 00" ++ replicate 200 0x22) ++ first_record)
    (opened 0x00) (hex "02 05 00 06 E1 40 00 00 00 00" gives done_empty ∷ [])
    (queue_40 0x3F 0x0D (hex "02 00 00 00 09 00 01 00 01 00 00 00 DD") ++
    queue_record 0x40 (hex "8C 01") (hex "2C 01") (hex "D4 00") (hex "02 00 00 00 D0 00 01 00 01 00 00 00" ++ replicate 200 0x22 ++ zeros 88) ++ first_record) ∷
    -- 9; 10, before 03 and 05
    talk (guarded_40 0x40 "01 FF" "01 00" 0x0D (hex "01 00 00 00 09 00 01 00 00 00 00 00 AA") ++ third_record) (opened 0x00)
    (hex "02 05 00 06 E1 41 00 00 00 00" refused 0x01 leaving 0x01 ∷
    hex "02 05 00 06 E1 40 00 00 00 00" refused 0x07 leaving 0x07 ∷
    hex "02 05 00 06 E1 40 00 00 00 01" refused 0x07 leaving 0x07 ∷
    hex "02 05 00 06 F1 D2 00 00 00 00" refused 0x07 leaving 0x07 ∷ [])
    (opened 0x07) ∷
    -- the change expression, and not the read expression, with the object's own LcsO
    talk (guarded_40 0x40 "03 E1 FC 07" "01 FF" 0x16 (hex "02 00 00 00 09 00 01 00 00 00 00 00 AA 09 00 01 00 01 00 00 00 BB")) (opened 0x00)
    (hex "02 05 00 06 E1 40 00 00 00 00" gives done_empty ∷
    hex "02 01 00 07 E1 40 20 03 C0 01 07" gives done_empty ∷
    hex "02 05 00 06 E1 40 00 00 00 01" refused 0x07 leaving 0x07 ∷
    hex "01 01 00 02 E1 40" gives hex "00 00 00 18 20 16 C0 01 07 C4 02 00 28 C5 02 00 0D D0 03 E1 FC 07 D1 01 FF D3 01 00" ∷ [])
    (opened 0x07) ∷
    -- 03 of another kind and of a life cycle object, before 05; 07 of F1C2
    talk
    (up_counter 0x20 (hex "00 00 00 00 00 00 00 09") ++ down_counter 0x21 (hex "00 00 00 09 00 00 00 00") ++
    kept_as (hex "01 00") (hex "01 00 00 00 09 00 01 00 00 00 00 00 AA") ++ first_record)
    (opened 0x00)
    (hex "02 05 00 06 E1 40 00 00 00 00" refused 0x03 leaving 0x03 ∷
    hex "02 05 00 06 E1 40 00 00 00 01" refused 0x03 leaving 0x03 ∷
    hex "02 05 00 06 E1 20 00 00 00 00" refused 0x03 leaving 0x03 ∷
    hex "02 05 00 06 E1 21 00 00 00 09" refused 0x03 leaving 0x03 ∷
    hex "02 05 00 06 F1 D0 00 00 00 00" refused 0x03 leaving 0x03 ∷
    hex "02 05 00 06 E0 C0 00 00 00 01" refused 0x03 leaving 0x03 ∷
    hex "02 05 00 06 F1 C0 00 00 00 03" refused 0x03 leaving 0x03 ∷
    hex "02 05 00 06 F1 C2 00 00 00 00" refused 0x07 leaving 0x07 ∷ [])
    (opened 0x07) ∷
    -- closed, the flush bit, and a small room
    talk three_fares (closed 0x00) (hex "02 05 00 06 E1 40 00 00 00 05" refused 0x0C leaving 0x0C ∷ []) (closed 0x0C) ∷
    talk three_fares (opened 0x0A) (in_room 4 (hex "82 05 00 06 E1 40 00 00 00 05" gives done_empty) ∷ []) (opened 0x00) ∷
    talk three_fares (opened 0x0A)
    (unanswered_in 3 (hex "82 05 00 06 E1 40 00 00 00 05") ∷ hex "02 05 00 06 E1 40 00 00 00 05" gives done_empty ∷ []) (opened 0x0A) ∷
    -- Param 05 of a get is unknown
    talk three_fares (opened 0x00) (hex "01 05 00 06 E1 40 00 00 00 05" refused 0x03 leaving 0x03 ∷ []) (opened 0x03) ∷ []

-- plain writes, reading, metadata, and the counters of a condition -----------------------------------------------------------------

-- E120 and E121 at these values of 9, and a queue that is changed on the one, named twice, and read on the other
unfoldable pub counted_queue : ℕ → ℕ → ℕ → String → List ℕ
counted_queue x y used content =
    up_counter 0x20 (hex "00 00 00" ++ x ∷ hex "00 00 00 09") ++ up_counter 0x21 (hex "00 00 00" ++ y ∷ hex "00 00 00 09") ++
    guarded_40 0x40 "07 40 E1 20 FD 40 E1 20" "03 40 E1 21" used (hex content)

-- E140 empty, and E141 of maximum 13
unfoldable pub two_queues : List ℕ
two_queues = empty_40 ++ queue_record 0x41 (hex "6D 00") (hex "0D 00") (hex "04 00") (zeros 13)

unfoldable pub queue_plain_cases : List Case
queue_plain_cases =
    -- 10: plain writes, erasing or not, are 07, also where they would be 08, or would change nothing, or leave a queue; 04 and 01 come before
    talk three_fares (opened 0x00)
    (hex "02 00 00 04 E1 40 00 00" refused 0x04 leaving 0x04 ∷
    hex "02 40 00 04 E1 40 00 00" refused 0x04 leaving 0x04 ∷
    hex "02 00 00 05 E1 41 00 00 08" refused 0x01 leaving 0x04 ∷
    hex "02 00 00 05 E1 40 00 00 08" refused 0x07 leaving 0x07 ∷
    hex "02 00 00 05 E1 40 00 27 00" refused 0x07 leaving 0x07 ∷
    hex "02 00 00 05 E1 40 00 28 00" refused 0x07 leaving 0x07 ∷
    hex "02 00 00 05 E1 40 FF FF 00" refused 0x07 leaving 0x07 ∷
    hex "02 40 00 05 E1 40 00 00 08" refused 0x07 leaving 0x07 ∷
    hex "02 40 00 08 E1 40 00 00 08 00 00 00" refused 0x07 leaving 0x07 ∷
    hex "02 40 00 05 E1 40 00 28 00" refused 0x07 leaving 0x07 ∷ [])
    (opened 0x07) ∷
    -- whatever the change expression says
    talk (guarded_40 0x40 "01 FF" "01 00" 0x04 (hex "00 00 00 00") ++ guarded_40 0x41 "03 E1 FC 07" "01 00" 0x04 (hex "00 00 00 00")) (opened 0x00)
    (hex "02 00 00 05 E1 40 00 00 01" refused 0x07 leaving 0x07 ∷
    hex "02 40 00 05 E1 40 00 00 01" refused 0x07 leaving 0x07 ∷
    hex "02 00 00 05 E1 41 00 00 01" refused 0x07 leaving 0x07 ∷
    hex "02 40 00 08 E1 41 00 00 01 00 00 00" refused 0x07 leaving 0x07 ∷ [])
    (opened 0x07) ∷
    -- of other kinds they are as ever
    talk (empty_40 ++ first_record) (opened 0x00)
    (hex "02 00 00 05 F1 D0 00 00 AA" gives done_empty ∷ hex "02 40 00 05 F1 D0 00 00 BB" gives done_empty ∷ []) (opened 0x00) ∷
    -- a count is 03, before 08; 07 where access is not granted
    talk (empty_40 ++ guarded_40 0x41 "01 FF" "01 00" 0x04 (hex "00 00 00 00")) (opened 0x00)
    (hex "02 02 00 05 E1 40 00 00 01" refused 0x03 leaving 0x03 ∷
    hex "02 02 00 05 E1 40 00 01 01" refused 0x03 leaving 0x03 ∷
    hex "02 02 00 05 E1 41 00 00 01" refused 0x07 leaving 0x07 ∷ [])
    (opened 0x07) ∷
    -- a get shows the bytes in use, whole and in part; only an offset above used is 08
    talk three_fares (opened 0x00)
    (hex "01 00 00 06 E1 40 00 00 00 04" gives hex "00 00 00 04 08 00 00 00" ∷
    hex "01 00 00 06 E1 40 00 04 00 09" gives hex "00 00 00 09 09 00 01 00 05 00 00 00 A1" ∷
    hex "01 00 00 06 E1 40 00 00 FF FF" gives
    hex "00 00 00 22 08 00 00 00 09 00 01 00 05 00 00 00 A1 0B 00 01 00 06 00 00 00 B1 B2 B3 0A 00 01 00 07 00 00 00 C1 C2" ∷
    hex "01 00 00 06 E1 40 00 20 00 09" gives hex "00 00 00 02 C1 C2" ∷
    hex "01 00 00 06 E1 40 00 22 00 01" gives done_empty ∷
    hex "01 00 00 06 E1 40 00 23 00 00" refused 0x08 leaving 0x08 ∷
    in_room 37 (hex "01 00 00 06 E1 40 00 00 00 28" refused 0x0D leaving 0x0D) ∷ [])
    (opened 0x0D) ∷
    -- on its read expression
    talk (guarded_40 0x40 "01 00" "01 FF" 0x04 (hex "07 00 00 00") ++ guarded_40 0x41 "01 FF" "03 E1 FC 03" 0x04 (hex "07 00 00 00")) (opened 0x00)
    (hex "01 00 00 06 E1 40 00 00 00 04" refused 0x07 leaving 0x07 ∷
    hex "01 00 00 06 E1 41 00 00 00 04" gives hex "00 00 00 04 07 00 00 00" ∷
    hex "02 04 00 03 E1 40 AA" gives done_empty ∷
    hex "02 05 00 06 E1 40 00 00 00 07" gives done_empty ∷ [])
    (opened 0x07) ∷
    -- metadata is shown and set as that of other objects, and the fares stay
    talk three_fares (opened 0x00)
    (hex "01 01 00 02 E1 40" gives hex "00 00 00 16 20 14 C0 01 01 C4 02 00 28 C5 02 00 22 D0 01 00 D1 01 00 D3 01 00" ∷
    hex "02 01 00 07 E1 40 20 03 C0 01 02" refused 0x05 leaving 0x05 ∷
    hex "02 01 00 0A E1 40 20 06 C0 01 07 D0 01 FF" gives done_empty ∷
    hex "01 01 00 02 E1 40" gives hex "00 00 00 16 20 14 C0 01 07 C4 02 00 28 C5 02 00 22 D0 01 FF D1 01 00 D3 01 00" ∷
    hex "01 00 00 06 E1 40 00 18 00 0A" gives hex "00 00 00 0A 0A 00 01 00 07 00 00 00 C1 C2" ∷
    hex "02 05 00 06 E1 40 00 00 00 05" refused 0x07 leaving 0x07 ∷
    hex "02 04 00 03 E1 40 D1" refused 0x07 leaving 0x07 ∷
    hex "02 01 00 07 E1 40 20 03 D0 01 00" refused 0x07 leaving 0x07 ∷ [])
    (opened 0x07) ∷
    -- an append, and an acknowledgement, move the counters of the change expression once, and those of no other
    stores (counted_queue 0 0 0x0D "01 00 00 00 09 00 01 00 00 00 00 00 AA") (opened 0x00) (hex "02 04 00 03 E1 40 BB" gives done_empty ∷ [])
    (counted_queue 1 0 0x16 "02 00 00 00 09 00 01 00 00 00 00 00 AA 09 00 01 00 01 00 00 00 BB") ∷
    stores (counted_queue 3 0 0x0D "01 00 00 00 09 00 01 00 00 00 00 00 AA") (opened 0x00) (hex "02 05 00 06 E1 40 00 00 00 00" gives done_empty ∷ [])
    (counted_queue 4 0 0x04 "01 00 00 00") ∷
    stores (counted_queue 0 0 0x0D "01 00 00 00 09 00 01 00 00 00 00 00 AA") (opened 0x00)
    (hex "01 00 00 06 E1 40 00 00 00 0D" gives hex "00 00 00 0D 01 00 00 00 09 00 01 00 00 00 00 00 AA" ∷ [])
    (counted_queue 0 1 0x0D "01 00 00 00 09 00 01 00 00 00 00 00 AA") ∷
    -- what is refused moves none: 04, 03, 05, 07 of a plain write, 08; and 0D
    talk (counted_queue 8 0 0x0D "01 00 00 00 09 00 01 00 00 00 00 00 AA") (opened 0x00)
    (hex "02 02 00 05 E1 40 00 00 01" refused 0x03 leaving 0x03 ∷
    hex "02 04 00 02 E1 40" refused 0x04 leaving 0x04 ∷
    hex "02 05 00 06 E1 40 00 00 00 01" refused 0x05 leaving 0x05 ∷
    hex "02 00 00 05 E1 40 00 00 01" refused 0x07 leaving 0x07 ∷
    hex "02 40 00 05 E1 40 00 00 01" refused 0x07 leaving 0x07 ∷
    (hex "02 04 00 16 E1 40" ++ replicate 20 0xBB) refused 0x08 leaving 0x08 ∷
    unanswered_in 3 (hex "02 04 00 03 E1 40 BB") ∷
    hex "01 00 00 06 E1 20 00 00 00 08" gives hex "00 00 00 08 00 00 00 08 00 00 00 09" ∷
    -- and then, at its threshold, it denies both
    hex "02 04 00 03 E1 40 BB" gives done_empty ∷
    hex "01 00 00 06 E1 20 00 00 00 08" gives hex "00 00 00 08 00 00 00 09 00 00 00 09" ∷
    hex "82 04 00 03 E1 40 CC" refused 0x07 leaving 0x07 ∷
    hex "82 05 00 06 E1 40 00 00 00 00" refused 0x07 leaving 0x07 ∷
    hex "82 00 00 05 E1 40 00 00 01" refused 0x07 leaving 0x07 ∷ [])
    (opened 0x07) ∷
    talk (counted_queue 0 0 0x04 "FF FF FF FF") (opened 0x00)
    (hex "02 04 00 03 E1 40 BB" refused 0x0D leaving 0x0D ∷
    hex "01 00 00 06 E1 20 00 00 00 04" gives hex "00 00 00 04 00 00 00 00" ∷ [])
    (opened 0x0D) ∷
    -- a queue is no up counter that a condition could use up
    talk (queue_40 0x40 0x0D (hex "01 00 00 00 09 00 01 00 00 00 00 00 AA") ++ guarded 0xD0 "03 40 E1 40" "03 40 E1 40") (opened 0x00)
    (hex "02 00 00 05 F1 D0 00 00 AA" refused 0x07 leaving 0x07 ∷ hex "01 00 00 06 F1 D0 00 00 00 01" refused 0x07 leaving 0x07 ∷ []) (opened 0x07) ∷
    -- both are read or write commands, and name the object in their fifth and sixth bytes
    reads_writes (hex "02 04 00 03 E1 40 AA") true ∷ reads_writes (hex "82 05 00 06 E1 40 00 00 00 05") true ∷
    names (hex "02 04 00 03 E1 40 AA") (some 0xE140) ∷ names (hex "82 05 00 06 E1 41 00 00 00 05") (some 0xE141) ∷
    -- two lists, one on each queue: mixed, and one after the other, they leave the same
    runs two_queues (opened 0x00)
    (turn (hex "02 04 00 03 E1 40 AA") (hex "EE EE EE EE") ∷
    turn (hex "02 04 00 03 E1 41 CC") (hex "EE EE EE EE") ∷
    turn (hex "02 04 00 03 E1 41 DD") (hex "EE EE EE EE") ∷
    turn (hex "02 05 00 06 E1 40 00 00 00 00") (hex "EE EE EE EE") ∷
    turn (hex "02 05 00 06 E1 41 00 00 00 00") (hex "EE EE EE EE EE") ∷
    turn (hex "02 04 00 03 E1 40 BB") (hex "EE EE EE EE") ∷ [])
    (told 0 (hex "00 00 00 00") ∷
    told 0 (hex "00 00 00 00") ∷
    told 0 (hex "FF 00 00 00") ∷
    told 0 (hex "00 00 00 00") ∷
    told 0 (hex "00 00 00 00 EE") ∷
    told 0 (hex "00 00 00 00") ∷ [])
    (queue_40 0x40 0x0D (hex "02 00 00 00 09 00 01 00 01 00 00 00 BB") ++
    queue_record 0x41 (hex "6D 00") (hex "0D 00") (hex "04 00") (padded 13 (hex "01 00 00 00")))
    (opened 0x08) ∷
    runs two_queues (opened 0x00)
    (turn (hex "02 04 00 03 E1 40 AA") (hex "EE EE EE EE") ∷
    turn (hex "02 05 00 06 E1 40 00 00 00 00") (hex "EE EE EE EE") ∷
    turn (hex "02 04 00 03 E1 40 BB") (hex "EE EE EE EE") ∷
    turn (hex "02 04 00 03 E1 41 CC") (hex "EE EE EE EE") ∷
    turn (hex "02 04 00 03 E1 41 DD") (hex "EE EE EE EE") ∷
    turn (hex "02 05 00 06 E1 41 00 00 00 00") (hex "EE EE EE EE EE") ∷ [])
    (told 0 (hex "00 00 00 00") ∷
    told 0 (hex "00 00 00 00") ∷
    told 0 (hex "00 00 00 00") ∷
    told 0 (hex "00 00 00 00") ∷
    told 0 (hex "FF 00 00 00") ∷
    told 0 (hex "00 00 00 00 EE") ∷ [])
    (queue_40 0x40 0x0D (hex "02 00 00 00 09 00 01 00 01 00 00 00 BB") ++
    queue_record 0x41 (hex "6D 00") (hex "0D 00") (hex "04 00") (padded 13 (hex "01 00 00 00")))
    (opened 0x08) ∷ []
