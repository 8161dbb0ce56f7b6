-- The bench sheet: P1 to P12 as one table, its other lines, and the six slips; then short reads, lists of commands, counters, the conditions that
-- use them up, and fare queues.
use Rattle.std.specs.Prelude.{ℕ, true, false, List, [], ◌∷◌, ◌++◌}
use Rattle.rules.specs.Basic.{zeros}
use Rattle.rules.specs.Hex.{hex, ascii}
use Rattle.rules.specs.Factory.{factory_store, fresh_session}
use Rattle.rules.specs.Cases.{session, opened, closed, ◌gives◌, ◌refused◌leaving◌, in_room, done_empty, turn, told}
use Rattle.rules.specs.Cases.{Case, talk, judge, sound, begins, reads_writes, runs, prints}
use Rattle.rules.specs.Stores.{by_hand, first_record, second_record, third_record, three, up_counter, down_counter, guarded, guarded_counter}
use Rattle.rules.specs.Stores.{queue_record, guarded_40, queue_40}

unfoldable pub open_command : List ℕ
open_command = hex "70 00 00 10 D2 76 00 00 04 47 65 6E 41 75 74 68 41 70 70 6C"

-- the metadata of F1D0 in the factory store, as a get answers it
unfoldable pub factory_metadata : List ℕ
factory_metadata = hex "00 00 00 18 20 16 C0 01 01 C4 02 00 8C C5 02 00 00 D0 03 E1 FC 07 D1 01 00 D3 01 00"

-- from the factory store and the fresh session, opened
unfoldable pub cases : List Case
cases =
    -- P1
    talk factory_store fresh_session (open_command gives done_empty ∷ []) (opened 0x00) ∷
    -- P2
    talk factory_store (opened 0x00) (hex "01 01 00 02 F1 D0" gives factory_metadata ∷ []) (opened 0x00) ∷
    -- P3, P4
    talk factory_store (opened 0x00)
    (hex "02 00 00 0C F1 D0 00 09 01 02 03 04 05 06 07 08" gives done_empty ∷
    hex "01 00 00 06 F1 D0 00 00 00 11" gives (hex "00 00 00 11" ++ zeros 9 ++ hex "01 02 03 04 05 06 07 08") ∷
    hex "01 00 00 06 F1 D0 00 00 00 12" gives (hex "00 00 00 11" ++ zeros 9 ++ hex "01 02 03 04 05 06 07 08") ∷ [])
    (opened 0x00) ∷
    -- P5, P6
    talk factory_store (opened 0x00)
    (hex "02 00 00 0C F1 D0 00 84 01 02 03 04 05 06 07 08" gives done_empty ∷
    hex "02 00 00 0C F1 D0 00 85 01 02 03 04 05 06 07 08" refused 0x08 leaving 0x08 ∷ [])
    (opened 0x08) ∷
    talk factory_store (opened 0x00)
    (hex "02 00 00 05 F1 E0 05 DB AA" gives done_empty ∷ hex "02 00 00 05 F1 E0 05 DC AA" refused 0x08 leaving 0x08 ∷ [])
    (opened 0x08) ∷
    -- P7, P8, P9
    talk factory_store (opened 0x00)
    (hex "02 01 00 07 F1 D0 20 03 C0 01 07" gives done_empty ∷
    hex "02 00 00 05 F1 D0 00 00 AA" refused 0x07 leaving 0x07 ∷
    hex "01 00 00 06 F1 C2 00 00 00 01" gives hex "00 00 00 01 07" ∷
    hex "01 00 00 06 F1 C2 00 00 00 01" gives hex "00 00 00 01 00" ∷ [])
    (opened 0x00) ∷
    -- P10
    talk factory_store (opened 0x00)
    (hex "01 00 00 06 F1 D0 00 01 00 01" refused 0x08 leaving 0x08 ∷
    hex "01 00 00 06 AB CD 00 00 00 01" refused 0x01 leaving 0x08 ∷
    hex "01 00 00 06 F1 C2 00 00 00 01" gives hex "00 00 00 01 08" ∷ [])
    (opened 0x00) ∷
    -- P11, and its twin in which E0 FB 03 decides
    judge (hex "70 FA 07 FE E1 FC 07 FD E0 FB 03") (session true 0x07 0x03 0x00) 0x07 true ∷
    judge (hex "70 FA 07 FE E1 FC 07 FD E0 FB 03") (session true 0x03 0x07 0x00) 0x03 true ∷
    judge (hex "70 FA 07 FE E1 FC 07 FD E0 FB 03") (session true 0x03 0x03 0x00) 0x03 false ∷
    -- P12
    begins (hex "EC 00 01 00 D0 F1 8C 00 00 00 01 00 03 E1 FC 07") ∷ []

-- the sheet's other lines
unfoldable pub more_cases : List Case
more_cases =
    -- a 27 byte expression is taken; 8 conditions are refused 05
    talk factory_store (opened 0x00)
    (hex "02 01 00 21 F1 D0 20 1D D1 1B 70 FA 01 FD 70 FA 01 FD 70 FA 01 FE 70 FA 01 FD 70 FA 01 FE 70 FA 01 FD 70 FA 01" gives done_empty ∷
    hex "02 01 00 25 F1 D0 20 21 D1 1F 70 FA 01 FD 70 FA 01 FD 70 FA 01 FE 70 FA 01 FD 70 FA 01 FE 70 FA 01 FD 70 FA 01 FD 70 FA 01"
    refused 0x05 leaving 0x05 ∷ [])
    (opened 0x05) ∷
    -- the empty command
    talk factory_store (opened 0x00) ([] refused 0x04 leaving 0x04 ∷ []) (opened 0x04) ∷
    -- metadata read back, without C4 and C5, may be sent in and changes nothing
    talk factory_store (opened 0x00)
    (hex "02 01 00 12 F1 D0 20 0E C0 01 01 D0 03 E1 FC 07 D1 01 00 D3 01 00" gives done_empty ∷ hex "01 01 00 02 F1 D0" gives factory_metadata ∷ [])
    (opened 0x00) ∷
    -- the program
    prints (hex "00 14 70 00 00 10 D2 76 00 00 04 47 65 6E 41 75 74 68 41 70 70 6C 00 0A 01 00 00 06 F1 C2 00 00 00 01")
    (ascii "0 00000000" ++ 0x0A ∷ ascii "0 0000000100" ++ 0x0A ∷ []) ∷
    prints (hex "00 04 71 00 00 00 00") (ascii "0 FF000000" ++ 0x0A ∷ ascii "cut" ++ 0x0A ∷ []) ∷ []

-- the slips that have cost fares, and what each would have got wrong; then what no sheet line and no slip has
unfoldable pub slip_cases : List Case
slip_cases =
    -- 1: a full object is refused 08 and keeps its front
    talk factory_store (opened 0x00)
    (hex "02 00 00 07 F1 D0 00 89 01 02 03" gives done_empty ∷
    hex "02 00 00 05 F1 D0 00 8C AA" refused 0x08 leaving 0x08 ∷
    hex "01 00 00 06 F1 D0 00 00 00 01" gives hex "00 00 00 01 00" ∷
    hex "01 00 00 06 F1 D0 00 89 00 03" gives hex "00 00 00 03 01 02 03" ∷ [])
    (opened 0x08) ∷
    -- 2: and binds first, also where the first group fails, and where the last condition decides
    judge (hex "70 FA 07 FE E1 FC 07 FD E0 FB 03") (session true 0x03 0x03 0x00) 0x07 false ∷
    judge (hex "E1 FA 01 FD 70 FA 07") (closed 0x00) 0x01 false ∷
    judge (hex "E0 FB 03 FD E1 FC 07 FE 70 FA 07") (session true 0x07 0x03 0x00) 0x01 true ∷
    judge (hex "E0 FB 03 FD E1 FC 07 FE 70 FA 07") (session true 0x03 0x03 0x00) 0x01 false ∷
    -- 3: a metadata write is judged by what is stored, not by the LcsO or the conditions that it brings
    talk factory_store (opened 0x00)
    (hex "02 01 00 0A F1 D0 20 06 C0 01 07 D0 01 FF" gives done_empty ∷ hex "02 01 00 07 F1 D0 20 03 D0 01 00" refused 0x07 leaving 0x07 ∷ [])
    (opened 0x07) ∷
    -- 4: access before the boundary
    talk factory_store (opened 0x00)
    (hex "02 01 00 07 F1 D0 20 03 C0 01 07" gives done_empty ∷ hex "02 00 00 05 F1 D0 FF FF AA" refused 0x07 leaving 0x07 ∷ [])
    (opened 0x07) ∷
    -- 5: the highest error is kept; it survives closing and opening, and a flush clears it
    talk factory_store (opened 0x00)
    (hex "05 00 00 00" refused 0x0A leaving 0x0A ∷
    hex "71 00 00 00" gives done_empty ∷
    open_command gives done_empty ∷
    hex "01 00 00 06 F1 D0 00 01 00 01" refused 0x08 leaving 0x0A ∷
    hex "81 00 00 06 F1 D0 00 01 00 01" refused 0x08 leaving 0x08 ∷ [])
    (opened 0x08) ∷
    -- 6: where the last tag is bad, none is stored
    talk factory_store (opened 0x00)
    (hex "02 01 00 0C F1 D0 20 08 C0 01 03 D1 03 E1 FA 04" refused 0x05 leaving 0x05 ∷ hex "01 01 00 02 F1 D0" gives factory_metadata ∷ [])
    (opened 0x05) ∷
    -- the read expression is asked, and metadata is shown all the same
    talk factory_store (opened 0x00)
    (hex "02 01 00 07 F1 D0 20 03 D1 01 FF" gives done_empty ∷
    hex "01 00 00 06 F1 D0 00 00 00 00" refused 0x07 leaving 0x07 ∷
    hex "01 01 00 02 F1 D0" gives
    hex "00 00 00 18 20 16 C0 01 01 C4 02 00 8C C5 02 00 00 D0 03 E1 FC 07 D1 01 FF D3 01 00" ∷ [])
    (opened 0x07) ∷
    -- erase and write keeps no old byte
    talk factory_store (opened 0x00)
    (hex "02 00 00 07 F1 D0 00 00 01 02 03" gives done_empty ∷
    hex "02 40 00 05 F1 D0 00 01 09" gives done_empty ∷
    hex "01 00 00 06 F1 D0 00 00 00 03" gives hex "00 00 00 02 00 09" ∷ [])
    (opened 0x00) ∷
    -- a life cycle may not fall
    talk factory_store (opened 0x00)
    (hex "02 00 00 05 E0 C0 00 00 07" gives done_empty ∷
    hex "02 40 00 05 E0 C0 00 00 03" refused 0x05 leaving 0x05 ∷
    hex "01 00 00 06 E0 C0 00 00 00 01" gives hex "00 00 00 01 07" ∷ [])
    (session true 0x07 0x01 0x05) ∷ []

-- short reads
unfoldable pub short_cases : List Case
short_cases =
    -- of three bytes in use, those from offset to the smaller of used and offset + length; only an offset above used is 08
    talk three (opened 0x00)
    (hex "01 00 00 06 F1 D0 00 00 00 04" gives hex "00 00 00 03 0A 0B 0C" ∷
    hex "01 00 00 06 F1 D0 00 01 FF FF" gives hex "00 00 00 02 0B 0C" ∷
    hex "01 00 00 06 F1 D0 00 01 00 01" gives hex "00 00 00 01 0B" ∷
    hex "01 00 00 06 F1 D0 00 02 00 02" gives hex "00 00 00 01 0C" ∷
    hex "01 00 00 06 F1 D0 00 02 00 00" gives done_empty ∷
    hex "01 00 00 06 F1 D0 00 03 00 05" gives done_empty ∷
    hex "01 00 00 06 F1 D0 00 04 00 05" refused 0x08 leaving 0x08 ∷
    hex "01 00 00 06 F1 D0 00 04 00 00" refused 0x08 leaving 0x08 ∷ [])
    (opened 0x08) ∷
    -- step 13 looks at the shortened answer
    talk three (opened 0x00)
    (in_room 7 (hex "01 00 00 06 F1 D0 00 00 FF FF" gives hex "00 00 00 03 0A 0B 0C") ∷
    in_room 4 (hex "01 00 00 06 F1 D0 00 03 FF FF" gives done_empty) ∷
    in_room 6 (hex "01 00 00 06 F1 D0 00 00 FF FF" refused 0x0D leaving 0x0D) ∷ [])
    (opened 0x0D) ∷
    -- the session's one-byte objects; F1C2 is cleared only when its byte is returned
    talk three (session true 0x03 0x07 0x0A)
    (hex "01 00 00 06 E0 C0 00 00 12 34" gives hex "00 00 00 01 03" ∷
    hex "01 00 00 06 F1 C0 00 01 00 01" gives done_empty ∷
    hex "01 00 00 06 F1 C0 00 02 00 00" refused 0x08 leaving 0x0A ∷
    hex "01 00 00 06 F1 C2 00 01 00 05" gives done_empty ∷
    hex "01 00 00 06 F1 C2 00 00 00 00" gives done_empty ∷
    in_room 4 (hex "01 00 00 06 F1 C2 00 00 00 09" refused 0x0D leaving 0x0D) ∷
    hex "01 00 00 06 F1 C2 00 00 00 09" gives hex "00 00 00 01 0D" ∷
    hex "01 00 00 06 F1 C2 00 00 FF FF" gives hex "00 00 00 01 00" ∷ [])
    (session true 0x03 0x07 0x00) ∷ []

-- lists of commands
unfoldable pub run_cases : List Case
run_cases =
    -- a read or write command: first byte, the flush bit aside, 01 or 02
    reads_writes (hex "01") true ∷ reads_writes (hex "82 77") true ∷ reads_writes (hex "70 00 00 00") false ∷ reads_writes (hex "71") false ∷
    reads_writes (hex "00") false ∷ reads_writes (hex "03") false ∷ reads_writes [] false ∷
    -- each command works on what the one before left, also after a refusal or outcome 1
    runs three (opened 0x00)
    (turn (hex "02 00 00 05 F1 D0 00 03 AA") (hex "EE EE EE EE EE") ∷
    turn (hex "01 00 00 06 F1 D0 00 02 00 02") (hex "11 22 33 44 55 66 77") ∷
    turn (hex "01 00 00 06 F1 D0 00 02 00 02") (hex "11 22 33") ∷
    turn (hex "01 00 00 06 F1 D0 00 05 00 03") (hex "11 22 33 44 55") ∷
    turn (hex "02 01 00 07 F1 D0 20 03 C0 01 07") (hex "EE EE EE EE") ∷
    turn (hex "02 00 00 05 F1 D0 00 00 BB") (hex "EE EE EE EE EE") ∷
    turn (hex "01 00 00 06 F1 D0 00 00 00 01") (hex "EE EE EE EE EE") ∷ [])
    (told 0 (hex "00 00 00 00 EE") ∷
    told 0 (hex "00 00 00 02 0C AA 77") ∷
    told 1 (hex "11 22 33") ∷
    told 0 (hex "FF 00 00 00 55") ∷
    told 0 (hex "00 00 00 00") ∷
    told 0 (hex "FF 00 00 00 EE") ∷
    told 0 (hex "00 00 00 01 0A") ∷ [])
    (by_hand (hex "64 00 01 00 D0 F1 04 00 04 00 07 00") "03 E1 FC 07" "01 00" "01 00" (hex "0A 0B 0C AA") ++ second_record ++ third_record) (opened 0x08) ∷
    -- from a bad beginning too
    runs (hex "00") (closed 0x00) (turn (hex "71 00 00 00") (hex "EE EE EE EE") ∷ turn (hex "F1 00 00 00") (hex "EE EE EE") ∷ [])
    (told 0 (hex "FF 00 00 00") ∷ told 1 (hex "EE EE EE") ∷ []) (hex "00") (closed 0x06) ∷
    -- the session goes on: closed, then opened
    runs three (opened 0x00)
    (turn (hex "71 00 00 00") (hex "EE EE EE EE") ∷ turn (hex "01 01 00 02 F1 D0") (hex "EE EE EE EE") ∷ turn open_command (hex "EE EE EE EE") ∷ [])
    (told 0 (hex "00 00 00 00") ∷ told 0 (hex "FF 00 00 00") ∷ told 0 (hex "00 00 00 00") ∷ [])
    three (opened 0x0C) ∷
    -- an empty list
    runs three (closed 0x05) [] [] three (closed 0x05) ∷ []

-- counters: up to the threshold, onto it, at it, past it by less than a step; then all of it mirrored; and no wrapping at either end
unfoldable pub counter_cases : List Case
counter_cases =
    talk (up_counter 0x20 (hex "00 00 00 00 00 00 01 2C")) (opened 0x00)
    (hex "02 02 00 05 E1 20 00 00 FF" gives done_empty ∷
    hex "01 00 00 06 E1 20 00 00 00 08" gives hex "00 00 00 08 00 00 00 FF 00 00 01 2C" ∷
    hex "02 02 00 05 E1 20 00 00 2D" gives done_empty ∷
    hex "01 00 00 06 E1 20 00 00 00 08" gives hex "00 00 00 08 00 00 01 2C 00 00 01 2C" ∷
    hex "02 02 00 05 E1 20 00 00 01" refused 0x08 leaving 0x08 ∷
    hex "02 02 00 05 E1 20 00 00 00" refused 0x08 leaving 0x08 ∷ [])
    (opened 0x08) ∷
    talk (up_counter 0x20 (hex "00 00 00 FA 00 00 01 2C")) (opened 0x00)
    (hex "02 02 00 05 E1 20 00 00 FF" gives done_empty ∷
    hex "01 00 00 06 E1 20 00 00 00 08" gives hex "00 00 00 08 00 00 01 2C 00 00 01 2C" ∷ [])
    (opened 0x00) ∷
    talk (down_counter 0x20 (hex "00 00 02 58 00 00 01 2C")) (opened 0x00)
    (hex "02 02 00 05 E1 20 00 00 FF" gives done_empty ∷
    hex "01 00 00 06 E1 20 00 00 00 08" gives hex "00 00 00 08 00 00 01 59 00 00 01 2C" ∷
    hex "02 02 00 05 E1 20 00 00 2D" gives done_empty ∷
    hex "01 00 00 06 E1 20 00 00 00 08" gives hex "00 00 00 08 00 00 01 2C 00 00 01 2C" ∷
    hex "02 02 00 05 E1 20 00 00 01" refused 0x08 leaving 0x08 ∷
    hex "02 02 00 05 E1 20 00 00 00" refused 0x08 leaving 0x08 ∷ [])
    (opened 0x08) ∷
    talk (down_counter 0x20 (hex "00 00 01 36 00 00 01 2C")) (opened 0x00)
    (hex "02 02 00 05 E1 20 00 00 FF" gives done_empty ∷
    hex "01 00 00 06 E1 20 00 00 00 08" gives hex "00 00 00 08 00 00 01 2C 00 00 01 2C" ∷ [])
    (opened 0x00) ∷
    talk (up_counter 0x20 (hex "FF FF FF FE FF FF FF FF") ++ down_counter 0x21 (hex "00 00 00 01 00 00 00 00")) (opened 0x00)
    (hex "02 02 00 05 E1 20 00 00 FF" gives done_empty ∷
    hex "01 00 00 06 E1 20 00 00 00 04" gives hex "00 00 00 04 FF FF FF FF" ∷
    hex "02 02 00 05 E1 21 00 00 FF" gives done_empty ∷
    hex "01 00 00 06 E1 21 00 00 00 04" gives hex "00 00 00 04 00 00 00 00" ∷ [])
    (opened 0x00) ∷ []

-- conditions that use up a counter
unfoldable pub condition_cases : List Case
condition_cases =
    -- below its threshold it holds and goes up by one: three changes, and no more; what is refused uses nothing up, nor does a get of metadata
    talk (up_counter 0x20 (hex "00 00 00 00 00 00 00 03") ++ guarded 0xD0 "03 40 E1 20" "01 00") (opened 0x00)
    (hex "02 00 00 05 F1 D0 00 00 01" gives done_empty ∷
    hex "01 00 00 06 E1 20 00 00 00 08" gives hex "00 00 00 08 00 00 00 01 00 00 00 03" ∷
    hex "02 00 00 05 F1 D0 00 04 01" refused 0x08 leaving 0x08 ∷
    hex "02 01 00 07 F1 D0 20 03 C0 01 03" gives done_empty ∷
    hex "02 01 00 07 F1 D0 20 03 D1 01 01" refused 0x05 leaving 0x08 ∷
    hex "02 02 00 05 F1 D0 00 00 01" refused 0x03 leaving 0x08 ∷
    hex "01 01 00 02 F1 D0" gives hex "00 00 00 18 20 16 C0 01 03 C4 02 00 04 C5 02 00 03 D0 03 40 E1 20 D1 01 00 D3 01 00" ∷
    hex "02 40 00 05 F1 D0 00 00 01" gives done_empty ∷
    hex "01 00 00 06 E1 20 00 00 00 08" gives hex "00 00 00 08 00 00 00 03 00 00 00 03" ∷
    hex "02 00 00 05 F1 D0 00 00 01" refused 0x07 leaving 0x08 ∷ [])
    (opened 0x08) ∷
    -- the first true group from the left decides, each of its counters once; FD and FE in a number join nothing; at last a group that names none
    talk
    (up_counter 0x20 (hex "00 00 00 00 00 00 00 09") ++ up_counter 0x21 (hex "00 00 00 05 00 00 00 05") ++
    guarded 0xD0 "01 00" "13 40 E1 21 FE 40 E1 20 FD 40 FD FE FD 40 E1 20 FE 70 FA 01" ++
    by_hand (hex "68 00 02 00 FE FD 08 00 08 00 01 00") "01 00" "01 00" "01 00" (hex "00 00 00 00 00 00 00 01"))
    (opened 0x00)
    (hex "01 00 00 06 F1 D0 00 00 00 03" gives hex "00 00 00 03 0A 0B 0C" ∷
    hex "01 00 00 06 E1 20 00 00 00 04" gives hex "00 00 00 04 00 00 00 01" ∷
    hex "01 00 00 06 FD FE 00 00 00 04" gives hex "00 00 00 04 00 00 00 01" ∷
    hex "01 00 00 06 E1 21 00 00 00 04" gives hex "00 00 00 04 00 00 00 05" ∷
    hex "01 00 00 06 F1 D0 00 00 00 03" gives hex "00 00 00 03 0A 0B 0C" ∷
    hex "01 00 00 06 E1 20 00 00 00 04" gives hex "00 00 00 04 00 00 00 01" ∷ [])
    (opened 0x00) ∷
    -- a later group that is true spares nothing and uses nothing up
    talk
    (up_counter 0x20 (hex "00 00 00 00 00 00 00 09") ++ up_counter 0x21 (hex "00 00 00 00 00 00 00 09") ++ guarded 0xD0 "07 40 E1 20 FE 40 E1 21" "01 00")
    (opened 0x00)
    (hex "02 00 00 05 F1 D0 00 00 01" gives done_empty ∷
    hex "01 00 00 06 E1 20 00 00 00 04" gives hex "00 00 00 04 00 00 00 01" ∷
    hex "01 00 00 06 E1 21 00 00 00 04" gives hex "00 00 00 04 00 00 00 00" ∷ [])
    (opened 0x00) ∷
    -- only an up counter that exists
    talk
    (down_counter 0x21 (hex "00 00 00 00 00 00 00 09") ++ guarded 0xD0 "03 40 E1 21" "03 40 E1 20" ++ guarded 0xD1 "03 40 E0 C0" "03 40 F1 D0")
    (opened 0x00)
    (hex "02 00 00 05 F1 D0 00 00 01" refused 0x07 leaving 0x07 ∷
    hex "01 00 00 06 F1 D0 00 00 00 00" refused 0x07 leaving 0x07 ∷
    hex "02 00 00 05 F1 D1 00 00 01" refused 0x07 leaving 0x07 ∷
    hex "01 00 00 06 F1 D1 00 00 00 00" refused 0x07 leaving 0x07 ∷ [])
    (opened 0x07) ∷
    -- a read shows a counter before its step
    talk (guarded_counter 0x20 "01 00" "03 40 E1 20" (hex "00 00 00 00 00 00 00 02")) (opened 0x00)
    (hex "01 00 00 06 E1 20 00 00 00 08" gives hex "00 00 00 08 00 00 00 00 00 00 00 02" ∷
    hex "01 00 00 06 E1 20 00 00 00 08" gives hex "00 00 00 08 00 00 00 01 00 00 00 02" ∷
    hex "01 00 00 06 E1 20 00 00 00 08" refused 0x07 leaving 0x07 ∷ [])
    (opened 0x07) ∷
    -- a counter that the command itself wrote steps after the write, without refusal, to the smaller of value plus one and threshold
    talk (guarded_counter 0x20 "03 40 E1 20" "01 00" (hex "00 00 00 00 00 00 00 09")) (opened 0x00)
    (hex "02 02 00 05 E1 20 00 00 03" gives done_empty ∷
    hex "01 00 00 06 E1 20 00 00 00 08" gives hex "00 00 00 08 00 00 00 04 00 00 00 09" ∷
    hex "02 00 00 0C E1 20 00 00 00 00 00 02 00 00 00 07" gives done_empty ∷
    hex "01 00 00 06 E1 20 00 00 00 08" gives hex "00 00 00 08 00 00 00 03 00 00 00 07" ∷
    hex "02 40 00 0C E1 20 00 00 00 00 00 0A 00 00 00 05" gives done_empty ∷
    hex "01 00 00 06 E1 20 00 00 00 08" gives hex "00 00 00 08 00 00 00 05 00 00 00 05" ∷
    hex "02 01 00 07 E1 20 20 03 D0 01 00" refused 0x07 leaving 0x07 ∷ [])
    (opened 0x07) ∷
    -- metadata sent back moves the counters of the change expression; a new expression is asked from the next command on
    talk
    (up_counter 0x20 (hex "00 00 00 00 00 00 00 09") ++ up_counter 0x21 (hex "00 00 00 00 00 00 00 09") ++ guarded 0xD0 "03 40 E1 20" "01 00")
    (opened 0x00)
    (hex "01 01 00 02 F1 D0" gives hex "00 00 00 18 20 16 C0 01 01 C4 02 00 04 C5 02 00 03 D0 03 40 E1 20 D1 01 00 D3 01 00" ∷
    hex "02 01 00 12 F1 D0 20 0E C0 01 01 D0 03 40 E1 20 D1 01 00 D3 01 00" gives done_empty ∷
    hex "01 01 00 02 F1 D0" gives hex "00 00 00 18 20 16 C0 01 01 C4 02 00 04 C5 02 00 03 D0 03 40 E1 20 D1 01 00 D3 01 00" ∷
    hex "01 00 00 06 E1 20 00 00 00 04" gives hex "00 00 00 04 00 00 00 01" ∷
    hex "02 01 00 09 F1 D0 20 05 D0 03 40 E1 21" gives done_empty ∷
    hex "02 00 00 05 F1 D0 00 00 01" gives done_empty ∷
    hex "01 00 00 06 E1 20 00 00 00 04" gives hex "00 00 00 04 00 00 00 02" ∷
    hex "01 00 00 06 E1 21 00 00 00 04" gives hex "00 00 00 04 00 00 00 01" ∷ [])
    (opened 0x00) ∷ []

-- fare queues
unfoldable pub queue_cases : List Case
queue_cases =
    -- numbers start at 0; fares stand end to end, in order; where used plus 8 plus the body is above the maximum it is 08, and nothing is lost
    talk (queue_40 0x40 0x04 (hex "00 00 00 00")) (opened 0x00)
    (hex "02 04 00 04 E1 40 AA BB" gives done_empty ∷
    hex "02 04 00 03 E1 40 CC" gives done_empty ∷
    hex "01 00 00 06 E1 40 00 00 00 28" gives hex "00 00 00 17 02 00 00 00 0A 00 01 00 00 00 00 00 AA BB 09 00 01 00 01 00 00 00 CC" ∷
    hex "02 04 00 0C E1 40 D0 D1 D2 D3 D4 D5 D6 D7 D8 D9" refused 0x08 leaving 0x08 ∷
    hex "02 04 00 0B E1 40 D0 D1 D2 D3 D4 D5 D6 D7 D8" gives done_empty ∷
    hex "02 04 00 03 E1 40 EE" refused 0x08 leaving 0x08 ∷
    hex "01 00 00 06 E1 40 00 00 00 28" gives
    hex "00 00 00 28 03 00 00 00 0A 00 01 00 00 00 00 00 AA BB 09 00 01 00 01 00 00 00 CC 11 00 01 00 02 00 00 00 D0 D1 D2 D3 D4 D5 D6 D7 D8" ∷
    -- an acknowledgement removes that fare and all before it; the next number stays, and what is accepted then stands behind the rest
    hex "02 05 00 06 E1 40 00 00 00 01" gives done_empty ∷
    hex "01 00 00 06 E1 40 00 00 00 28" gives hex "00 00 00 15 03 00 00 00 11 00 01 00 02 00 00 00 D0 D1 D2 D3 D4 D5 D6 D7 D8" ∷
    hex "02 04 00 03 E1 40 EE" gives done_empty ∷
    hex "01 00 00 06 E1 40 00 00 00 28" gives
    hex "00 00 00 1E 04 00 00 00 11 00 01 00 02 00 00 00 D0 D1 D2 D3 D4 D5 D6 D7 D8 09 00 01 00 03 00 00 00 EE" ∷
    -- a number that is not present is 05; an empty queue has used 4
    hex "82 05 00 06 E1 40 00 00 00 01" refused 0x05 leaving 0x05 ∷
    hex "82 05 00 06 E1 40 00 00 00 04" refused 0x05 leaving 0x05 ∷
    hex "02 05 00 06 E1 40 00 00 00 03" gives done_empty ∷
    hex "01 00 00 06 E1 40 00 00 00 28" gives hex "00 00 00 04 04 00 00 00" ∷
    hex "02 05 00 06 E1 40 00 00 00 03" refused 0x05 leaving 0x05 ∷ [])
    (opened 0x05) ∷
    -- FFFFFFFE is the last number given; then it is 0D, and 08 before that
    talk (queue_40 0x40 0x04 (hex "FE FF FF FF") ++ queue_record 0x41 (hex "64 00") (hex "04 00") (hex "04 00") (hex "FF FF FF FF")) (opened 0x00)
    (hex "02 04 00 03 E1 40 AA" gives done_empty ∷
    hex "01 00 00 06 E1 40 00 00 00 28" gives hex "00 00 00 0D FF FF FF FF 09 00 01 00 FE FF FF FF AA" ∷
    hex "02 04 00 03 E1 40 BB" refused 0x0D leaving 0x0D ∷
    hex "82 05 00 06 E1 40 FF FF FF FF" refused 0x05 leaving 0x05 ∷
    hex "02 05 00 06 E1 40 FF FF FF FE" gives done_empty ∷
    hex "02 04 00 03 E1 40 BB" refused 0x0D leaving 0x0D ∷
    hex "82 04 00 03 E1 41 BB" refused 0x08 leaving 0x08 ∷ [])
    (opened 0x08) ∷
    -- 04 at step 7, 07 at step 10, then 03; plain writes, erasing or not, are 07
    talk (queue_40 0x40 0x04 (hex "00 00 00 00") ++ guarded_40 0x41 "01 FF" "01 00" 0x04 (hex "00 00 00 00") ++ first_record ++ third_record) (opened 0x00)
    (hex "02 04 00 02 E1 40" refused 0x04 leaving 0x04 ∷
    hex "02 05 00 05 E1 40 00 00 00" refused 0x04 leaving 0x04 ∷
    hex "02 04 00 03 E1 41 AA" refused 0x07 leaving 0x07 ∷
    hex "02 05 00 06 E1 41 00 00 00 00" refused 0x07 leaving 0x07 ∷
    hex "02 04 00 03 F1 D2 AA" refused 0x07 leaving 0x07 ∷
    hex "82 04 00 03 F1 D0 AA" refused 0x03 leaving 0x03 ∷
    hex "82 05 00 06 F1 C0 00 00 00 03" refused 0x03 leaving 0x03 ∷
    hex "82 02 00 05 E1 40 00 00 01" refused 0x03 leaving 0x03 ∷
    hex "82 04 00 03 F1 C2 00" refused 0x07 leaving 0x07 ∷
    hex "82 00 00 05 E1 40 00 00 01" refused 0x07 leaving 0x07 ∷
    hex "82 40 00 08 E1 40 00 00 01 00 00 00" refused 0x07 leaving 0x07 ∷ [])
    (opened 0x07) ∷
    -- a store has whole fares up to used, numbered by ones up to just below the next number
    sound (queue_40 0x40 0x16 (hex "07 00 00 00 09 00 01 00 05 00 00 00 AA 09 00 01 00 06 00 00 00 BB")) true ∷
    sound (queue_40 0x40 0x16 (hex "07 00 00 00 09 00 01 00 04 00 00 00 AA 09 00 01 00 06 00 00 00 BB")) false ∷
    sound (queue_40 0x40 0x16 (hex "08 00 00 00 09 00 01 00 05 00 00 00 AA 09 00 01 00 06 00 00 00 BB")) false ∷
    sound (queue_40 0x40 0x15 (hex "07 00 00 00 09 00 01 00 05 00 00 00 AA 08 00 01 00 06 00 00 00 BB")) false ∷
    sound (queue_40 0x40 0x03 (hex "00 00 00 00")) false ∷ []
