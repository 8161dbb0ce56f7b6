-- Tables beside the bench sheet, in the order of document 01: at least one case for each sentence, row and cell of it. Stores are written
-- byte by byte.
use Rattle.std.specs.Prelude.{ℕ, true, false, List, [], ◌∷◌, ◌++◌, replicate}
use Rattle.std.proofs.Math.Option.{none, some}
use Rattle.rules.specs.Basic.{zeros}
use Rattle.rules.specs.Hex.{hex, ascii}
use Rattle.rules.specs.Cases.{session, opened, closed, ◌gives◌, ◌refused◌leaving◌, unanswered_in, in_room, done_empty}
use Rattle.rules.specs.Cases.{Case, talk, stores, judge, written, sound, whole, makes, starts, names, prints}
use Rattle.rules.specs.Stores.{by_hand, first_record, second_record, third_record, three, large, smallest, largest, many, factory_by_hand, first_metadata, second_metadata}
use Rattle.rules.specs.Bench.{open_command}

-- Command and response bytes -----------------------------------------------------------------------------------------------

unfoldable pub command_cases : List Case
command_cases =
    -- numbers in commands and responses, both bytes of them
    talk large (opened 0x00)
    (in_room 270 (hex "01 00 00 06 F1 D0 00 00 01 02" gives (hex "00 00 01 02" ++ replicate 256 0x55 ++ hex "AB CD")) ∷
    hex "01 00 00 06 F1 D0 01 01 00 01" gives hex "00 00 00 01 CD" ∷
    hex "01 01 00 02 F1 D0" gives hex "00 00 00 16 20 14 C0 01 01 C4 02 01 2C C5 02 01 02 D0 01 00 D1 01 00 D3 01 00" ∷ [])
    (opened 0x00) ∷
    -- the flush bit: before any other judgment, on whatever has a Cmd, then ignored
    talk three (opened 0x0A) (hex "81 01 00 02 F1 D0" gives first_metadata ∷ []) (opened 0x00) ∷
    talk three (opened 0x0D) (hex "82 00 00 05 F1 D1 00 00 AA" gives done_empty ∷ []) (opened 0x00) ∷
    talk three (opened 0x0D) (hex "F1 00 00 00" gives done_empty ∷ hex "81 00" refused 0x04 leaving 0x04 ∷ []) (closed 0x04) ∷
    talk three (closed 0x0D) ((0xF0 ∷ hex "00 00 10 D2 76 00 00 04 47 65 6E 41 75 74 68 41 70 70 6C") gives done_empty ∷ []) (opened 0x00) ∷
    talk three (opened 0x0D)
    (hex "80" refused 0x04 leaving 0x04 ∷ hex "85 00 00 00" refused 0x0A leaving 0x0A ∷ hex "82 00 00 05 AB CD 00 00 AA" refused 0x01 leaving 0x01 ∷ [])
    (opened 0x01) ∷
    -- no other bit flushes
    talk three (opened 0x0D) (hex "7F 00 00 00" refused 0x0A leaving 0x0D ∷ hex "41 00 00 00" refused 0x0A leaving 0x0D ∷ []) (opened 0x0D) ∷
    -- the rows: get of data and metadata, write, erase and write, metadata, open, close
    talk three (closed 0x00)
    (open_command gives done_empty ∷
    hex "01 00 00 06 F1 D0 00 01 00 02" gives hex "00 00 00 02 0B 0C" ∷
    hex "01 01 00 02 F1 D1" gives second_metadata ∷
    hex "02 00 00 05 F1 D0 00 01 AA" gives done_empty ∷
    hex "01 00 00 06 F1 D0 00 00 00 03" gives hex "00 00 00 03 0A AA 0C" ∷
    hex "02 40 00 05 F1 D0 00 01 BB" gives done_empty ∷
    hex "01 00 00 06 F1 D0 00 00 00 02" gives hex "00 00 00 02 00 BB" ∷
    hex "02 01 00 07 F1 D0 20 03 C0 01 03" gives done_empty ∷
    hex "71 00 00 00" gives done_empty ∷ [])
    (closed 0x00) ∷
    -- opening an open application changes nothing but what the flush bit did
    talk three (session true 0x03 0x07 0x0A) (open_command gives done_empty ∷ []) (session true 0x03 0x07 0x0A) ∷
    talk three (session true 0x03 0x07 0x0A) ((0xF0 ∷ hex "00 00 10 D2 76 00 00 04 47 65 6E 41 75 74 68 41 70 70 6C") gives done_empty ∷ [])
    (session true 0x03 0x07 0x00) ∷
    -- the last error survives opening and closing
    talk three (session false 0x07 0x03 0x08) (open_command gives done_empty ∷ []) (session true 0x07 0x03 0x08) ∷
    talk three (session true 0x07 0x03 0x08) (hex "71 00 00 00" gives done_empty ∷ []) (session false 0x07 0x03 0x08) ∷
    -- the object that a get or set names, whatever its Param; a shorter one names none
    names (hex "01 05 00 02 F1 D0") (some 0xF1D0) ∷ names (hex "82 00 00 04 12 34 56 78") (some 0x1234) ∷ names (hex "01 01 00 01 F1") none ∷
    names [] none ∷ []

-- When the element says no, in this order ---------------------------------------------------------------------------------

-- steps 1 to 4
unfoldable pub form_cases : List Case
form_cases =
    -- 1: nothing changed, not even by the flush bit; before step 2
    talk three (opened 0x0A)
    (unanswered_in 3 (hex "81 01 00 02 F1 D0") ∷ unanswered_in 0 (hex "82 00 00 05 F1 D1 00 00 AA") ∷ unanswered_in 3 (hex "71 00 00 00") ∷ [])
    (opened 0x0A) ∷
    talk [] (session true 0x02 0x01 0x0A) (unanswered_in 3 (hex "81 01 00 02 F1 D0") ∷ []) (session true 0x02 0x01 0x0A) ∷
    talk three (opened 0x00) (in_room 4 (hex "71 00 00 00" gives done_empty) ∷ []) (closed 0x00) ∷
    -- 2: a malformed store, an LcsG or an LcsA that is no state; before step 3
    talk [] (opened 0x00) (hex "01 01 00 02 F1 D0" refused 0x06 leaving 0x06 ∷ hex "71 00" refused 0x06 leaving 0x06 ∷ []) (opened 0x06) ∷
    talk (three ++ hex "00") (closed 0x00) (open_command refused 0x06 leaving 0x06 ∷ [] refused 0x06 leaving 0x06 ∷ []) (closed 0x06) ∷
    talk three (session true 0x02 0x01 0x00) (hex "71 00 00 00" refused 0x06 leaving 0x06 ∷ []) (session true 0x02 0x01 0x06) ∷
    talk three (session true 0x01 0x02 0x00) (hex "71 00 00 00" refused 0x06 leaving 0x06 ∷ []) (session true 0x01 0x02 0x06) ∷
    talk three (session true 0x1F 0x01 0x00) (hex "71 00 00" refused 0x06 leaving 0x06 ∷ []) (session true 0x1F 0x01 0x06) ∷
    talk three (session true 0x01 0x00 0x00) (hex "71 00 00" refused 0x06 leaving 0x06 ∷ []) (session true 0x01 0x00 0x06) ∷
    talk three (session true 0x0F 0x07 0x00) (hex "71 00 00 00" gives done_empty ∷ []) (session false 0x0F 0x07 0x00) ∷
    talk three (session true 0x03 0x03 0xFF) (hex "71 00 00 00" gives done_empty ∷ []) (session false 0x03 0x03 0xFF) ∷
    -- the flush comes between steps 1 and 2; an empty command flushes nothing
    talk [] (opened 0x0D) (hex "81 01 00 02 F1 D0" refused 0x06 leaving 0x06 ∷ []) (opened 0x06) ∷
    talk three (opened 0x0D) ([] refused 0x04 leaving 0x0D ∷ []) (opened 0x0D) ∷
    -- 3: under 4 bytes, over 1,557, InLen not the count of bytes after it; before steps 4 and 5
    talk three (opened 0x00)
    (hex "71 00 00" refused 0x04 leaving 0x04 ∷
    (hex "02 00 06 11 F1 D1 00 00" ++ zeros 1549) refused 0x08 leaving 0x08 ∷
    (hex "82 00 06 12 F1 D1 00 00" ++ zeros 1550) refused 0x04 leaving 0x04 ∷
    hex "02 00 00 05 F1 D1 00 00 AA BB" refused 0x04 leaving 0x04 ∷
    hex "02 00 00 07 F1 D1 00 00 AA BB" refused 0x04 leaving 0x04 ∷
    hex "71 00 01 00" refused 0x04 leaving 0x04 ∷
    hex "05 00 00" refused 0x04 leaving 0x04 ∷
    hex "05 00 00 01" refused 0x04 leaving 0x04 ∷ [])
    (opened 0x04) ∷
    talk three (closed 0x00) (hex "01 00 00 01" refused 0x04 leaving 0x04 ∷ []) (closed 0x04) ∷
    -- 4: before steps 5 and 6
    talk three (opened 0x00)
    (hex "00 00 00 00" refused 0x0A leaving 0x0A ∷
    hex "03 00 00 00" refused 0x0A leaving 0x0A ∷
    hex "6F 00 00 00" refused 0x0A leaving 0x0A ∷
    hex "72 00 00 00" refused 0x0A leaving 0x0A ∷
    hex "31 11 00 00" refused 0x0A leaving 0x0A ∷ [])
    (opened 0x0A) ∷
    talk three (closed 0x00) (hex "72 00 00 00" refused 0x0A leaving 0x0A ∷ hex "03 09 00 00" refused 0x0A leaving 0x0A ∷ []) (closed 0x0A) ∷ []

-- steps 5 to 8
unfoldable pub row_cases : List Case
row_cases =
    -- 5: closed, and Cmd isn't open
    talk three (closed 0x00)
    (hex "01 00 00 06 F1 D0 00 00 00 01" refused 0x0C leaving 0x0C ∷
    hex "01 01 00 02 F1 D0" refused 0x0C leaving 0x0C ∷
    hex "02 00 00 05 F1 D1 00 00 AA" refused 0x0C leaving 0x0C ∷
    hex "02 40 00 05 F1 D1 00 00 AA" refused 0x0C leaving 0x0C ∷
    hex "02 01 00 07 F1 D1 20 03 C0 01 03" refused 0x0C leaving 0x0C ∷
    hex "71 00 00 00" refused 0x0C leaving 0x0C ∷
    hex "01 00 00 06 F1 C2 00 00 00 01" refused 0x0C leaving 0x0C ∷ [])
    (closed 0x0C) ∷
    -- or LcsA is 0F, open or closed, open too
    talk three (session true 0x01 0x0F 0x00)
    (hex "01 01 00 02 F1 D0" refused 0x0C leaving 0x0C ∷
    hex "02 00 00 05 F1 D1 00 00 AA" refused 0x0C leaving 0x0C ∷
    hex "71 00 00 00" refused 0x0C leaving 0x0C ∷
    open_command refused 0x0C leaving 0x0C ∷ [])
    (session true 0x01 0x0F 0x0C) ∷
    talk three (session false 0x01 0x0F 0x00) (open_command refused 0x0C leaving 0x0C ∷ []) (session false 0x01 0x0F 0x0C) ∷
    -- before step 6
    talk three (closed 0x00) (hex "01 02 00 00" refused 0x0C leaving 0x0C ∷ hex "71 01 00 00" refused 0x0C leaving 0x0C ∷ []) (closed 0x0C) ∷
    talk three (session true 0x01 0x0F 0x00) (hex "70 01 00 00" refused 0x0C leaving 0x0C ∷ []) (session true 0x01 0x0F 0x0C) ∷
    -- 6: unknown Param for this Cmd; before step 7
    talk three (opened 0x00)
    (hex "01 02 00 06 F1 D0 00 00 00 01" refused 0x03 leaving 0x03 ∷
    hex "01 40 00 06 F1 D0 00 00 00 01" refused 0x03 leaving 0x03 ∷
    hex "02 03 00 05 F1 D1 00 00 AA" refused 0x03 leaving 0x03 ∷
    hex "02 41 00 05 F1 D1 00 00 AA" refused 0x03 leaving 0x03 ∷
    hex "71 01 00 00" refused 0x03 leaving 0x03 ∷
    hex "01 02 00 00" refused 0x03 leaving 0x03 ∷
    hex "71 40 00 01 00" refused 0x03 leaving 0x03 ∷ [])
    (opened 0x03) ∷
    talk three (closed 0x00)
    ((hex "70 01 00 10 D2 76 00 00 04" ++ ascii "GenAuthAppl") refused 0x03 leaving 0x03 ∷ hex "70 40 00 00" refused 0x03 leaving 0x03 ∷ [])
    (closed 0x03) ∷
    -- 7: InLen wrong for the row; before steps 8, 9 and 12
    talk three (opened 0x00)
    (hex "01 00 00 05 F1 D0 00 00 00" refused 0x04 leaving 0x04 ∷
    hex "01 00 00 07 F1 D0 00 00 00 01 00" refused 0x04 leaving 0x04 ∷
    hex "01 01 00 01 F1" refused 0x04 leaving 0x04 ∷
    hex "01 01 00 03 F1 D0 00" refused 0x04 leaving 0x04 ∷
    hex "02 00 00 04 F1 D1 00 00" refused 0x04 leaving 0x04 ∷
    hex "02 40 00 04 F1 D1 00 00" refused 0x04 leaving 0x04 ∷
    hex "02 01 00 03 F1 D1 20" refused 0x04 leaving 0x04 ∷
    hex "71 00 00 01 00" refused 0x04 leaving 0x04 ∷
    hex "01 00 00 02 AB CD" refused 0x04 leaving 0x04 ∷
    hex "02 00 00 04 AB CD 00 00" refused 0x04 leaving 0x04 ∷
    hex "02 01 00 02 AB CD" refused 0x04 leaving 0x04 ∷ [])
    (opened 0x04) ∷
    talk three (closed 0x00)
    (hex "70 00 00 00" refused 0x04 leaving 0x04 ∷
    (hex "70 00 00 0F D2 76 00 00 04" ++ ascii "GenAuthApp") refused 0x04 leaving 0x04 ∷
    (hex "70 00 00 11 D2 76 00 00 04" ++ ascii "GenAuthAppl1") refused 0x04 leaving 0x04 ∷ [])
    (closed 0x04) ∷
    -- a write of five bytes and a metadata write of four are long enough; a wrong 20 or L waits for step 12
    talk three (opened 0x00)
    (hex "02 00 00 05 F1 D1 00 00 AA" gives done_empty ∷
    hex "02 40 00 05 F1 D1 00 00 AA" gives done_empty ∷
    hex "02 01 00 04 F1 D1 20 00" refused 0x05 leaving 0x05 ∷
    hex "02 01 00 04 F1 D1 20 07" refused 0x05 leaving 0x05 ∷
    hex "02 01 00 04 F1 D1 21 00" refused 0x05 leaving 0x05 ∷ [])
    (opened 0x05) ∷
    -- 8: open with another identifier, open or closed
    talk three (closed 0x00)
    ((hex "70 00 00 10 D2 76 00 00 04" ++ ascii "GenAuthAppm") refused 0x05 leaving 0x05 ∷
    (hex "70 00 00 10 D3 76 00 00 04" ++ ascii "GenAuthAppl") refused 0x05 leaving 0x05 ∷
    (hex "70 00 00 10 D2 76 00 00 04" ++ ascii "genAuthAppl") refused 0x05 leaving 0x05 ∷ [])
    (closed 0x05) ∷
    talk three (opened 0x00) ((hex "70 00 00 10" ++ zeros 16) refused 0x05 leaving 0x05 ∷ []) (opened 0x05) ∷ []

-- steps 9 to 13
unfoldable pub object_cases : List Case
object_cases =
    -- 9: no such object, for each row; before steps 10 to 12
    talk three (opened 0x00)
    (hex "01 00 00 06 AB CD 00 00 00 01" refused 0x01 leaving 0x01 ∷
    hex "01 01 00 02 F1 CF" refused 0x01 leaving 0x01 ∷
    hex "01 01 00 02 F1 D3" refused 0x01 leaving 0x01 ∷
    hex "02 00 00 05 00 D0 FF FF AA" refused 0x01 leaving 0x01 ∷
    hex "02 40 00 05 F1 00 00 00 AA" refused 0x01 leaving 0x01 ∷
    hex "02 01 00 04 AB CD 21 00" refused 0x01 leaving 0x01 ∷ [])
    (opened 0x01) ∷
    -- 10: access not granted; before steps 11, 12 and 13
    talk three (opened 0x00)
    (hex "01 00 00 06 F1 D1 00 00 00 03" refused 0x07 leaving 0x07 ∷
    hex "01 00 00 06 F1 D1 FF FF 00 01" refused 0x07 leaving 0x07 ∷
    hex "02 00 00 05 F1 D2 00 00 AA" refused 0x07 leaving 0x07 ∷
    hex "02 00 00 05 F1 D2 FF FF AA" refused 0x07 leaving 0x07 ∷
    hex "02 40 00 05 F1 D2 00 00 AA" refused 0x07 leaving 0x07 ∷
    hex "02 40 00 05 F1 D2 FF FF AA" refused 0x07 leaving 0x07 ∷
    hex "02 01 00 07 F1 D2 20 03 C0 01 07" refused 0x07 leaving 0x07 ∷
    hex "02 01 00 04 F1 D2 21 00" refused 0x07 leaving 0x07 ∷
    in_room 4 (hex "01 00 00 06 F1 D1 00 00 00 03" refused 0x07 leaving 0x07) ∷ [])
    (opened 0x07) ∷
    -- 11: offset above used for a get, offset + length above maximum for a write, whatever the room; before step 12
    talk three (opened 0x00)
    (hex "01 00 00 06 F1 D0 00 03 00 01" gives done_empty ∷
    hex "01 00 00 06 F1 D0 00 04 00 01" refused 0x08 leaving 0x08 ∷
    hex "01 00 00 06 F1 D0 00 04 00 00" refused 0x08 leaving 0x08 ∷
    hex "01 00 00 06 F1 D0 FF FF FF FF" refused 0x08 leaving 0x08 ∷
    hex "01 00 00 06 F1 D0 FF FF 00 01" refused 0x08 leaving 0x08 ∷
    hex "02 00 00 05 F1 D0 00 04 AA" refused 0x08 leaving 0x08 ∷
    hex "02 00 00 09 F1 D0 00 00 01 02 03 04 05" refused 0x08 leaving 0x08 ∷
    hex "02 00 00 05 F1 D0 FF FF AA" refused 0x08 leaving 0x08 ∷
    hex "02 40 00 06 F1 D0 00 03 AA BB" refused 0x08 leaving 0x08 ∷
    hex "02 00 00 05 F1 D0 00 03 AA" gives done_empty ∷
    hex "02 40 00 08 F1 D0 00 00 01 02 03 04" gives done_empty ∷
    hex "02 00 00 06 E0 C0 00 00 02 02" refused 0x08 leaving 0x08 ∷
    hex "02 40 00 05 F1 C0 00 01 02" refused 0x08 leaving 0x08 ∷
    in_room 4 (hex "01 00 00 06 F1 D0 00 05 00 05" refused 0x08 leaving 0x08) ∷ [])
    (opened 0x08) ∷
    -- 12: metadata or life cycle value not allowed
    talk three (opened 0x00)
    (hex "02 01 00 07 F1 D1 20 03 C0 01 01" refused 0x05 leaving 0x05 ∷ hex "02 00 00 05 E0 C0 00 00 02" refused 0x05 leaving 0x05 ∷ [])
    (opened 0x05) ∷
    -- 13: a response that does not fit, and one that just does
    talk three (opened 0x00)
    (in_room 6 (hex "01 00 00 06 F1 D0 00 00 00 03" refused 0x0D leaving 0x0D) ∷
    in_room 7 (hex "01 00 00 06 F1 D0 00 00 00 03" gives hex "00 00 00 03 0A 0B 0C") ∷
    in_room 27 (hex "01 01 00 02 F1 D0" refused 0x0D leaving 0x0D) ∷
    in_room 28 (hex "01 01 00 02 F1 D0" gives first_metadata) ∷
    in_room 4 (hex "01 00 00 06 F1 D0 00 00 00 00" gives done_empty) ∷
    in_room 4 (hex "01 00 00 06 E0 C0 00 00 00 01" refused 0x0D leaving 0x0D) ∷ [])
    (opened 0x0D) ∷
    -- of a get that asks for more than is there: the shortened answer
    talk three (opened 0x00)
    (in_room 7 (hex "01 00 00 06 F1 D0 00 00 00 04" gives hex "00 00 00 03 0A 0B 0C") ∷
    in_room 7 (hex "01 00 00 06 F1 D0 00 00 FF FF" gives hex "00 00 00 03 0A 0B 0C") ∷
    in_room 5 (hex "01 00 00 06 F1 D0 00 02 FF FF" gives hex "00 00 00 01 0C") ∷
    in_room 4 (hex "01 00 00 06 F1 D0 00 03 FF FF" gives done_empty) ∷
    in_room 5 (hex "01 00 00 06 E0 C0 00 00 FF FF" gives hex "00 00 00 01 01") ∷
    in_room 4 (hex "01 00 00 06 F1 C0 00 01 FF FF" gives done_empty) ∷
    in_room 6 (hex "01 00 00 06 F1 D0 00 00 FF FF" refused 0x0D leaving 0x0D) ∷
    in_room 4 (hex "01 00 00 06 F1 D0 00 02 FF FF" refused 0x0D leaving 0x0D) ∷
    in_room 4 (hex "01 00 00 06 E0 C0 00 00 00 02" refused 0x0D leaving 0x0D) ∷ [])
    (opened 0x0D) ∷
    -- the larger of the last error and the code
    talk three (opened 0x08)
    (hex "01 00 00 06 F1 D0 00 04 00 00" refused 0x08 leaving 0x08 ∷
    hex "01 02 00 00" refused 0x03 leaving 0x08 ∷
    hex "72 00 00 00" refused 0x0A leaving 0x0A ∷ [])
    (opened 0x0A) ∷
    talk three (opened 0xFF) (hex "72 00 00 00" refused 0x0A leaving 0xFF ∷ []) (opened 0xFF) ∷ []

-- Life cycles and access expressions ----------------------------------------------------------------------------------------

unfoldable pub expression_cases : List Case
expression_cases =
    -- a condition's three bytes: LcsG, LcsA or LcsO; equal, greater or less; one of the four states
    written (hex "70 FA 01") true ∷ written (hex "E0 FB 03") true ∷ written (hex "E1 FC 07") true ∷ written (hex "E1 FA 0F") true ∷
    written (hex "60 FA 01") false ∷ written (hex "71 FA 01") false ∷ written (hex "E2 FA 01") false ∷ written (hex "E0 F9 01") false ∷
    written (hex "E0 FD 01") false ∷ written (hex "E1 FA 00") false ∷ written (hex "E1 FA 02") false ∷ written (hex "E1 FA 04") false ∷
    written (hex "E1 FA 08") false ∷ written (hex "E1 FA 1F") false ∷
    -- whose state it asks
    judge (hex "70 FA 01") (session true 0x01 0x03 0x00) 0x07 true ∷
    judge (hex "70 FA 03") (session true 0x01 0x03 0x00) 0x07 false ∷
    judge (hex "70 FA 07") (session true 0x01 0x03 0x00) 0x07 false ∷
    judge (hex "E0 FA 03") (session true 0x01 0x03 0x00) 0x07 true ∷
    judge (hex "E0 FA 01") (session true 0x01 0x03 0x00) 0x07 false ∷
    judge (hex "E0 FA 07") (session true 0x01 0x03 0x00) 0x07 false ∷
    judge (hex "E1 FA 07") (session true 0x01 0x03 0x00) 0x07 true ∷
    judge (hex "E1 FA 01") (session true 0x01 0x03 0x00) 0x07 false ∷
    judge (hex "E1 FA 03") (session true 0x01 0x03 0x00) 0x07 false ∷
    -- equal, greater, less, as numbers
    judge (hex "E1 FA 01") (closed 0x00) 0x03 false ∷ judge (hex "E1 FA 03") (closed 0x00) 0x03 true ∷ judge (hex "E1 FA 07") (closed 0x00) 0x03 false ∷
    judge (hex "E1 FB 01") (closed 0x00) 0x03 true ∷ judge (hex "E1 FB 03") (closed 0x00) 0x03 false ∷ judge (hex "E1 FB 07") (closed 0x00) 0x03 false ∷
    judge (hex "E1 FC 01") (closed 0x00) 0x03 false ∷ judge (hex "E1 FC 03") (closed 0x00) 0x03 false ∷ judge (hex "E1 FC 07") (closed 0x00) 0x03 true ∷
    judge (hex "E1 FB 07") (closed 0x00) 0x0F true ∷ judge (hex "E1 FC 0F") (closed 0x00) 0x07 true ∷
    -- 00 is always, FF never, and neither stands inside a longer expression
    judge (hex "00") (closed 0x00) 0x01 true ∷ judge (hex "FF") (closed 0x00) 0x01 false ∷
    written (hex "01") false ∷ written (hex "FE") false ∷ written (hex "00 00") false ∷ written (hex "FF FF") false ∷ written (hex "00 FE FF") false ∷
    written (hex "00 FD 70 FA 01") false ∷ written (hex "70 FA 01 FE FF") false ∷ written (hex "70 FA 01 FD 00") false ∷
    -- FD is and, FE is or
    judge (hex "70 FA 01 FD E1 FA 01") (closed 0x00) 0x01 true ∷ judge (hex "70 FA 01 FD E1 FA 03") (closed 0x00) 0x01 false ∷
    judge (hex "70 FA 03 FD E1 FA 01") (closed 0x00) 0x01 false ∷ judge (hex "70 FA 01 FE E1 FA 03") (closed 0x00) 0x01 true ∷
    judge (hex "70 FA 03 FE E1 FA 01") (closed 0x00) 0x01 true ∷ judge (hex "70 FA 03 FE E1 FA 03") (closed 0x00) 0x01 false ∷
    written (hex "70 FA 01 FC 70 FA 01") false ∷ written (hex "70 FA 01 FF 70 FA 01") false ∷ written (hex "70 FA 01 00 70 FA 01") false ∷
    -- whole conditions and joins
    written [] false ∷ written (hex "70") false ∷ written (hex "70 FA") false ∷ written (hex "70 FA 01 FD") false ∷ written (hex "70 FA 01 70") false ∷
    written (hex "70 FA 01 FE 70 FA") false ∷ written (hex "70 FA 01 70 FA 01") false ∷
    -- a condition that is not allowed, at the beginning and end of a group and of the groups
    written (hex "70 FA 04 FD 70 FA 01") false ∷ written (hex "70 FA 01 FD 70 FA 04") false ∷ written (hex "70 FA 01 FE 70 FA 01 FD 71 FA 01") false ∷ written (hex "70 FA 02 FE 70 FA 01") false ∷
    -- at most 7 conditions
    written (hex "70 FA 01 FD 70 FA 01 FD 70 FA 01 FD 70 FA 01 FD 70 FA 01 FD 70 FA 01 FD 70 FA 01") true ∷
    written (hex "70 FA 01 FD 70 FA 01 FD 70 FA 01 FD 70 FA 01 FD 70 FA 01 FD 70 FA 01 FD 70 FA 01 FD 70 FA 01") false ∷
    written (hex "70 FA 01 FD 70 FA 01 FD 70 FA 01 FD 70 FA 01 FD 70 FA 01 FE 70 FA 01 FE 70 FA 01") true ∷
    written (hex "70 FA 01 FE 70 FA 01 FD 70 FA 01 FD 70 FA 01 FD 70 FA 01 FD 70 FA 01 FE 70 FA 01 FD 70 FA 01") false ∷
    -- at most 3 groups
    written (hex "70 FA 01 FE 70 FA 01 FE 70 FA 01") true ∷ written (hex "70 FA 01 FE 70 FA 01 FE 70 FA 01 FE 70 FA 01") false ∷
    -- the third group may decide
    judge (hex "70 FA 03 FE 70 FA 07 FE 70 FA 01") (closed 0x00) 0x01 true ∷ []

-- What an object holds on the controller --------------------------------------------------------------------------------------

unfoldable pub store_cases : List Case
store_cases =
    -- records end to end, filling the bytes exactly: 1 to 32 records
    sound three true ∷ sound first_record true ∷ sound [] false ∷ sound (three ++ hex "00") false ∷ sound (first_record ++ hex "64 00") false ∷
    sound (hex "00" ++ three) false ∷ sound (many smallest 32 0) true ∷ sound (many smallest 33 0) false ∷
    -- length 2, and 96 + maximum
    sound (by_hand (hex "62 00 01 00 01 00 01 00 00 00 01 00") "01 00" "01 00" "01 00" (hex "00 00")) false ∷
    sound (by_hand (hex "61 01 01 00 01 00 01 00 00 00 01 00") "01 00" "01 00" "01 00" (hex "00")) false ∷
    sound (by_hand (hex "61 00 01 00 01 00 02 00 00 00 01 00") "01 00" "01 00" "01 00" (hex "00 00")) false ∷
    -- kind 0001; those of counters are in Counters
    sound (by_hand (hex "61 00 00 00 01 00 01 00 00 00 01 00") "01 00" "01 00" "01 00" (hex "00")) false ∷
    sound (by_hand (hex "61 00 06 00 01 00 01 00 00 00 01 00") "01 00" "01 00" "01 00" (hex "00")) false ∷
    sound (by_hand (hex "61 00 00 01 01 00 01 00 00 00 01 00") "01 00" "01 00" "01 00" (hex "00")) false ∷
    -- any object number but E0C0, F1C0 and F1C2
    sound (by_hand (hex "61 00 01 00 00 00 01 00 00 00 01 00") "01 00" "01 00" "01 00" (hex "00")) true ∷
    sound (by_hand (hex "61 00 01 00 FF FF 01 00 00 00 01 00") "01 00" "01 00" "01 00" (hex "00")) true ∷
    sound (by_hand (hex "61 00 01 00 C0 E0 01 00 00 00 01 00") "01 00" "01 00" "01 00" (hex "00")) false ∷
    sound (by_hand (hex "61 00 01 00 C0 F1 01 00 00 00 01 00") "01 00" "01 00" "01 00" (hex "00")) false ∷
    sound (by_hand (hex "61 00 01 00 C2 F1 01 00 00 00 01 00") "01 00" "01 00" "01 00" (hex "00")) false ∷
    sound (by_hand (hex "61 00 01 00 C1 F1 01 00 00 00 01 00") "01 00" "01 00" "01 00" (hex "00")) true ∷
    sound (by_hand (hex "61 00 01 00 E0 C0 01 00 00 00 01 00") "01 00" "01 00" "01 00" (hex "00")) true ∷
    -- maximum 1 to 1,500
    sound (by_hand (hex "60 00 01 00 01 00 00 00 00 00 01 00") "01 00" "01 00" "01 00" []) false ∷
    sound (largest 1) true ∷
    sound (by_hand (hex "3D 06 01 00 01 00 DD 05 00 00 01 00") "01 00" "01 00" "01 00" (zeros 1501)) false ∷
    -- used at most maximum
    sound (by_hand (hex "61 00 01 00 01 00 01 00 01 00 01 00") "01 00" "01 00" "01 00" (hex "AA")) true ∷
    sound (by_hand (hex "61 00 01 00 01 00 01 00 02 00 01 00") "01 00" "01 00" "01 00" (hex "AA")) false ∷
    sound (by_hand (hex "61 00 01 00 01 00 01 00 00 01 01 00") "01 00" "01 00" "01 00" (hex "00")) false ∷
    sound (by_hand (hex "61 00 01 00 01 00 01 00 02 00 01 00") "01 00" "01 00" "01 00" (hex "00") ++ smallest 2) false ∷
    -- LcsO one of the four, then a zero
    sound (by_hand (hex "61 00 01 00 01 00 01 00 00 00 0F 00") "01 00" "01 00" "01 00" (hex "00")) true ∷
    sound (by_hand (hex "61 00 01 00 01 00 01 00 00 00 00 00") "01 00" "01 00" "01 00" (hex "00")) false ∷
    sound (by_hand (hex "61 00 01 00 01 00 01 00 00 00 02 00") "01 00" "01 00" "01 00" (hex "00")) false ∷
    sound (first_record ++ by_hand (hex "61 00 01 00 D1 F1 01 00 00 00 02 00") "01 00" "01 00" "01 00" (hex "00")) false ∷
    sound (by_hand (hex "61 00 01 00 01 00 01 00 00 00 01 01") "01 00" "01 00" "01 00" (hex "00")) false ∷
    -- slots: the expression's length, a well-formed expression, zeros
    sound (by_hand (hex "61 00 01 00 01 00 01 00 00 00 01 00") "1B 70 FA 01 FD 70 FA 01 FD 70 FA 01 FD 70 FA 01 FD 70 FA 01 FD 70 FA 01 FD 70 FA 01" "01 FF" "03 E0 FB 0F" (hex "00")) true ∷
    sound (by_hand (hex "61 00 01 00 01 00 01 00 00 00 01 00") "00" "01 00" "01 00" (hex "00")) false ∷
    sound (by_hand (hex "61 00 01 00 01 00 01 00 00 00 01 00") "01 00" "02 00" "01 00" (hex "00")) false ∷
    sound (by_hand (hex "61 00 01 00 01 00 01 00 00 00 01 00") "01 00" "01 00" "1C 70 FA 01" (hex "00")) false ∷
    sound (by_hand (hex "61 00 01 00 01 00 01 00 00 00 01 00") "03 E1 FC 04" "01 00" "01 00" (hex "00")) false ∷
    sound (by_hand (hex "61 00 01 00 01 00 01 00 00 00 01 00") "01 00" "03 E1 FC 04" "01 00" (hex "00")) false ∷
    sound (by_hand (hex "61 00 01 00 01 00 01 00 00 00 01 00") "01 00" "01 00" "03 E1 FC 04" (hex "00")) false ∷
    sound (by_hand (hex "61 00 01 00 01 00 01 00 00 00 01 00") "01 00 01" "01 00" "01 00" (hex "00")) false ∷
    sound (by_hand (hex "61 00 01 00 01 00 01 00 00 00 01 00") "01 00" "03 E1 FC 07 00 00 00 01" "01 00" (hex "00")) false ∷
    sound (by_hand (hex "61 00 01 00 01 00 01 00 00 00 01 00") "01 00" "01 00" "01 00 00 00 00 00 00 00 00 00 00 00 00 00 00 00 00 00 00 00 00 00 00 00 00 00 00 01" (hex "00")) false ∷
    -- all bytes past used are zero
    sound (by_hand (hex "64 00 01 00 01 00 04 00 03 00 01 00") "01 00" "01 00" "01 00" (hex "AA 00 AA 01")) false ∷
    sound (by_hand (hex "64 00 01 00 01 00 04 00 00 00 01 00") "01 00" "01 00" "01 00" (hex "01 00 00 00")) false ∷
    -- object numbers strictly rising
    sound (smallest 1 ++ smallest 2 ++ smallest 4) true ∷ sound (smallest 1 ++ smallest 1) false ∷ sound (smallest 1 ++ smallest 3 ++ smallest 2) false ∷
    sound (smallest 3 ++ smallest 1) false ∷
    sound (smallest 2 ++ by_hand (hex "61 00 01 00 01 01 01 00 00 00 01 00") "01 00" "01 00" "01 00" (hex "00")) true ∷
    -- the slots are for change, read, execute; least significant byte first
    talk (by_hand (hex "61 00 01 00 02 01 01 00 01 00 03 00") "03 E1 FC 07" "03 E0 FA 01" "03 70 FB 03" (hex "AA")) (opened 0x00)
    (hex "01 01 00 02 01 02" gives hex "00 00 00 1C 20 1A C0 01 03 C4 02 00 01 C5 02 00 01 D0 03 E1 FC 07 D1 03 E0 FA 01 D3 03 70 FB 03" ∷ [])
    (opened 0x00) ∷ []

-- at most 16,384 bytes
unfoldable pub size_cases : List Case
size_cases =
    sound (many largest 10 1 ++ by_hand (hex "A8 01 01 00 0B 00 48 01 00 00 01 00") "01 00" "01 00" "01 00" (zeros 328)) true ∷
    sound (many largest 10 1 ++ by_hand (hex "A9 01 01 00 0B 00 49 01 00 00 01 00") "01 00" "01 00" "01 00" (zeros 329)) false ∷ []

-- the factory store, its maker, and the fresh session
unfoldable pub factory_cases : List Case
factory_cases =
    whole factory_by_hand ∷ sound factory_by_hand true ∷
    makes (replicate 6024 0xEE) 0 factory_by_hand ∷ makes (replicate 6023 0xEE) 2 (replicate 6023 0xEE) ∷
    makes (replicate 6025 0xEE) 2 (replicate 6025 0xEE) ∷ makes [] 2 [] ∷
    starts (closed 0x00) ∷ []

-- E0C0, F1C0 and F1C2
unfoldable pub session_cases : List Case
session_cases =
    -- LcsG, LcsA, last error; one byte each; reading is always granted
    talk three (session true 0x03 0x07 0x0A)
    (hex "01 00 00 06 E0 C0 00 00 00 01" gives hex "00 00 00 01 03" ∷
    hex "01 00 00 06 F1 C0 00 00 00 01" gives hex "00 00 00 01 07" ∷
    hex "01 00 00 06 F1 C2 00 00 00 01" gives hex "00 00 00 01 0A" ∷ [])
    (session true 0x03 0x07 0x00) ∷
    -- offset 0 with any length of 1 or more answers the byte, offset 1 answers nothing, offset 2 is 08
    talk three (opened 0x00)
    (hex "01 00 00 06 E0 C0 00 00 00 02" gives hex "00 00 00 01 01" ∷
    hex "01 00 00 06 F1 C0 00 00 FF FF" gives hex "00 00 00 01 01" ∷
    hex "01 00 00 06 E0 C0 00 00 00 00" gives done_empty ∷
    hex "01 00 00 06 E0 C0 00 01 00 00" gives done_empty ∷
    hex "01 00 00 06 F1 C0 00 01 00 01" gives done_empty ∷
    hex "01 00 00 06 E0 C0 00 01 FF FF" gives done_empty ∷
    hex "01 00 00 06 F1 C0 00 02 00 00" refused 0x08 leaving 0x08 ∷
    hex "01 00 00 06 E0 C0 00 02 00 01" refused 0x08 leaving 0x08 ∷ [])
    (opened 0x08) ∷
    -- a get that returns the byte of F1C2 then sets it to 0: not of length 0, not at offset 1, not of another object, not one that is refused
    talk three (opened 0x08)
    (hex "01 00 00 06 F1 C2 00 00 00 00" gives done_empty ∷
    hex "01 00 00 06 F1 C2 00 01 00 00" gives done_empty ∷
    hex "01 00 00 06 F1 C2 00 01 00 01" gives done_empty ∷
    hex "01 00 00 06 F1 C2 00 01 FF FF" gives done_empty ∷ [])
    (opened 0x08) ∷
    talk three (opened 0x08)
    (hex "01 00 00 06 E0 C0 00 00 00 01" gives hex "00 00 00 01 01" ∷
    hex "01 00 00 06 F1 C0 00 00 00 01" gives hex "00 00 00 01 01" ∷
    hex "01 00 00 06 F1 C2 00 02 00 00" refused 0x08 leaving 0x08 ∷
    hex "01 00 00 06 F1 C2 00 02 00 01" refused 0x08 leaving 0x08 ∷
    in_room 4 (hex "01 00 00 06 F1 C2 00 00 00 01" refused 0x0D leaving 0x0D) ∷
    hex "01 00 00 06 F1 C2 00 00 00 01" gives hex "00 00 00 01 0D" ∷
    hex "01 00 00 06 F1 C2 00 00 00 01" gives hex "00 00 00 01 00" ∷ [])
    (opened 0x00) ∷
    talk three (opened 0x0A) (in_room 5 (hex "01 00 00 06 F1 C2 00 00 FF FF" gives hex "00 00 00 01 0A") ∷ []) (opened 0x00) ∷
    -- with the flush bit it reads 0
    talk three (opened 0x08) (hex "81 00 00 06 F1 C2 00 00 00 01" gives hex "00 00 00 01 00" ∷ []) (opened 0x00) ∷
    -- writing F1C2 is 07
    talk three (opened 0x00)
    (hex "02 00 00 05 F1 C2 00 00 00" refused 0x07 leaving 0x07 ∷ hex "02 40 00 05 F1 C2 00 00 01" refused 0x07 leaving 0x07 ∷ [])
    (opened 0x07) ∷
    -- writing either life cycle: one of the four states, not below the present one
    talk three (opened 0x00) (hex "02 00 00 05 E0 C0 00 00 03" gives done_empty ∷ []) (session true 0x03 0x01 0x00) ∷
    talk three (opened 0x00) (hex "02 00 00 05 F1 C0 00 00 03" gives done_empty ∷ []) (session true 0x01 0x03 0x00) ∷
    talk three (opened 0x00) (hex "02 40 00 05 E0 C0 00 00 0F" gives done_empty ∷ []) (session true 0x0F 0x01 0x00) ∷
    talk three (opened 0x00) (hex "02 40 00 05 F1 C0 00 00 0F" gives done_empty ∷ hex "71 00 00 00" refused 0x0C leaving 0x0C ∷ [])
    (session true 0x01 0x0F 0x0C) ∷
    talk three (session true 0x07 0x03 0x00)
    (hex "02 00 00 05 E0 C0 00 00 07" gives done_empty ∷
    hex "02 40 00 05 F1 C0 00 00 03" gives done_empty ∷
    hex "02 00 00 05 E0 C0 00 00 03" refused 0x05 leaving 0x05 ∷
    hex "02 40 00 05 F1 C0 00 00 01" refused 0x05 leaving 0x05 ∷
    hex "02 00 00 05 E0 C0 00 00 08" refused 0x05 leaving 0x05 ∷
    hex "02 00 00 05 F1 C0 00 00 1F" refused 0x05 leaving 0x05 ∷
    hex "02 40 00 05 E0 C0 00 00 1F" refused 0x05 leaving 0x05 ∷
    hex "02 00 00 06 E0 C0 00 00 0F 0F" refused 0x08 leaving 0x08 ∷
    hex "02 00 00 05 F1 C0 00 01 0F" refused 0x08 leaving 0x08 ∷ [])
    (session true 0x07 0x03 0x08) ∷
    -- it changes nothing else of the session
    talk three (session true 0x01 0x03 0x0A) (hex "02 00 00 05 E0 C0 00 00 07" gives done_empty ∷ []) (session true 0x07 0x03 0x0A) ∷
    talk three (session true 0x01 0x03 0x0A) (hex "02 40 00 05 F1 C0 00 00 07" gives done_empty ∷ []) (session true 0x01 0x07 0x0A) ∷
    -- the store stays
    stores three (opened 0x00) (hex "02 00 00 05 E0 C0 00 00 03" gives done_empty ∷ hex "02 40 00 05 F1 C0 00 00 07" gives done_empty ∷ []) three ∷
    -- metadata of these three is 07
    talk three (opened 0x00)
    (hex "01 01 00 02 E0 C0" refused 0x07 leaving 0x07 ∷
    hex "01 01 00 02 F1 C0" refused 0x07 leaving 0x07 ∷
    hex "01 01 00 02 F1 C2" refused 0x07 leaving 0x07 ∷
    hex "02 01 00 07 E0 C0 20 03 C0 01 03" refused 0x07 leaving 0x07 ∷
    hex "02 01 00 07 F1 C0 20 03 C0 01 03" refused 0x07 leaving 0x07 ∷
    hex "02 01 00 04 F1 C2 21 00" refused 0x07 leaving 0x07 ∷ [])
    (opened 0x07) ∷ []

-- Reading and writing ---------------------------------------------------------------------------------------------------------

unfoldable pub data_cases : List Case
data_cases =
    -- a get asks the read expression, at the state of now
    talk three (opened 0x00)
    (hex "01 00 00 06 F1 D2 00 00 00 04" gives hex "00 00 00 04 01 02 03 04" ∷ hex "01 00 00 06 F1 D1 00 00 00 00" refused 0x07 leaving 0x07 ∷ [])
    (opened 0x07) ∷
    -- it answers the bytes from offset to the smaller of used and offset + length
    talk three (opened 0x00)
    (hex "01 00 00 06 F1 D0 00 00 00 02" gives hex "00 00 00 02 0A 0B" ∷
    hex "01 00 00 06 F1 D0 00 00 00 03" gives hex "00 00 00 03 0A 0B 0C" ∷
    hex "01 00 00 06 F1 D0 00 00 00 04" gives hex "00 00 00 03 0A 0B 0C" ∷
    hex "01 00 00 06 F1 D0 00 01 00 01" gives hex "00 00 00 01 0B" ∷
    hex "01 00 00 06 F1 D0 00 01 00 02" gives hex "00 00 00 02 0B 0C" ∷
    hex "01 00 00 06 F1 D0 00 01 FF FF" gives hex "00 00 00 02 0B 0C" ∷
    hex "01 00 00 06 F1 D0 00 02 01 00" gives hex "00 00 00 01 0C" ∷
    hex "01 00 00 06 F1 D2 00 01 FF FF" gives hex "00 00 00 03 02 03 04" ∷ [])
    (opened 0x00) ∷
    -- length 0, and an offset equal to used, answer no data; only an offset above used is 08
    talk three (opened 0x00)
    (hex "01 00 00 06 F1 D0 00 00 00 00" gives done_empty ∷
    hex "01 00 00 06 F1 D0 00 03 00 00" gives done_empty ∷
    hex "01 00 00 06 F1 D0 00 03 00 01" gives done_empty ∷
    hex "01 00 00 06 F1 D0 00 03 FF FF" gives done_empty ∷
    hex "01 00 00 06 F1 D0 00 04 00 00" refused 0x08 leaving 0x08 ∷
    hex "01 00 00 06 F1 D0 00 04 00 01" refused 0x08 leaving 0x08 ∷ [])
    (opened 0x08) ∷
    -- of an object with no byte in use
    talk (smallest 1) (opened 0x00)
    (hex "01 00 00 06 00 01 00 00 FF FF" gives done_empty ∷ hex "01 00 00 06 00 01 00 01 00 00" refused 0x08 leaving 0x08 ∷ [])
    (opened 0x08) ∷
    -- metadata of a stored object is always granted
    talk three (session true 0x07 0x07 0x00)
    (hex "01 01 00 02 F1 D1" gives second_metadata ∷
    hex "01 01 00 02 F1 D2" gives hex "00 00 00 18 20 16 C0 01 07 C4 02 00 04 C5 02 00 04 D0 01 FF D1 03 E1 FB 03 D3 01 00" ∷ [])
    (session true 0x07 0x07 0x00) ∷
    -- a read changes no object
    stores three (opened 0x00) (hex "01 00 00 06 F1 D0 00 00 00 03" gives done_empty ∷ hex "01 01 00 02 F1 D0" gives done_empty ∷ []) three ∷
    -- a write puts the bytes at offset: inside, past used with a gap, to the maximum; no other object changes
    stores three (opened 0x00) (hex "02 00 00 05 F1 D0 00 01 AA" gives done_empty ∷ [])
    (by_hand (hex "64 00 01 00 D0 F1 04 00 03 00 01 00") "03 E1 FC 07" "01 00" "01 00" (hex "0A AA 0C 00") ++ second_record ++ third_record) ∷
    stores three (opened 0x00) (hex "02 00 00 06 F1 D1 00 02 AA BB" gives done_empty ∷ [])
    (first_record ++ by_hand (hex "64 00 01 00 D1 F1 04 00 04 00 03 00") "01 00" "01 FF" "03 70 FA 01" (hex "0D 0E AA BB") ++ third_record) ∷
    stores (smallest 1 ++ large) (opened 0x00) (hex "02 00 00 06 F1 D0 01 04 AA BB" gives done_empty ∷ [])
    (smallest 1 ++
    by_hand (hex "8C 01 01 00 D0 F1 2C 01 06 01 01 00") "01 00" "01 00" "01 00" (replicate 256 0x55 ++ hex "AB CD 00 00 AA BB" ++ zeros 38)) ∷
    -- erase and write zeroes all data first, and used becomes offset + length
    stores three (opened 0x00) (hex "02 40 00 05 F1 D0 00 01 AA" gives done_empty ∷ [])
    (by_hand (hex "64 00 01 00 D0 F1 04 00 02 00 01 00") "03 E1 FC 07" "01 00" "01 00" (hex "00 AA 00 00") ++ second_record ++ third_record) ∷
    -- reads and writes of stored objects that are done change nothing of the session
    talk three (session true 0x03 0x07 0x0A)
    (hex "01 00 00 06 F1 D0 00 00 00 03" gives hex "00 00 00 03 0A 0B 0C" ∷ hex "02 00 00 05 F1 D1 00 00 AA" gives done_empty ∷ hex "02 40 00 05 F1 D1 00 00 AA" gives done_empty ∷ [])
    (session true 0x03 0x07 0x0A) ∷
    -- writes ask the change expression as stored before the command
    talk three (opened 0x00)
    (hex "02 01 00 0A F1 D0 20 06 C0 01 07 D0 01 FF" gives done_empty ∷
    hex "02 00 00 05 F1 D0 00 00 AA" refused 0x07 leaving 0x07 ∷
    hex "02 40 00 05 F1 D0 00 00 AA" refused 0x07 leaving 0x07 ∷
    hex "02 01 00 0A F1 D0 20 06 C0 01 07 D0 01 00" refused 0x07 leaving 0x07 ∷
    hex "01 00 00 06 F1 D0 00 00 00 03" gives hex "00 00 00 03 0A 0B 0C" ∷ [])
    (opened 0x07) ∷
    -- at the life cycles of now: LcsG for the change expression here, LcsA for the read expression
    talk (by_hand (hex "64 00 01 00 D0 F1 04 00 03 00 01 00") "03 70 FA 03" "03 E0 FB 01" "01 00" (hex "0A 0B 0C 00")) (opened 0x00)
    (hex "02 00 00 05 F1 D0 00 00 AA" refused 0x07 leaving 0x07 ∷
    hex "01 00 00 06 F1 D0 00 00 00 01" refused 0x07 leaving 0x07 ∷
    hex "02 00 00 05 E0 C0 00 00 03" gives done_empty ∷
    hex "02 00 00 05 F1 D0 00 00 AA" gives done_empty ∷
    hex "01 00 00 06 F1 D0 00 00 00 01" refused 0x07 leaving 0x07 ∷
    hex "02 00 00 05 F1 C0 00 00 03" gives done_empty ∷
    hex "01 00 00 06 F1 D0 00 00 00 02" gives hex "00 00 00 02 AA 0B" ∷
    hex "02 00 00 05 E0 C0 00 00 07" gives done_empty ∷
    hex "02 00 00 05 F1 D0 00 00 BB" refused 0x07 leaving 0x07 ∷ [])
    (session true 0x07 0x03 0x07) ∷
    -- of a life cycle state that no longer holds
    talk (by_hand (hex "64 00 01 00 D0 F1 04 00 03 00 07 00") "03 E1 FC 07" "03 E1 FC 07" "01 00" (hex "0A 0B 0C 00")) (opened 0x00)
    (hex "02 00 00 05 F1 D0 00 00 AA" refused 0x07 leaving 0x07 ∷
    hex "02 01 00 07 F1 D0 20 03 D0 01 00" refused 0x07 leaving 0x07 ∷
    hex "01 00 00 06 F1 D0 00 00 00 03" refused 0x07 leaving 0x07 ∷ [])
    (opened 0x07) ∷ []

unfoldable pub metadata_cases : List Case
metadata_cases =
    -- C0, D0, D1 and D3 are stored, each in its place, with all else as it was
    stores three (opened 0x00) (hex "02 01 00 07 F1 D1 20 03 C0 01 07" gives done_empty ∷ [])
    (first_record ++ by_hand (hex "64 00 01 00 D1 F1 04 00 03 00 07 00") "01 00" "01 FF" "03 70 FA 01" (hex "0D 0E 0F 00") ++ third_record) ∷
    stores three (opened 0x00) (hex "02 01 00 09 F1 D1 20 05 D0 03 E0 FA 07" gives done_empty ∷ [])
    (first_record ++ by_hand (hex "64 00 01 00 D1 F1 04 00 03 00 03 00") "03 E0 FA 07" "01 FF" "03 70 FA 01" (hex "0D 0E 0F 00") ++ third_record) ∷
    stores three (opened 0x00) (hex "02 01 00 09 F1 D1 20 05 D1 03 E0 FA 07" gives done_empty ∷ [])
    (first_record ++ by_hand (hex "64 00 01 00 D1 F1 04 00 03 00 03 00") "01 00" "03 E0 FA 07" "03 70 FA 01" (hex "0D 0E 0F 00") ++ third_record) ∷
    stores three (opened 0x00) (hex "02 01 00 07 F1 D1 20 03 D3 01 FF" gives done_empty ∷ [])
    (first_record ++ by_hand (hex "64 00 01 00 D1 F1 04 00 03 00 03 00") "01 00" "01 FF" "01 FF" (hex "0D 0E 0F 00") ++ third_record) ∷
    stores three (opened 0x00) (hex "02 01 00 10 F1 D1 20 0C C0 01 0F D0 01 FF D1 01 00 D3 01 00" gives done_empty ∷ [])
    (first_record ++ by_hand (hex "64 00 01 00 D1 F1 04 00 03 00 0F 00") "01 FF" "01 00" "01 00" (hex "0D 0E 0F 00") ++ third_record) ∷
    -- an equal LcsO is taken
    talk three (opened 0x00) (hex "02 01 00 07 F1 D1 20 03 C0 01 03" gives done_empty ∷ hex "01 01 00 02 F1 D1" gives second_metadata ∷ []) (opened 0x00) ∷
    -- one or more; 20, L filling InData, filled exactly
    talk three (opened 0x00)
    (hex "02 01 00 04 F1 D1 20 00" refused 0x05 leaving 0x05 ∷
    hex "02 01 00 07 F1 D1 21 03 C0 01 03" refused 0x05 leaving 0x05 ∷
    hex "02 01 00 07 F1 D1 20 02 C0 01 03" refused 0x05 leaving 0x05 ∷
    hex "02 01 00 07 F1 D1 20 04 C0 01 03" refused 0x05 leaving 0x05 ∷
    hex "02 01 00 08 F1 D1 20 03 C0 01 03 D0" refused 0x05 leaving 0x05 ∷
    hex "02 01 00 08 F1 D1 20 04 C0 01 03 D0" refused 0x05 leaving 0x05 ∷
    hex "02 01 00 07 F1 D1 20 03 D0 03 E1" refused 0x05 leaving 0x05 ∷
    hex "02 01 00 05 F1 D1 20 01 C0" refused 0x05 leaving 0x05 ∷ [])
    (opened 0x05) ∷
    -- tags rising, no repeats
    talk three (opened 0x00)
    (hex "02 01 00 0A F1 D1 20 06 D1 01 00 D0 01 00" refused 0x05 leaving 0x05 ∷
    hex "02 01 00 0A F1 D1 20 06 D0 01 00 C0 01 07" refused 0x05 leaving 0x05 ∷
    hex "02 01 00 0A F1 D1 20 06 C0 01 03 C0 01 07" refused 0x05 leaving 0x05 ∷
    hex "02 01 00 0A F1 D1 20 06 D3 01 00 D3 01 00" refused 0x05 leaving 0x05 ∷
    hex "02 01 00 13 F1 D1 20 0F C0 01 03 D0 01 00 D1 01 00 D3 01 00 D3 01 00" refused 0x05 leaving 0x05 ∷ [])
    (opened 0x05) ∷
    -- no other tags
    talk three (opened 0x00)
    (hex "02 01 00 08 F1 D1 20 04 C4 02 00 04" refused 0x05 leaving 0x05 ∷
    hex "02 01 00 08 F1 D1 20 04 C5 02 00 03" refused 0x05 leaving 0x05 ∷
    hex "02 01 00 07 F1 D1 20 03 C1 01 03" refused 0x05 leaving 0x05 ∷
    hex "02 01 00 07 F1 D1 20 03 D2 01 00" refused 0x05 leaving 0x05 ∷
    hex "02 01 00 07 F1 D1 20 03 D4 01 00" refused 0x05 leaving 0x05 ∷
    hex "02 01 00 0A F1 D1 20 06 D0 01 00 E8 01 00" refused 0x05 leaving 0x05 ∷ [])
    (opened 0x05) ∷
    -- C0 is one byte, one of the four states, and may not fall
    talk three (opened 0x00)
    (hex "02 01 00 08 F1 D1 20 04 C0 02 03 03" refused 0x05 leaving 0x05 ∷
    hex "02 01 00 06 F1 D1 20 02 C0 00" refused 0x05 leaving 0x05 ∷
    hex "02 01 00 07 F1 D1 20 03 C0 01 01" refused 0x05 leaving 0x05 ∷
    hex "02 01 00 07 F1 D1 20 03 C0 01 04" refused 0x05 leaving 0x05 ∷
    hex "02 01 00 07 F1 D1 20 03 C0 01 1F" refused 0x05 leaving 0x05 ∷ [])
    (opened 0x05) ∷
    -- D0, D1 and D3 are well-formed expressions
    talk three (opened 0x00)
    (hex "02 01 00 06 F1 D1 20 02 D0 00" refused 0x05 leaving 0x05 ∷
    hex "02 01 00 07 F1 D1 20 03 D0 01 01" refused 0x05 leaving 0x05 ∷
    hex "02 01 00 09 F1 D1 20 05 D1 03 E1 FC 04" refused 0x05 leaving 0x05 ∷
    hex "02 01 00 08 F1 D1 20 04 D3 02 00 00" refused 0x05 leaving 0x05 ∷ [])
    (opened 0x05) ∷
    -- all of it is stored or none
    stores three (opened 0x00)
    (hex "02 01 00 0A F1 D1 20 06 C0 01 07 D0 01 01" gives done_empty ∷ hex "02 01 00 0D F1 D1 20 09 D0 01 FF D1 01 00 D3 01 02" gives done_empty ∷ [])
    three ∷ []

-- The program -----------------------------------------------------------------------------------------------------------------

-- a text and the byte that ends its line
unfoldable pub text_line : List ℕ → List ℕ
text_line text = text ++ 0x0A ∷ []

unfoldable pub program_cases : List Case
program_cases =
    prints [] [] ∷
    prints (hex "00 00") (text_line (ascii "0 FF000000")) ∷
    -- a length or command cut short
    prints (hex "00") (text_line (ascii "cut")) ∷ prints (hex "00 04 71 00 00") (text_line (ascii "cut")) ∷
    prints (hex "00 00 01 00") (text_line (ascii "0 FF000000") ++ text_line (ascii "cut")) ∷
    -- hex in upper case; the store and session go on; 1,504 bytes of room hold a response of 1,504
    prints (hex "00 14" ++ open_command ++ hex "00 09 02 00 00 05 F1 E0 05 DB AF 00 0A 01 00 00 06 F1 E0 00 00 05 DC")
    (text_line (ascii "0 00000000") ++ text_line (ascii "0 00000000") ++ text_line (ascii "0 000005DC" ++ replicate 2998 0x30 ++ ascii "AF")) ∷
    -- at most 16,384 bytes
    prints (hex "3F FE" ++ zeros 16382) (text_line (ascii "0 FF000000")) ∷
    prints (hex "3F FF" ++ zeros 16383) (text_line (ascii "too long")) ∷ []
