-- Tables of counters: at least one case for each sentence about them. Stores are written byte by byte.
use Rattle.std.specs.Prelude.{ℕ, true, false, List, [], ◌∷◌, ◌++◌}
use Rattle.rules.specs.Hex.{hex}
use Rattle.rules.specs.Cases.{opened, closed, ◌gives◌, ◌refused◌leaving◌, unanswered_in, in_room, done_empty}
use Rattle.rules.specs.Cases.{Case, talk, stores, sound}
use Rattle.rules.specs.Stores.{by_hand, first_record, second_record, third_record, up_counter, down_counter}

-- 255 of 300 trips, and 310 rides above a threshold of 300
unfoldable pub trips : List ℕ
trips = up_counter 0x20 (hex "00 00 00 FF 00 00 01 2C")

unfoldable pub rides : List ℕ
rides = down_counter 0x21 (hex "00 00 01 36 00 00 01 2C")

-- records of counters -----------------------------------------------------------------------------------------------------

-- a record: length, kind, maximum, used, data; its number is E120
unfoldable pub of_kind : List ℕ → List ℕ → List ℕ → List ℕ → List ℕ → List ℕ
of_kind long kind maximum used content = by_hand (long ++ kind ++ hex "20 E1" ++ maximum ++ used ++ hex "01 00") "01 00" "01 00" "01 00" content

unfoldable pub counter_record_cases : List Case
counter_record_cases =
    -- kinds 0002 and 0004; any value and any threshold are sound, also a value past its threshold
    sound trips true ∷ sound rides true ∷ sound (trips ++ rides) true ∷
    sound (up_counter 0x20 (hex "FF FF FF FF 00 00 00 00")) true ∷
    sound (down_counter 0x20 (hex "00 00 00 00 FF FF FF FF")) true ∷
    sound (of_kind (hex "68 00") (hex "02 00") (hex "08 00") (hex "08 00") (hex "00 00 00 00 00 00 00 00")) true ∷
    -- maximum is always 8
    sound (of_kind (hex "69 00") (hex "02 00") (hex "09 00") (hex "08 00") (hex "00 00 00 01 00 00 00 02 00")) false ∷
    sound (of_kind (hex "69 00") (hex "04 00") (hex "09 00") (hex "08 00") (hex "00 00 00 01 00 00 00 02 00")) false ∷
    sound (of_kind (hex "69 00") (hex "01 00") (hex "09 00") (hex "08 00") (hex "00 00 00 01 00 00 00 02 00")) true ∷
    -- used is always 8
    sound (of_kind (hex "68 00") (hex "02 00") (hex "08 00") (hex "07 00") (hex "00 00 00 01 00 00 00 00")) false ∷
    sound (of_kind (hex "68 00") (hex "04 00") (hex "08 00") (hex "00 00") (hex "00 00 00 00 00 00 00 00")) false ∷
    sound (of_kind (hex "68 00") (hex "01 00") (hex "08 00") (hex "07 00") (hex "00 00 00 01 00 00 00 00")) true ∷
    -- a kind that is not listed
    sound (of_kind (hex "68 00") (hex "00 00") (hex "08 00") (hex "08 00") (hex "00 00 00 01 00 00 00 02")) false ∷
    sound (of_kind (hex "68 00") (hex "05 00") (hex "08 00") (hex "08 00") (hex "00 00 00 01 00 00 00 02")) false ∷
    sound (of_kind (hex "68 00") (hex "06 00") (hex "08 00") (hex "08 00") (hex "00 00 00 01 00 00 00 02")) false ∷
    sound (of_kind (hex "68 00") (hex "02 01") (hex "08 00") (hex "08 00") (hex "00 00 00 01 00 00 00 02")) false ∷
    sound (of_kind (hex "68 00") (hex "00 04") (hex "08 00") (hex "08 00") (hex "00 00 00 01 00 00 00 02")) false ∷
    -- the bytes of a counter are no queue
    sound (of_kind (hex "68 00") (hex "03 00") (hex "08 00") (hex "08 00") (hex "00 00 00 01 00 00 00 02")) false ∷ []

-- counts --------------------------------------------------------------------------------------------------------------------

-- a counter that may be read but not changed any more, and one that may be changed but not read
unfoldable pub locked : List ℕ
locked = by_hand (hex "68 00 02 00 22 E1 08 00 08 00 07 00") "03 E1 FC 07" "01 00" "01 00" (hex "00 00 00 00 00 00 00 09")

unfoldable pub unreadable : List ℕ
unreadable = by_hand (hex "68 00 04 00 23 E1 08 00 08 00 01 00") "03 E1 FC 07" "01 FF" "01 00" (hex "00 00 00 09 00 00 00 00")

unfoldable pub count_cases : List Case
count_cases =
    -- value and threshold, all four bytes of each, most significant first; the threshold stays, and the last error with it
    talk (up_counter 0x20 (hex "01 02 03 FF 7F 80 81 82") ++ down_counter 0x21 (hex "7F 80 00 00 01 02 03 04")) (opened 0x0A)
    (hex "02 02 00 05 E1 20 00 00 01" gives done_empty ∷
    hex "01 00 00 06 E1 20 00 00 00 08" gives hex "00 00 00 08 01 02 04 00 7F 80 81 82" ∷
    hex "02 02 00 05 E1 21 00 00 01" gives done_empty ∷
    hex "01 00 00 06 E1 21 00 00 00 08" gives hex "00 00 00 08 7F 7F FF FF 01 02 03 04" ∷ [])
    (opened 0x0A) ∷
    -- 7: InLen is 5 exactly; before step 9
    talk (trips ++ rides) (opened 0x00)
    (hex "02 02 00 04 E1 20 00 00" refused 0x04 leaving 0x04 ∷
    hex "02 02 00 06 E1 20 00 00 01 01" refused 0x04 leaving 0x04 ∷
    hex "02 02 00 06 AB CD 00 00 01 01" refused 0x04 leaving 0x04 ∷ [])
    (opened 0x04) ∷
    -- closed, the flush bit, and a small room
    talk trips (closed 0x00) (hex "02 02 00 05 E1 20 00 00 01" refused 0x0C leaving 0x0C ∷ []) (closed 0x0C) ∷
    talk trips (opened 0x0A) (in_room 4 (hex "82 02 00 05 E1 20 00 00 01" gives done_empty) ∷ []) (opened 0x00) ∷
    talk trips (opened 0x0A)
    (unanswered_in 3 (hex "82 02 00 05 E1 20 00 00 01") ∷ hex "01 00 00 06 E1 20 00 00 00 04" gives hex "00 00 00 04 00 00 00 FF" ∷ [])
    (opened 0x0A) ∷
    -- 9, before access; 10, the change expression, before 03 and 08
    talk (trips ++ rides ++ locked ++ unreadable ++ first_record ++ second_record ++ third_record) (opened 0x00)
    (hex "02 02 00 05 E1 24 00 01 01" refused 0x01 leaving 0x01 ∷
    hex "02 02 00 05 E1 22 00 00 01" refused 0x07 leaving 0x07 ∷
    hex "02 02 00 05 E1 22 00 01 01" refused 0x07 leaving 0x07 ∷
    hex "02 02 00 05 F1 D2 00 00 01" refused 0x07 leaving 0x07 ∷
    hex "02 02 00 05 F1 D2 00 01 01" refused 0x07 leaving 0x07 ∷
    hex "02 02 00 05 E1 23 00 00 08" gives done_empty ∷
    hex "02 02 00 05 E1 23 00 00 01" gives done_empty ∷
    hex "02 02 00 05 E1 23 00 00 01" refused 0x08 leaving 0x08 ∷ [])
    (opened 0x08) ∷
    -- 03 of another kind and of a life cycle object, before 08; 07 of F1C2
    talk (trips ++ first_record ++ second_record) (opened 0x00)
    (hex "02 02 00 05 F1 D0 00 00 01" refused 0x03 leaving 0x03 ∷
    hex "02 02 00 05 F1 D1 00 01 01" refused 0x03 leaving 0x03 ∷
    hex "02 02 00 05 E0 C0 00 00 03" refused 0x03 leaving 0x03 ∷
    hex "02 02 00 05 E0 C0 00 01 03" refused 0x03 leaving 0x03 ∷
    hex "02 02 00 05 F1 C0 00 00 03" refused 0x03 leaving 0x03 ∷
    hex "02 02 00 05 F1 C0 00 01 03" refused 0x03 leaving 0x03 ∷
    hex "02 02 00 05 F1 C2 00 00 00" refused 0x07 leaving 0x07 ∷
    hex "02 02 00 05 F1 C2 00 01 00" refused 0x07 leaving 0x07 ∷ [])
    (opened 0x07) ∷
    -- 11: the offset is 0, both bytes of it
    talk (trips ++ rides) (opened 0x00)
    (hex "02 02 00 05 E1 20 00 01 01" refused 0x08 leaving 0x08 ∷
    hex "02 02 00 05 E1 20 01 00 01" refused 0x08 leaving 0x08 ∷
    hex "02 02 00 05 E1 21 00 04 01" refused 0x08 leaving 0x08 ∷ [])
    (opened 0x08) ∷
    -- at the threshold, and past it: 08, by a step of 0 too
    talk
    (up_counter 0x20 (hex "00 00 01 2C 00 00 01 2C") ++ up_counter 0x21 (hex "00 00 01 2D 00 00 01 2C") ++
    down_counter 0x22 (hex "00 00 01 2C 00 00 01 2C") ++ down_counter 0x23 (hex "00 00 01 2B 00 00 01 2C"))
    (opened 0x00)
    (hex "02 02 00 05 E1 20 00 00 01" refused 0x08 leaving 0x08 ∷
    hex "02 02 00 05 E1 20 00 00 00" refused 0x08 leaving 0x08 ∷
    hex "02 02 00 05 E1 21 00 00 01" refused 0x08 leaving 0x08 ∷
    hex "02 02 00 05 E1 21 00 00 00" refused 0x08 leaving 0x08 ∷
    hex "02 02 00 05 E1 22 00 00 01" refused 0x08 leaving 0x08 ∷
    hex "02 02 00 05 E1 22 00 00 00" refused 0x08 leaving 0x08 ∷
    hex "02 02 00 05 E1 23 00 00 01" refused 0x08 leaving 0x08 ∷
    hex "02 02 00 05 E1 23 00 00 00" refused 0x08 leaving 0x08 ∷ [])
    (opened 0x08) ∷
    -- a step of 0 before it is taken and changes nothing; one before the threshold stays before it
    talk (trips ++ rides) (opened 0x00)
    (hex "02 02 00 05 E1 20 00 00 00" gives done_empty ∷
    hex "02 02 00 05 E1 21 00 00 00" gives done_empty ∷
    hex "01 00 00 06 E1 20 00 00 00 04" gives hex "00 00 00 04 00 00 00 FF" ∷
    hex "01 00 00 06 E1 21 00 00 00 04" gives hex "00 00 00 04 00 00 01 36" ∷
    hex "02 02 00 05 E1 20 00 00 2C" gives done_empty ∷
    hex "02 02 00 05 E1 21 00 00 09" gives done_empty ∷
    hex "01 00 00 06 E1 20 00 00 00 04" gives hex "00 00 00 04 00 00 01 2B" ∷
    hex "01 00 00 06 E1 21 00 00 00 04" gives hex "00 00 00 04 00 00 01 2D" ∷ [])
    (opened 0x00) ∷
    -- a count stores its object alone
    stores (trips ++ rides ++ first_record) (opened 0x00) (hex "02 02 00 05 E1 21 00 00 01" gives done_empty ∷ [])
    (trips ++ down_counter 0x21 (hex "00 00 01 35 00 00 01 2C") ++ first_record) ∷ []

-- reading and writing ---------------------------------------------------------------------------------------------------------

unfoldable pub counter_write_cases : List Case
counter_write_cases =
    -- a write, erasing or not, sets all 8 bytes at offset 0
    talk (trips ++ rides) (opened 0x00)
    (hex "02 00 00 0C E1 20 00 00 00 00 00 07 00 00 00 05" gives done_empty ∷
    hex "01 00 00 06 E1 20 00 00 00 08" gives hex "00 00 00 08 00 00 00 07 00 00 00 05" ∷
    hex "02 02 00 05 E1 20 00 00 01" refused 0x08 leaving 0x08 ∷
    hex "02 40 00 0C E1 20 00 00 00 00 00 01 00 00 00 05" gives done_empty ∷
    hex "01 00 00 06 E1 20 00 00 00 08" gives hex "00 00 00 08 00 00 00 01 00 00 00 05" ∷
    hex "02 40 00 0C E1 21 00 00 00 00 00 09 00 00 00 08" gives done_empty ∷
    hex "02 02 00 05 E1 21 00 00 05" gives done_empty ∷
    hex "01 00 00 06 E1 21 00 00 00 08" gives hex "00 00 00 08 00 00 00 08 00 00 00 08" ∷ [])
    (opened 0x08) ∷
    -- or is 08: fewer, more, elsewhere
    talk (trips ++ rides) (opened 0x00)
    (hex "02 00 00 0B E1 20 00 00 00 00 00 07 00 00 00" refused 0x08 leaving 0x08 ∷
    hex "02 00 00 0D E1 20 00 00 00 00 00 07 00 00 00 05 00" refused 0x08 leaving 0x08 ∷
    hex "02 00 00 0B E1 21 00 01 00 00 07 00 00 00 05" refused 0x08 leaving 0x08 ∷
    hex "02 00 00 0C E1 21 00 01 00 00 00 07 00 00 00 05" refused 0x08 leaving 0x08 ∷
    hex "02 40 00 0B E1 20 00 00 00 00 00 07 00 00 00" refused 0x08 leaving 0x08 ∷
    hex "02 40 00 0D E1 21 00 00 00 00 00 07 00 00 00 05 00" refused 0x08 leaving 0x08 ∷
    hex "02 40 00 0B E1 20 00 01 00 00 07 00 00 00 05" refused 0x08 leaving 0x08 ∷
    hex "02 40 00 05 E1 21 00 07 01" refused 0x08 leaving 0x08 ∷ [])
    (opened 0x08) ∷
    -- access first
    talk (trips ++ locked) (opened 0x00)
    (hex "02 00 00 0C E1 22 00 00 00 00 00 07 00 00 00 05" refused 0x07 leaving 0x07 ∷ hex "02 40 00 05 E1 22 00 07 01" refused 0x07 leaving 0x07 ∷ [])
    (opened 0x07) ∷
    -- data of 8 bytes is written as other data is
    talk (of_kind (hex "68 00") (hex "01 00") (hex "08 00") (hex "08 00") (hex "00 00 00 01 00 00 00 02")) (opened 0x00)
    (hex "02 00 00 05 E1 20 00 07 AA" gives done_empty ∷ hex "01 00 00 06 E1 20 00 06 00 02" gives hex "00 00 00 02 00 AA" ∷ [])
    (opened 0x00) ∷
    -- get of data, metadata and LcsO are as for other objects
    talk (trips ++ unreadable) (opened 0x00)
    (hex "01 00 00 06 E1 20 00 03 00 05" gives hex "00 00 00 05 FF 00 00 01 2C" ∷
    hex "01 00 00 06 E1 20 00 04 00 05" gives hex "00 00 00 04 00 00 01 2C" ∷
    hex "01 00 00 06 E1 20 00 08 00 01" gives done_empty ∷
    hex "01 00 00 06 E1 20 00 09 00 00" refused 0x08 leaving 0x08 ∷
    hex "01 00 00 06 E1 23 00 00 00 08" refused 0x07 leaving 0x08 ∷
    hex "01 01 00 02 E1 20" gives hex "00 00 00 16 20 14 C0 01 01 C4 02 00 08 C5 02 00 08 D0 01 00 D1 01 00 D3 01 00" ∷
    hex "02 01 00 0A E1 20 20 06 C0 01 07 D0 01 FF" gives done_empty ∷
    hex "01 01 00 02 E1 20" gives hex "00 00 00 16 20 14 C0 01 07 C4 02 00 08 C5 02 00 08 D0 01 FF D1 01 00 D3 01 00" ∷
    hex "02 02 00 05 E1 20 00 00 01" refused 0x07 leaving 0x08 ∷
    hex "01 00 00 06 E1 20 00 00 00 08" gives hex "00 00 00 08 00 00 00 FF 00 00 01 2C" ∷ [])
    (opened 0x08) ∷ []
