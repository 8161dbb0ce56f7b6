-- Tables of the conditions that use up a counter: at least one case for each sentence about them. Stores are written byte by byte.
use Rattle.std.specs.Prelude.{ℕ, true, false, List, [], ◌∷◌, ◌++◌, length, replicate}
use Prim.Native.String.{String}
use Rattle.rules.specs.Hex.{hex}
use Rattle.rules.specs.Cases.{session, opened, closed, ◌gives◌, ◌refused◌leaving◌, unanswered_in, in_room, done_empty, turn, told}
use Rattle.rules.specs.Cases.{Case, talk, stores, judge, written, sound, runs}
use Rattle.rules.specs.Stores.{by_hand, up_counter, down_counter, guarded, guarded_counter}
use Rattle.rules.specs.Bench.{open_command}

-- form --------------------------------------------------------------------------------------------------------------------

-- a record with these slots
unfoldable pub slotted : String → String → String → List ℕ
slotted change read execute = by_hand (hex "64 00 01 00 D0 F1 04 00 03 00 01 00") change read execute (hex "0A 0B 0C 00")

unfoldable pub condition_form_cases : List Case
condition_form_cases =
    -- 40 and any two bytes, those of the joins too
    written (hex "40 E1 20") true ∷ written (hex "40 00 00") true ∷ written (hex "40 FF FF") true ∷ written (hex "40 40 40") true ∷
    written (hex "40 FD FE") true ∷ written (hex "40 FE FD") true ∷ written (hex "40 FD FD") true ∷ written (hex "40 FE FE") true ∷
    written (hex "40 00 FD") true ∷ written (hex "40 FE 00") true ∷ written (hex "40 FA 02") true ∷
    -- two bytes, and 40
    written (hex "40") false ∷ written (hex "40 E1") false ∷ written (hex "40 E1 20 00") false ∷ written (hex "41 E1 20") false ∷
    written (hex "3F E1 20") false ∷ written (hex "C0 E1 20") false ∷ written (hex "00 E1 20") false ∷ written (hex "E1 40 E1") false ∷
    -- other conditions as ever
    written (hex "70 E1 20") false ∷ written (hex "E1 FA 20") false ∷ written (hex "E0 FD 07") false ∷
    -- joined, in each place
    written (hex "40 E1 20 FD 40 E1 21") true ∷ written (hex "40 E1 20 FE 40 E1 21") true ∷ written (hex "E1 FC 07 FE 40 FD FE FD 70 FA 01") true ∷
    written (hex "40 FE FD FE 40 FD FE FD 40 FE FE") true ∷ written (hex "40 E1 20 FD 41 E1 21") false ∷ written (hex "41 E1 20 FD 40 E1 21") false ∷
    -- a join stands behind three bytes, and nowhere else
    written (hex "40 E1 20 FC 40 E1 21") false ∷ written (hex "40 E1 20 FD") false ∷ written (hex "40 E1 20 FE 40 E1") false ∷
    written (hex "40 FD 40 E1 20") false ∷ written (hex "40 FE E1 FC 07") false ∷ written (hex "40 00 FE E1 FC 07") false ∷
    written (hex "00 FD 40 E1 20") false ∷ written (hex "40 E1 20 FE FF") false ∷
    -- 7 conditions, 27 bytes; not 8
    written (hex "40 E1 20 FD 40 E1 21 FD 40 E1 22 FD 40 E1 23 FD 40 E1 24 FD 40 E1 25 FD 40 E1 26") true ∷
    written (hex "40 E1 20 FD 40 E1 21 FD 40 E1 22 FD 40 E1 23 FD 40 E1 24 FD 40 E1 25 FD 40 E1 26 FD 40 E1 27") false ∷
    written (hex "70 FA 01 FD 40 E1 21 FE 40 E1 22 FD 40 E1 23 FE 40 E1 24 FD 40 E1 25 FD E1 FC 07") true ∷
    written (hex "70 FA 01 FD 40 E1 21 FE 40 E1 22 FD 40 E1 23 FE 40 E1 24 FD 40 E1 25 FD E1 FC 07 FD 40 E1 20") false ∷
    -- 3 groups; not 4; numbers count for none
    written (hex "40 E1 20 FE 40 E1 21 FE 40 E1 22") true ∷ written (hex "40 E1 20 FE 40 E1 21 FE 40 E1 22 FE 40 E1 23") false ∷
    written (hex "40 FE FE FD 40 FE FE FD 40 FE FE FD 40 FE FE") true ∷
    -- in the slots for change, read and execute
    sound (slotted "03 40 FD FE" "03 40 FE FD" "03 40 E1 20") true ∷
    sound (slotted "03 40 00 00" "07 40 FE FE FD 40 FD FD" "0B E1 FC 07 FE 40 00 00 FE 40 FF FF") true ∷
    sound (slotted "03 40 E1 20" "01 FF" "1B 40 E1 20 FD 40 E1 21 FD 40 E1 22 FD 40 E1 23 FE 40 E1 24 FD 40 E1 25 FE 40 E1 26") true ∷
    sound (slotted "02 40 E1" "01 00" "01 00") false ∷ sound (slotted "01 00" "02 40 E1" "01 00") false ∷ sound (slotted "01 00" "01 00" "02 40 E1") false ∷
    sound (slotted "03 41 E1 20" "01 00" "01 00") false ∷ sound (slotted "01 00" "03 3F E1 20" "01 00") false ∷
    sound (slotted "01 00" "01 00" "07 40 E1 20 FD C0 E1 20") false ∷ sound (slotted "01 40" "01 00" "01 00") false ∷
    -- metadata takes, stores and answers it, whether such a counter exists or not
    talk (slotted "01 00" "01 00" "01 00") (opened 0x00)
    (hex "02 01 00 17 F1 D0 20 13 D0 03 40 FD FE D1 03 40 E1 20 D3 07 40 00 00 FE 40 FF FF" gives done_empty ∷
    hex "01 01 00 02 F1 D0" gives
    hex "00 00 00 20 20 1E C0 01 01 C4 02 00 04 C5 02 00 03 D0 03 40 FD FE D1 03 40 E1 20 D3 07 40 00 00 FE 40 FF FF" ∷ [])
    (opened 0x00) ∷
    stores (slotted "01 00" "01 00" "01 00") (opened 0x00)
    (hex "02 01 00 0E F1 D0 20 0A D0 03 40 FE FD D1 03 40 00 01" gives done_empty ∷ [])
    (slotted "03 40 FE FD" "03 40 00 01" "01 00") ∷
    -- or is 05
    talk (slotted "01 00" "01 00" "01 00") (opened 0x00)
    (hex "02 01 00 08 F1 D0 20 04 D0 02 40 E1" refused 0x05 leaving 0x05 ∷
    hex "02 01 00 09 F1 D0 20 05 D1 03 41 E1 20" refused 0x05 leaving 0x05 ∷
    hex "02 01 00 0A F1 D0 20 06 D3 04 40 E1 20 21" refused 0x05 leaving 0x05 ∷
    hex "02 01 00 25 F1 D0 20 21 D0 1F 40 E1 20 FD 40 E1 21 FD 40 E1 22 FD 40 E1 23 FD 40 E1 24 FD 40 E1 25 FD 40 E1 26 FD 40 E1 27"
    refused 0x05 leaving 0x05 ∷ [])
    (opened 0x05) ∷ []

-- when it holds -------------------------------------------------------------------------------------------------------------

-- beside F1D0, whose read expression is on E120: a read of it is done, or refused
unfoldable pub usable_beside : List ℕ → Case
usable_beside others =
    talk (others ++ guarded 0xD0 "01 00" "03 40 E1 20") (opened 0x00)
    (hex "01 00 00 06 F1 D0 00 00 00 03" gives hex "00 00 00 03 0A 0B 0C" ∷ []) (opened 0x00)

unfoldable pub unusable_beside : List ℕ → Case
unusable_beside others =
    talk (others ++ guarded 0xD0 "01 00" "03 40 E1 20") (opened 0x00)
    (hex "01 00 00 06 F1 D0 00 00 00 03" refused 0x07 leaving 0x07 ∷ []) (opened 0x07)

-- a counter that counts up under another number, its low byte first
unfoldable pub numbered : List ℕ → List ℕ → List ℕ
numbered number content = by_hand (hex "68 00 02 00" ++ number ++ hex "08 00 08 00 01 00") "01 00" "01 00" "01 00" content

unfoldable pub condition_holds_cases : List Case
condition_holds_cases =
    -- value one below the threshold, at it, above it
    usable_beside (up_counter 0x20 (hex "00 00 00 08 00 00 00 09")) ∷ unusable_beside (up_counter 0x20 (hex "00 00 00 09 00 00 00 09")) ∷
    unusable_beside (up_counter 0x20 (hex "00 00 00 0A 00 00 00 09")) ∷ usable_beside (up_counter 0x20 (hex "00 00 00 00 00 00 00 01")) ∷
    unusable_beside (up_counter 0x20 (hex "00 00 00 00 00 00 00 00")) ∷
    -- as whole numbers, most significant byte first
    usable_beside (up_counter 0x20 (hex "00 00 00 FF 00 00 01 00")) ∷ unusable_beside (up_counter 0x20 (hex "00 00 01 00 00 00 00 FF")) ∷
    usable_beside (up_counter 0x20 (hex "00 00 FF FF 00 01 00 00")) ∷ unusable_beside (up_counter 0x20 (hex "00 01 00 00 00 00 FF FF")) ∷
    usable_beside (up_counter 0x20 (hex "7F FF FF FF 80 00 00 00")) ∷ unusable_beside (up_counter 0x20 (hex "80 00 00 00 7F FF FF FF")) ∷
    usable_beside (up_counter 0x20 (hex "FF FF FF FE FF FF FF FF")) ∷ unusable_beside (up_counter 0x20 (hex "FF FF FF FF FF FF FF FF")) ∷
    unusable_beside (up_counter 0x20 (hex "FF FF FF FF 00 00 00 00")) ∷ usable_beside (up_counter 0x20 (hex "00 00 00 00 FF FF FF FF")) ∷
    -- a down counter, below its threshold, at it, above it; data of such bytes
    unusable_beside (down_counter 0x20 (hex "00 00 00 01 00 00 00 09")) ∷ unusable_beside (down_counter 0x20 (hex "00 00 00 09 00 00 00 09")) ∷
    unusable_beside (down_counter 0x20 (hex "00 00 00 0A 00 00 00 09")) ∷
    unusable_beside (by_hand (hex "68 00 01 00 20 E1 08 00 08 00 01 00") "01 00" "01 00" "01 00" (hex "00 00 00 00 00 00 00 09")) ∷
    -- none; another number, each byte of it; its bytes swapped
    unusable_beside [] ∷ unusable_beside (up_counter 0x21 (hex "00 00 00 00 00 00 00 09")) ∷
    unusable_beside (numbered (hex "20 E0") (hex "00 00 00 00 00 00 00 09")) ∷ unusable_beside (numbered (hex "E1 20") (hex "00 00 00 00 00 00 00 09")) ∷
    usable_beside (numbered (hex "E1 20") (hex "00 00 00 09 00 00 00 09") ++ numbered (hex "20 E1") (hex "00 00 00 00 00 00 00 09")) ∷
    judge (hex "40 E1 20") (opened 0x00) 0x01 false ∷
    -- what its own conditions and its LcsO are
    usable_beside (by_hand (hex "68 00 02 00 20 E1 08 00 08 00 0F 00") "01 FF" "01 FF" "01 FF" (hex "00 00 00 00 00 00 00 09")) ∷
    -- the numbers of the session's objects
    talk (guarded 0xD0 "03 40 E0 C0" "03 40 F1 C0" ++ guarded 0xD1 "01 00" "03 40 F1 C2") (session true 0x07 0x07 0x00)
    (hex "02 00 00 05 F1 D0 00 00 AA" refused 0x07 leaving 0x07 ∷
    hex "01 00 00 06 F1 D0 00 00 00 00" refused 0x07 leaving 0x07 ∷
    hex "01 00 00 06 F1 D1 00 00 00 00" refused 0x07 leaving 0x07 ∷ [])
    (session true 0x07 0x07 0x07) ∷
    -- numbers that have the bytes of the joins, and the least and the greatest
    talk
    (numbered (hex "00 00") (hex "00 00 00 00 00 00 00 01") ++
    guarded 0xD0 "03 40 FD FE" "03 40 FE FD" ++ guarded 0xD1 "07 40 FD FD FD 40 FE FE" "07 40 FE FF FE 40 00 00" ++ guarded 0xD2 "03 40 FE FF" "03 40 FF FF" ++
    numbered (hex "FD FD") (hex "00 00 00 00 00 00 00 01") ++ numbered (hex "FE FD") (hex "00 00 00 00 00 00 00 01") ++
    numbered (hex "FD FE") (hex "00 00 00 00 00 00 00 01") ++ numbered (hex "FE FE") (hex "00 00 00 00 00 00 00 01") ++
    numbered (hex "FF FF") (hex "00 00 00 00 00 00 00 01"))
    (opened 0x00)
    (hex "02 00 00 05 F1 D0 00 00 AA" gives done_empty ∷
    hex "02 00 00 05 F1 D0 00 00 AA" refused 0x07 leaving 0x07 ∷
    hex "01 00 00 06 F1 D0 00 00 00 01" gives hex "00 00 00 01 AA" ∷
    hex "01 00 00 06 F1 D0 00 00 00 01" refused 0x07 leaving 0x07 ∷
    hex "02 00 00 05 F1 D1 00 00 AA" gives done_empty ∷
    hex "02 00 00 05 F1 D1 00 00 AA" refused 0x07 leaving 0x07 ∷
    hex "01 00 00 06 F1 D1 00 00 00 01" gives hex "00 00 00 01 AA" ∷
    hex "01 00 00 06 F1 D1 00 00 00 01" refused 0x07 leaving 0x07 ∷
    hex "02 00 00 05 F1 D2 00 00 AA" refused 0x07 leaving 0x07 ∷
    hex "01 00 00 06 F1 D2 00 00 00 01" gives hex "00 00 00 01 0A" ∷
    hex "01 00 00 06 F1 D2 00 00 00 01" refused 0x07 leaving 0x07 ∷ [])
    (opened 0x07) ∷ []

-- the deciding group ----------------------------------------------------------------------------------------------------------

-- an up counter E1 kk at v of t, both below 256
unfoldable pub counter : ℕ → ℕ → ℕ → List ℕ
counter k v t = up_counter k (hex "00 00 00" ++ v ∷ hex "00 00 00" ++ t ∷ [])

-- E120, E121 and E122 at these of 9; E123 at 9 of 9; and E124 counts down
unfoldable pub tallies : ℕ → ℕ → ℕ → List ℕ
tallies x y z = counter 0x20 x 9 ++ counter 0x21 y 9 ++ counter 0x22 z 9 ++ counter 0x23 9 9 ++ down_counter 0x24 (hex "00 00 00 03 00 00 00 09")

-- one read of an object with this read expression is done, and leaves E120, E121 and E122 at these
unfoldable pub moves : String → ℕ → ℕ → ℕ → Case
moves e x y z =
    runs (tallies 0 0 0 ++ guarded 0xD0 "03 40 E1 22" e) (opened 0x03) (turn (hex "01 00 00 06 F1 D0 00 00 00 03") (hex "EE EE EE EE EE EE EE EE") ∷ [])
    (told 0 (hex "00 00 00 03 0A 0B 0C EE") ∷ []) (tallies x y z ++ guarded 0xD0 "03 40 E1 22" e) (opened 0x03)

-- it is refused and leaves all as it was
unfoldable pub stays : String → Case
stays e =
    runs (tallies 0 0 0 ++ guarded 0xD0 "03 40 E1 22" e) (opened 0x03) (turn (hex "01 00 00 06 F1 D0 00 00 00 03") (hex "EE EE EE EE EE EE EE EE") ∷ [])
    (told 0 (hex "FF 00 00 00 EE EE EE EE") ∷ []) (tallies 0 0 0 ++ guarded 0xD0 "03 40 E1 22" e) (opened 0x07)

unfoldable pub deciding_cases : List Case
deciding_cases =
    -- each counter of the group goes up by one
    moves "03 40 E1 20" 1 0 0 ∷ moves "03 40 E1 21" 0 1 0 ∷ moves "07 40 E1 20 FD 40 E1 21" 1 1 0 ∷ moves "0B 40 E1 22 FD 40 E1 20 FD 40 E1 21" 1 1 1 ∷
    -- beside conditions on states
    moves "07 70 FA 01 FD 40 E1 20" 1 0 0 ∷ moves "07 40 E1 20 FD 70 FA 01" 1 0 0 ∷ moves "0B 40 E1 20 FD E1 FC 07 FD 40 E1 21" 1 1 0 ∷
    moves "0B E0 FA 01 FD 40 E1 22 FD E1 FC 07" 0 0 1 ∷
    stores (counter 0x20 0 9 ++ guarded 0xD0 "01 00" "07 E1 FC 07 FD 40 E1 20" ++ numbered (hex "07 FC") (hex "00 00 00 00 00 00 00 09")) (opened 0x00)
    (hex "01 00 00 06 F1 D0 00 00 00 03" gives hex "00 00 00 03 0A 0B 0C" ∷ [])
    (counter 0x20 1 9 ++ guarded 0xD0 "01 00" "07 E1 FC 07 FD 40 E1 20" ++ numbered (hex "07 FC") (hex "00 00 00 00 00 00 00 09")) ∷
    -- the first true group decides: a later one moves nothing and spares nothing
    moves "07 40 E1 20 FE 40 E1 21" 1 0 0 ∷ moves "07 40 E1 20 FE 70 FA 01" 1 0 0 ∷ moves "07 70 FA 01 FE 40 E1 20" 0 0 0 ∷
    moves "0B 40 E1 20 FE 40 E1 21 FD 40 E1 22" 1 0 0 ∷ moves "07 40 E1 20 FE 40 E1 23" 1 0 0 ∷
    -- an earlier false one's counters stay, also those before its false condition
    moves "07 40 E1 23 FE 40 E1 21" 0 1 0 ∷ moves "0B 40 E1 23 FD 40 E1 20 FE 40 E1 21" 0 1 0 ∷ moves "0B 40 E1 20 FD 40 E1 23 FE 40 E1 21" 0 1 0 ∷
    moves "0B 40 E1 20 FD 70 FA 07 FE 40 E1 21" 0 1 0 ∷ moves "0B 40 E1 20 FD 40 E1 24 FE 40 E1 21" 0 1 0 ∷ moves "07 40 E1 24 FE 70 FA 01" 0 0 0 ∷
    moves "0F 40 E1 20 FD 40 E1 21 FD 40 E1 23 FE 70 FA 01" 0 0 0 ∷
    -- three groups
    moves "0B 40 E1 20 FE 40 E1 21 FE 40 E1 22" 1 0 0 ∷ moves "0B 40 E1 23 FE 40 E1 21 FE 40 E1 22" 0 1 0 ∷ moves "0B 40 E1 23 FE 40 E1 24 FE 40 E1 22" 0 0 1 ∷
    moves "13 40 E1 23 FE 70 FA 07 FD 40 E1 20 FE 40 E1 21 FD 40 E1 22" 0 1 1 ∷
    -- once, though it is named twice in the group, or in two groups
    moves "07 40 E1 20 FD 40 E1 20" 1 0 0 ∷ moves "0B 40 E1 20 FD 40 E1 21 FD 40 E1 20" 1 1 0 ∷
    moves "1B 40 E1 20 FD 40 E1 20 FD 40 E1 20 FD 40 E1 20 FD 40 E1 20 FD 40 E1 20 FD 40 E1 20" 1 0 0 ∷
    moves "07 40 E1 20 FE 40 E1 20" 1 0 0 ∷ moves "0B 40 E1 20 FE 40 E1 20 FD 40 E1 21" 1 0 0 ∷ moves "0B 40 E1 20 FD 40 E1 23 FE 40 E1 20" 1 0 0 ∷
    moves "0F 40 E1 20 FD 40 E1 23 FE 40 E1 20 FD 40 E1 21" 1 1 0 ∷
    -- always moves none
    moves "01 00" 0 0 0 ∷ moves "03 70 FA 01" 0 0 0 ∷
    -- nor does what is false, or never
    stays "01 FF" ∷ stays "03 40 E1 23" ∷ stays "07 40 E1 20 FD 40 E1 23" ∷ stays "07 40 E1 23 FD 40 E1 20" ∷ stays "07 40 E1 20 FD 70 FA 07" ∷
    stays "07 40 E1 24 FD 40 E1 20" ∷ stays "0B 40 E1 23 FE 40 E1 24 FD 40 E1 20" ∷ stays "0B 40 E1 20 FD 40 E1 25 FE 70 FB 01" ∷
    stays "13 40 E1 23 FE 70 FA 07 FD 40 E1 21 FE 40 E1 22 FD E1 FB 07" ∷ []

-- which command uses which ----------------------------------------------------------------------------------------------------

-- data and a counter of a kind, changed on E120, read on E121, executed on E122: used, LcsO and content; kind and content
unfoldable pub thrice : ℕ → ℕ → List ℕ → List ℕ
thrice used lcso content = by_hand (hex "64 00 01 00 D0 F1 04 00" ++ used ∷ 0x00 ∷ lcso ∷ hex "00") "03 40 E1 20" "03 40 E1 21" "03 40 E1 22" content

unfoldable pub thrice_counter : ℕ → List ℕ → List ℕ
thrice_counter kind content = by_hand (hex "68 00" ++ kind ∷ hex "00 30 E1 08 00 08 00 01 00") "03 40 E1 20" "03 40 E1 21" "03 40 E1 22" content

-- one command gives this response in a room of its size, with an object that becomes another, and leaves E120, E121 and E122 at these
unfoldable pub uses : List ℕ → List ℕ → List ℕ → List ℕ → ℕ → ℕ → ℕ → Case
uses c r before after x y z =
    runs (tallies 0 0 0 ++ before) (opened 0x0A) (turn c (replicate (length r) 0xEE) ∷ []) (told 0 r ∷ []) (tallies x y z ++ after) (opened 0x0A)

unfoldable pub plain : List ℕ
plain = thrice 0x03 0x01 (hex "0A 0B 0C 00")

unfoldable pub use_cases : List Case
use_cases =
    -- a get of data: the read expression, also where it answers no data
    uses (hex "01 00 00 06 F1 D0 00 00 00 03") (hex "00 00 00 03 0A 0B 0C") plain plain 0 1 0 ∷
    uses (hex "01 00 00 06 F1 D0 00 01 00 01") (hex "00 00 00 01 0B") plain plain 0 1 0 ∷
    uses (hex "01 00 00 06 F1 D0 00 03 00 05") done_empty plain plain 0 1 0 ∷
    uses (hex "01 00 00 06 F1 D0 00 00 00 00") done_empty plain plain 0 1 0 ∷
    uses (hex "01 00 00 06 F1 D0 00 00 00 03") done_empty (thrice 0x00 0x01 (hex "00 00 00 00")) (thrice 0x00 0x01 (hex "00 00 00 00")) 0 1 0 ∷
    uses (hex "01 00 00 06 E1 30 00 00 00 04") (hex "00 00 00 04 00 00 00 05")
    (thrice_counter 0x02 (hex "00 00 00 05 00 00 00 09")) (thrice_counter 0x02 (hex "00 00 00 05 00 00 00 09")) 0 1 0 ∷
    -- a write, an erase and write, a metadata write, a count: the change expression
    uses (hex "02 00 00 05 F1 D0 00 01 AA") done_empty plain (thrice 0x03 0x01 (hex "0A AA 0C 00")) 1 0 0 ∷
    uses (hex "02 40 00 05 F1 D0 00 00 BB") done_empty plain (thrice 0x01 0x01 (hex "BB 00 00 00")) 1 0 0 ∷
    uses (hex "02 01 00 07 F1 D0 20 03 C0 01 07") done_empty plain (thrice 0x03 0x07 (hex "0A 0B 0C 00")) 1 0 0 ∷
    uses (hex "02 02 00 05 E1 30 00 00 02") done_empty
    (thrice_counter 0x02 (hex "00 00 00 05 00 00 00 09")) (thrice_counter 0x02 (hex "00 00 00 07 00 00 00 09")) 1 0 0 ∷
    uses (hex "02 02 00 05 E1 30 00 00 02") done_empty
    (thrice_counter 0x04 (hex "00 00 00 05 00 00 00 01")) (thrice_counter 0x04 (hex "00 00 00 03 00 00 00 01")) 1 0 0 ∷
    uses (hex "02 00 00 0C E1 30 00 00 00 00 00 01 00 00 00 03") done_empty
    (thrice_counter 0x02 (hex "00 00 00 05 00 00 00 09")) (thrice_counter 0x02 (hex "00 00 00 01 00 00 00 03")) 1 0 0 ∷
    uses (hex "02 40 00 0C E1 30 00 00 00 00 00 01 00 00 00 03") done_empty
    (thrice_counter 0x04 (hex "00 00 00 05 00 00 00 09")) (thrice_counter 0x04 (hex "00 00 00 01 00 00 00 03")) 1 0 0 ∷
    -- a change that changes no byte
    uses (hex "02 00 00 05 F1 D0 00 00 0A") done_empty plain plain 1 0 0 ∷
    -- a get of metadata: none
    uses (hex "01 01 00 02 F1 D0") (hex "00 00 00 1C 20 1A C0 01 01 C4 02 00 04 C5 02 00 03 D0 03 40 E1 20 D1 03 40 E1 21 D3 03 40 E1 22") plain plain 0 0 0 ∷
    uses (hex "01 01 00 02 E1 20") (hex "00 00 00 16 20 14 C0 01 01 C4 02 00 08 C5 02 00 08 D0 01 00 D1 01 00 D3 01 00") plain plain 0 0 0 ∷
    talk (counter 0x20 9 9 ++ counter 0x21 9 9 ++ plain) (opened 0x00)
    (hex "01 01 00 02 F1 D0" gives hex "00 00 00 1C 20 1A C0 01 01 C4 02 00 04 C5 02 00 03 D0 03 40 E1 20 D1 03 40 E1 21 D3 03 40 E1 22" ∷ [])
    (opened 0x00) ∷
    -- what is done without a stored object, or on an object without such a condition: none
    uses (hex "01 00 00 06 E0 C0 00 00 00 01") (hex "00 00 00 01 01") plain plain 0 0 0 ∷
    uses (hex "02 00 00 05 F1 C0 00 00 01") done_empty plain plain 0 0 0 ∷
    uses (hex "01 00 00 06 E1 20 00 00 00 04") (hex "00 00 00 04 00 00 00 00") plain plain 0 0 0 ∷
    uses open_command done_empty plain plain 0 0 0 ∷
    -- the one expression does not hold, the other is asked
    talk (counter 0x20 0 1 ++ counter 0x21 0 1 ++ plain) (opened 0x0D)
    (hex "82 00 00 05 F1 D0 00 00 AA" gives done_empty ∷
    hex "02 00 00 05 F1 D0 00 00 AA" refused 0x07 leaving 0x07 ∷
    hex "02 40 00 05 F1 D0 00 00 AA" refused 0x07 leaving 0x07 ∷
    hex "02 01 00 07 F1 D0 20 03 C0 01 07" refused 0x07 leaving 0x07 ∷
    hex "02 02 00 05 F1 D0 00 00 01" refused 0x07 leaving 0x07 ∷
    hex "81 00 00 06 F1 D0 00 00 00 03" gives hex "00 00 00 03 AA 0B 0C" ∷
    hex "01 00 00 06 F1 D0 00 00 00 03" refused 0x07 leaving 0x07 ∷
    hex "01 00 00 06 E1 20 00 00 00 04" gives hex "00 00 00 04 00 00 00 01" ∷
    hex "01 00 00 06 E1 21 00 00 00 04" gives hex "00 00 00 04 00 00 00 01" ∷ [])
    (opened 0x07) ∷ []

-- what is refused moves nothing -----------------------------------------------------------------------------------------------

-- a counter that may be used once for every command on F1D0, and on a counter at its threshold
unfoldable pub once : List ℕ
once = counter 0x20 0 1 ++ guarded_counter 0x21 "03 40 E1 20" "03 40 E1 20" (hex "00 00 00 09 00 00 00 09") ++ guarded 0xD0 "03 40 E1 20" "03 40 E1 20"

unfoldable pub refused_cases : List Case
refused_cases =
    -- after the grant: 03 of a count on data; 05 of metadata content
    talk once (opened 0x00)
    (hex "02 02 00 05 F1 D0 00 00 01" refused 0x03 leaving 0x03 ∷
    hex "02 01 00 07 F1 D0 20 03 C0 01 02" refused 0x05 leaving 0x05 ∷
    hex "02 01 00 07 F1 D0 20 04 C0 01 03" refused 0x05 leaving 0x05 ∷
    hex "02 01 00 09 F1 D0 20 05 D0 03 41 E1 20" refused 0x05 leaving 0x05 ∷
    hex "02 01 00 0C F1 D0 20 08 D0 03 40 E1 21 D1 01 01" refused 0x05 leaving 0x05 ∷
    -- 08 of a write, an erase and write, a get, a count
    hex "02 00 00 05 F1 D0 00 04 AA" refused 0x08 leaving 0x08 ∷
    hex "02 40 00 05 F1 D0 00 04 AA" refused 0x08 leaving 0x08 ∷
    hex "01 00 00 06 F1 D0 00 04 00 00" refused 0x08 leaving 0x08 ∷
    hex "02 00 00 05 E1 21 00 00 01" refused 0x08 leaving 0x08 ∷
    hex "02 02 00 05 E1 21 00 00 01" refused 0x08 leaving 0x08 ∷
    hex "02 02 00 05 E1 21 00 01 01" refused 0x08 leaving 0x08 ∷
    -- 0D, the last error as ever
    in_room 6 (hex "01 00 00 06 F1 D0 00 00 00 03" refused 0x0D leaving 0x0D) ∷
    in_room 4 (hex "01 00 00 06 F1 D0 00 02 00 01" refused 0x0D leaving 0x0D) ∷
    in_room 4 (hex "02 00 00 05 F1 D0 00 04 AA" refused 0x08 leaving 0x0D) ∷
    in_room 4 (hex "82 02 00 05 F1 D0 00 00 01" refused 0x03 leaving 0x03) ∷
    -- before the grant: 01, 04, 0A, 03
    hex "02 00 00 05 F1 D1 00 00 AA" refused 0x01 leaving 0x03 ∷
    hex "02 00 00 04 F1 D0 00 00" refused 0x04 leaving 0x04 ∷
    hex "03 00 00 05 F1 D0 00 00 AA" refused 0x0A leaving 0x0A ∷
    hex "01 02 00 06 F1 D0 00 00 00 03" refused 0x03 leaving 0x0A ∷
    -- no response, no step
    unanswered_in 3 (hex "02 00 00 05 F1 D0 00 00 AA") ∷
    unanswered_in 0 (hex "81 00 00 06 F1 D0 00 00 00 03") ∷
    -- so that the counter still is at 0; and then it is used up
    hex "01 00 00 06 E1 20 00 00 00 08" gives hex "00 00 00 08 00 00 00 00 00 00 00 01" ∷
    in_room 7 (hex "01 00 00 06 F1 D0 00 00 00 03" gives hex "00 00 00 03 0A 0B 0C") ∷
    hex "01 00 00 06 E1 20 00 00 00 08" gives hex "00 00 00 08 00 00 00 01 00 00 00 01" ∷
    -- 07, before 03, 05, 08 and 0D
    hex "82 02 00 05 F1 D0 00 00 01" refused 0x07 leaving 0x07 ∷
    hex "82 01 00 07 F1 D0 20 03 C0 01 02" refused 0x07 leaving 0x07 ∷
    hex "82 00 00 05 F1 D0 00 04 AA" refused 0x07 leaving 0x07 ∷
    in_room 4 (hex "81 00 00 06 F1 D0 00 00 00 03" refused 0x07 leaving 0x07) ∷
    hex "01 00 00 06 E1 20 00 00 00 08" gives hex "00 00 00 08 00 00 00 01 00 00 00 01" ∷ [])
    (opened 0x07) ∷
    -- closed, and a session of no such state
    talk once (closed 0x00) (hex "02 00 00 05 F1 D0 00 00 AA" refused 0x0C leaving 0x0C ∷ []) (closed 0x0C) ∷
    talk once (session true 0x02 0x01 0x00) (hex "02 00 00 05 F1 D0 00 00 AA" refused 0x06 leaving 0x06 ∷ []) (session true 0x02 0x01 0x06) ∷ []

-- a counter on its own condition, and its step --------------------------------------------------------------------------------

-- E120, changed on itself
unfoldable pub own : List ℕ → List ℕ
own content = guarded_counter 0x20 "03 40 E1 20" "01 00" content

-- at 3 of 9, after one command it has this content
unfoldable pub own_after : List ℕ → List ℕ → Case
own_after c content = stores (own (hex "00 00 00 03 00 00 00 09")) (opened 0x00) (c gives done_empty ∷ []) (own content)

unfoldable pub own_cases : List Case
own_cases =
    -- a read shows it before its step, also in part, and no byte of it steps it too
    talk (guarded_counter 0x20 "01 00" "03 40 E1 20" (hex "00 00 00 FE 00 00 01 02")) (opened 0x00)
    (hex "01 00 00 06 E1 20 00 00 00 08" gives hex "00 00 00 08 00 00 00 FE 00 00 01 02" ∷
    hex "01 00 00 06 E1 20 00 03 00 01" gives hex "00 00 00 01 FF" ∷
    hex "01 00 00 06 E1 20 00 08 00 01" gives done_empty ∷
    hex "01 00 00 06 E1 20 00 00 00 04" gives hex "00 00 00 04 00 00 01 01" ∷
    hex "01 00 00 06 E1 20 00 00 00 04" refused 0x07 leaving 0x07 ∷ [])
    (opened 0x07) ∷
    -- a write, and an erase and write: below, one below, at and above the threshold that it brings
    own_after (hex "02 00 00 0C E1 20 00 00 00 00 00 02 00 00 00 07") (hex "00 00 00 03 00 00 00 07") ∷
    own_after (hex "02 00 00 0C E1 20 00 00 00 00 00 06 00 00 00 07") (hex "00 00 00 07 00 00 00 07") ∷
    own_after (hex "02 00 00 0C E1 20 00 00 00 00 00 07 00 00 00 07") (hex "00 00 00 07 00 00 00 07") ∷
    own_after (hex "02 00 00 0C E1 20 00 00 00 00 00 0A 00 00 00 07") (hex "00 00 00 07 00 00 00 07") ∷
    own_after (hex "02 40 00 0C E1 20 00 00 00 00 00 02 00 00 00 07") (hex "00 00 00 03 00 00 00 07") ∷
    own_after (hex "02 40 00 0C E1 20 00 00 00 00 00 06 00 00 00 07") (hex "00 00 00 07 00 00 00 07") ∷
    own_after (hex "02 40 00 0C E1 20 00 00 00 00 00 07 00 00 00 07") (hex "00 00 00 07 00 00 00 07") ∷
    own_after (hex "02 40 00 0C E1 20 00 00 00 00 00 0A 00 00 00 07") (hex "00 00 00 07 00 00 00 07") ∷
    own_after (hex "02 00 00 0C E1 20 00 00 FF FF FF FE FF FF FF FF") (hex "FF FF FF FF FF FF FF FF") ∷
    own_after (hex "02 00 00 0C E1 20 00 00 FF FF FF FF FF FF FF FF") (hex "FF FF FF FF FF FF FF FF") ∷
    own_after (hex "02 40 00 0C E1 20 00 00 FF FF FF FF 00 00 00 00") (hex "00 00 00 00 00 00 00 00") ∷
    -- without refusal; and then its condition does not hold
    talk (own (hex "00 00 00 03 00 00 00 09")) (opened 0x00)
    (hex "02 00 00 0C E1 20 00 00 00 00 00 0A 00 00 00 07" gives done_empty ∷
    hex "02 00 00 0C E1 20 00 00 00 00 00 00 00 00 00 07" refused 0x07 leaving 0x07 ∷
    hex "02 02 00 05 E1 20 00 00 01" refused 0x07 leaving 0x07 ∷ [])
    (opened 0x07) ∷
    -- a count adds its step, and then there is one more, to the threshold at most
    own_after (hex "02 02 00 05 E1 20 00 00 03") (hex "00 00 00 07 00 00 00 09") ∷
    own_after (hex "02 02 00 05 E1 20 00 00 00") (hex "00 00 00 04 00 00 00 09") ∷
    own_after (hex "02 02 00 05 E1 20 00 00 05") (hex "00 00 00 09 00 00 00 09") ∷
    own_after (hex "02 02 00 05 E1 20 00 00 06") (hex "00 00 00 09 00 00 00 09") ∷
    own_after (hex "02 02 00 05 E1 20 00 00 FF") (hex "00 00 00 09 00 00 00 09") ∷
    -- a metadata write steps it too, and stores what it brings
    stores (own (hex "00 00 00 03 00 00 00 09")) (opened 0x00) (hex "02 01 00 0A E1 20 20 06 D0 01 FF D1 01 FF" gives done_empty ∷ [])
    (guarded_counter 0x20 "01 FF" "01 FF" (hex "00 00 00 04 00 00 00 09")) ∷
    -- named beside another: the one as stored, the other as written; on another alone, it is as written
    stores (guarded_counter 0x20 "07 40 E1 20 FD 40 E1 21" "01 00" (hex "00 00 00 03 00 00 00 09") ++ counter 0x21 0 9) (opened 0x00)
    (hex "02 00 00 0C E1 20 00 00 00 00 00 05 00 00 00 08" gives done_empty ∷ [])
    (guarded_counter 0x20 "07 40 E1 20 FD 40 E1 21" "01 00" (hex "00 00 00 06 00 00 00 08") ++ counter 0x21 1 9) ∷
    stores (guarded_counter 0x20 "03 40 E1 21" "01 00" (hex "00 00 00 03 00 00 00 09") ++ counter 0x21 0 9) (opened 0x00)
    (hex "02 00 00 0C E1 20 00 00 00 00 00 0A 00 00 00 08" gives done_empty ∷ [])
    (guarded_counter 0x20 "03 40 E1 21" "01 00" (hex "00 00 00 0A 00 00 00 08") ++ counter 0x21 1 9) ∷
    -- in a group that does not decide, it is as written
    stores (guarded_counter 0x20 "07 40 E1 21 FE 40 E1 20" "01 00" (hex "00 00 00 03 00 00 00 09") ++ counter 0x21 0 9) (opened 0x00)
    (hex "02 40 00 0C E1 20 00 00 00 00 00 05 00 00 00 08" gives done_empty ∷ [])
    (guarded_counter 0x20 "07 40 E1 21 FE 40 E1 20" "01 00" (hex "00 00 00 05 00 00 00 08") ++ counter 0x21 1 9) ∷ []

-- after one read of F1D0 on E120, that counter's content
unfoldable pub steps : List ℕ → List ℕ → Case
steps before after =
    stores (up_counter 0x20 before ++ guarded 0xD0 "01 00" "03 40 E1 20") (opened 0x00)
    (hex "01 00 00 06 F1 D0 00 00 00 03" gives hex "00 00 00 03 0A 0B 0C" ∷ []) (up_counter 0x20 after ++ guarded 0xD0 "01 00" "03 40 E1 20")

-- an up counter whose own conditions grant nothing, at LcsO 0F
unfoldable pub sealed : List ℕ → List ℕ
sealed content = by_hand (hex "68 00 02 00 20 E1 08 00 08 00 0F 00") "01 FF" "01 FF" "01 FF" content

unfoldable pub step_cases : List Case
step_cases =
    -- one, to the threshold exactly, over all four bytes; the threshold stays
    steps (hex "00 00 00 00 00 00 00 09") (hex "00 00 00 01 00 00 00 09") ∷ steps (hex "00 00 00 07 00 00 00 09") (hex "00 00 00 08 00 00 00 09") ∷
    steps (hex "00 00 00 08 00 00 00 09") (hex "00 00 00 09 00 00 00 09") ∷ steps (hex "00 00 00 FF 01 02 03 04") (hex "00 00 01 00 01 02 03 04") ∷
    steps (hex "00 00 FF FF 80 00 00 00") (hex "00 01 00 00 80 00 00 00") ∷ steps (hex "00 FF FF FF FF FF FF FF") (hex "01 00 00 00 FF FF FF FF") ∷
    steps (hex "FF FF FF FD FF FF FF FF") (hex "FF FF FF FE FF FF FF FF") ∷ steps (hex "FF FF FF FE FF FF FF FF") (hex "FF FF FF FF FF FF FF FF") ∷
    -- the last use is enough where it is named twice
    stores (counter 0x20 8 9 ++ guarded 0xD0 "01 00" "07 40 E1 20 FD 40 E1 20") (opened 0x00)
    (hex "01 00 00 06 F1 D0 00 00 00 03" gives hex "00 00 00 03 0A 0B 0C" ∷ []) (counter 0x20 9 9 ++ guarded 0xD0 "01 00" "07 40 E1 20 FD 40 E1 20") ∷
    -- the counter's own conditions do not matter, and stay
    stores (sealed (hex "00 00 00 00 00 00 00 09") ++ guarded 0xD0 "03 40 E1 20" "01 00") (opened 0x00)
    (hex "02 00 00 05 F1 D0 00 03 AA" gives done_empty ∷ [])
    (sealed (hex "00 00 00 01 00 00 00 09") ++
    by_hand (hex "64 00 01 00 D0 F1 04 00 04 00 01 00") "03 40 E1 20" "01 00" "01 00" (hex "0A 0B 0C AA")) ∷
    -- nor do the conditions of a counter that steps use up others
    stores (guarded_counter 0x20 "03 40 E1 21" "03 40 E1 21" (hex "00 00 00 00 00 00 00 09") ++ counter 0x21 0 9 ++ guarded 0xD0 "01 00" "03 40 E1 20")
    (opened 0x00) (hex "01 00 00 06 F1 D0 00 00 00 03" gives hex "00 00 00 03 0A 0B 0C" ∷ [])
    (guarded_counter 0x20 "03 40 E1 21" "03 40 E1 21" (hex "00 00 00 01 00 00 00 09") ++ counter 0x21 0 9 ++ guarded 0xD0 "01 00" "03 40 E1 20") ∷
    -- until it is used up, whoever uses it; a write of the counter opens it again
    talk (counter 0x20 0 3 ++ guarded 0xD0 "03 40 E1 20" "03 40 E1 20") (opened 0x00)
    (hex "02 00 00 05 F1 D0 00 00 AA" gives done_empty ∷
    hex "01 00 00 06 F1 D0 00 00 00 01" gives hex "00 00 00 01 AA" ∷
    hex "02 02 00 05 E1 20 00 00 01" gives done_empty ∷
    hex "01 00 00 06 F1 D0 00 00 00 01" refused 0x07 leaving 0x07 ∷
    hex "02 00 00 0C E1 20 00 00 00 00 00 03 00 00 00 04" gives done_empty ∷
    hex "01 00 00 06 F1 D0 00 00 00 01" gives hex "00 00 00 01 AA" ∷
    hex "01 00 00 06 F1 D0 00 00 00 01" refused 0x07 leaving 0x07 ∷
    hex "01 00 00 06 E1 20 00 00 00 08" gives hex "00 00 00 08 00 00 00 04 00 00 00 04" ∷ [])
    (opened 0x07) ∷
    -- one of a group that is used up denies it, and the other is spared
    talk (counter 0x20 0 1 ++ counter 0x21 0 9 ++ guarded 0xD0 "01 00" "07 40 E1 20 FD 40 E1 21") (opened 0x00)
    (hex "01 00 00 06 F1 D0 00 00 00 01" gives hex "00 00 00 01 0A" ∷
    hex "01 00 00 06 F1 D0 00 00 00 01" refused 0x07 leaving 0x07 ∷
    hex "01 00 00 06 E1 21 00 00 00 04" gives hex "00 00 00 04 00 00 00 01" ∷ [])
    (opened 0x07) ∷ []

-- metadata and lists --------------------------------------------------------------------------------------------------------

unfoldable pub stored_expression_cases : List Case
stored_expression_cases =
    -- a metadata write is judged by the stored expression and LcsO and moves that one's counters; the new one is stored
    stores (tallies 0 0 0 ++ guarded 0xD0 "03 40 E1 20" "01 00") (opened 0x00)
    (hex "02 01 00 09 F1 D0 20 05 D0 03 40 E1 21" gives done_empty ∷ []) (tallies 1 0 0 ++ guarded 0xD0 "03 40 E1 21" "01 00") ∷
    stores (tallies 0 0 0 ++ guarded 0xD0 "03 40 E1 20" "01 00") (opened 0x00)
    (hex "02 01 00 0E F1 D0 20 0A D0 03 40 E1 23 D1 03 40 E1 22" gives done_empty ∷ []) (tallies 1 0 0 ++ guarded 0xD0 "03 40 E1 23" "03 40 E1 22") ∷
    stores (tallies 0 0 0 ++ guarded 0xD0 "01 00" "01 00") (opened 0x00)
    (hex "02 01 00 09 F1 D0 20 05 D0 03 40 E1 21" gives done_empty ∷ []) (tallies 0 0 0 ++ guarded 0xD0 "03 40 E1 21" "01 00") ∷
    stores (tallies 0 0 0 ++ guarded 0xD0 "0B 40 E1 20 FD E1 FC 07 FE 40 E1 21" "01 00") (opened 0x00)
    (hex "02 01 00 07 F1 D0 20 03 C0 01 07" gives done_empty ∷ hex "02 01 00 07 F1 D0 20 03 C0 01 07" gives done_empty ∷ [])
    (tallies 1 1 0 ++
    by_hand (hex "64 00 01 00 D0 F1 04 00 03 00 07 00") "0B 40 E1 20 FD E1 FC 07 FE 40 E1 21" "01 00" "01 00" (hex "0A 0B 0C 00")) ∷
    talk (tallies 0 0 0 ++ guarded 0xD0 "03 40 E1 23" "01 00" ++ guarded 0xD1 "03 40 E1 20" "01 00") (opened 0x00)
    (hex "02 01 00 09 F1 D0 20 05 D0 03 40 E1 20" refused 0x07 leaving 0x07 ∷
    hex "02 01 00 07 F1 D0 20 03 D0 01 00" refused 0x07 leaving 0x07 ∷
    hex "02 01 00 09 F1 D1 20 05 D0 03 40 E1 23" gives done_empty ∷
    hex "02 01 00 07 F1 D1 20 03 D0 01 00" refused 0x07 leaving 0x07 ∷ [])
    (opened 0x07) ∷
    -- metadata read back and sent in, without C4 and C5, moves the counters of the change expression and changes nothing else
    talk (tallies 0 0 0 ++ guarded 0xD0 "07 40 E1 20 FD 40 E1 22" "03 40 E1 21") (opened 0x00)
    (hex "01 01 00 02 F1 D0" gives hex "00 00 00 1E 20 1C C0 01 01 C4 02 00 04 C5 02 00 03 D0 07 40 E1 20 FD 40 E1 22 D1 03 40 E1 21 D3 01 00" ∷ [])
    (opened 0x00) ∷
    stores (tallies 0 0 0 ++ guarded 0xD0 "07 40 E1 20 FD 40 E1 22" "03 40 E1 21") (opened 0x00)
    (hex "02 01 00 18 F1 D0 20 14 C0 01 01 D0 07 40 E1 20 FD 40 E1 22 D1 03 40 E1 21 D3 01 00" gives done_empty ∷ [])
    (tallies 1 0 1 ++ guarded 0xD0 "07 40 E1 20 FD 40 E1 22" "03 40 E1 21") ∷
    -- of a counter on its own condition too
    stores (own (hex "00 00 00 03 00 00 00 09")) (opened 0x00)
    (hex "02 01 00 12 E1 20 20 0E C0 01 01 D0 03 40 E1 20 D1 01 00 D3 01 00" gives done_empty ∷ []) (own (hex "00 00 00 04 00 00 00 09")) ∷
    -- a list: each command sees the counters as the one before left them, also after a refusal or outcome 1
    runs (counter 0x20 0 2 ++ counter 0x21 0 9 ++ guarded 0xD0 "07 40 E1 20 FE 40 E1 21" "03 40 E1 20") (opened 0x00)
    (turn (hex "01 00 00 06 F1 D0 00 00 00 01") (hex "EE EE EE EE") ∷
    turn (hex "01 00 00 06 F1 D0 00 00 00 01") (hex "11 22 33") ∷
    turn (hex "01 00 00 06 F1 D0 00 00 00 01") (hex "EE EE EE EE EE") ∷
    turn (hex "02 00 00 05 F1 D0 00 00 AA") (hex "11 22 33 44 55") ∷
    turn (hex "01 00 00 06 F1 D0 00 00 00 01") (hex "EE EE EE EE EE") ∷
    turn (hex "82 00 00 05 F1 D0 00 01 BB") (hex "EE EE EE EE") ∷
    turn (hex "01 00 00 06 E1 20 00 00 00 04") (hex "EE EE EE EE EE EE EE EE") ∷ [])
    (told 0 (hex "FF 00 00 00") ∷
    told 1 (hex "11 22 33") ∷
    told 0 (hex "00 00 00 01 0A") ∷
    told 0 (hex "00 00 00 00 55") ∷
    told 0 (hex "FF 00 00 00 EE") ∷
    told 0 (hex "00 00 00 00") ∷
    told 0 (hex "00 00 00 04 00 00 00 02") ∷ [])
    (counter 0x20 2 2 ++ counter 0x21 1 9 ++
    by_hand (hex "64 00 01 00 D0 F1 04 00 03 00 01 00") "07 40 E1 20 FE 40 E1 21" "03 40 E1 20" "01 00" (hex "AA BB 0C 00"))
    (opened 0x00) ∷ []
