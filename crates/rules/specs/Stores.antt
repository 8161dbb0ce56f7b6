-- Stores written byte by byte, for cases: no rule's own function is used.
use Rattle.std.specs.Prelude.{ℕ, zero, suc, ◌-◌, List, [], ◌∷◌, ◌++◌, length, replicate}
use Prim.Native.String.{String}
use Rattle.rules.specs.Basic.{zeros}
use Rattle.rules.specs.Hex.{hex}

-- zeros to the end of n bytes
unfoldable pub padded : ℕ → List ℕ → List ℕ
padded n b = b ++ zeros (n - length b)

-- a record: its first 12 bytes, three slots of 28, its data
unfoldable pub by_hand : List ℕ → String → String → String → List ℕ → List ℕ
by_hand head change read execute content = head ++ padded 28 (hex change) ++ padded 28 (hex read) ++ padded 28 (hex execute) ++ content

-- F1D0, four bytes of which three are used: changed below operational, read always
unfoldable pub first_record : List ℕ
first_record = by_hand (hex "64 00 01 00 D0 F1 04 00 03 00 01 00") "03 E1 FC 07" "01 00" "01 00" (hex "0A 0B 0C 00")

-- F1D1: changed always, read never
unfoldable pub second_record : List ℕ
second_record = by_hand (hex "64 00 01 00 D1 F1 04 00 03 00 03 00") "01 00" "01 FF" "03 70 FA 01" (hex "0D 0E 0F 00")

-- F1D2, full: changed never, read at operational and later
unfoldable pub third_record : List ℕ
third_record = by_hand (hex "64 00 01 00 D2 F1 04 00 04 00 07 00") "01 FF" "03 E1 FB 03" "01 00" (hex "01 02 03 04")

unfoldable pub three : List ℕ
three = first_record ++ second_record ++ third_record

-- F1D0, 300 bytes of which 258 are used
unfoldable pub large : List ℕ
large = by_hand (hex "8C 01 01 00 D0 F1 2C 01 02 01 01 00") "01 00" "01 00" "01 00" (replicate 256 0x55 ++ hex "AB CD" ++ zeros 42)

-- a record of maximum 1, and one of 1,500, numbered k
unfoldable pub smallest : ℕ → List ℕ
smallest k = by_hand (hex "61 00 01 00" ++ k ∷ hex "00 01 00 00 00 01 00") "01 00" "01 00" "01 00" (hex "00")

unfoldable pub largest : ℕ → List ℕ
largest k = by_hand (hex "3C 06 01 00" ++ k ∷ hex "00 DC 05 00 00 01 00") "01 00" "01 00" "01 00" (zeros 1500)

-- a counter that counts up, and one that counts down, of these 8 bytes, under its number's low byte: changed and read always
unfoldable pub up_counter : ℕ → List ℕ → List ℕ
up_counter k content = by_hand (hex "68 00 02 00" ++ k ∷ hex "E1 08 00 08 00 01 00") "01 00" "01 00" "01 00" content

unfoldable pub down_counter : ℕ → List ℕ → List ℕ
down_counter k content = by_hand (hex "68 00 04 00" ++ k ∷ hex "E1 08 00 08 00 01 00") "01 00" "01 00" "01 00" content

-- data of which three bytes of four are used, and a counter that counts up of these 8 bytes, under the number's low byte: changed and read on these
unfoldable pub guarded : ℕ → String → String → List ℕ
guarded k change read = by_hand (hex "64 00 01 00" ++ k ∷ hex "F1 04 00 03 00 01 00") change read "01 00" (hex "0A 0B 0C 00")

unfoldable pub guarded_counter : ℕ → String → String → List ℕ → List ℕ
guarded_counter k change read content = by_hand (hex "68 00 02 00" ++ k ∷ hex "E1 08 00 08 00 01 00") change read "01 00" content

-- a queue under its number's low byte, with the two bytes of its record's length, of its maximum and of its used: changed and read on these; always
unfoldable pub guarded_queue : ℕ → String → String → List ℕ → List ℕ → List ℕ → List ℕ → List ℕ
guarded_queue k change read long maximum used content =
    by_hand (long ++ hex "03 00" ++ k ∷ hex "E1" ++ maximum ++ used ++ hex "01 00") change read "01 00" content

unfoldable pub queue_record : ℕ → List ℕ → List ℕ → List ℕ → List ℕ → List ℕ
queue_record k long maximum used content = guarded_queue k "01 00" "01 00" long maximum used content

-- of maximum 40, with so many bytes used; zeros behind what is given
unfoldable pub guarded_40 : ℕ → String → String → ℕ → List ℕ → List ℕ
guarded_40 k change read used content = guarded_queue k change read (hex "88 00") (hex "28 00") (used ∷ hex "00") (padded 40 content)

unfoldable pub queue_40 : ℕ → ℕ → List ℕ → List ℕ
queue_40 k used content = guarded_40 k "01 00" "01 00" used content

-- n records, numbered from k on
unfoldable pub many : (ℕ → List ℕ) → ℕ → ℕ → List ℕ
many r zero k = []
many r (suc n) k = r k ++ many r n (suc k)

-- the factory's records of 140 and of 1,500 bytes, under their numbers' low byte
unfoldable pub factory_140 : ℕ → List ℕ
factory_140 k = by_hand (hex "EC 00 01 00" ++ k ∷ hex "F1 8C 00 00 00 01 00") "03 E1 FC 07" "01 00" "01 00" (zeros 140)

unfoldable pub factory_1500 : ℕ → List ℕ
factory_1500 k = by_hand (hex "3C 06 01 00" ++ k ∷ hex "F1 DC 05 00 00 01 00") "03 E1 FC 07" "01 00" "01 00" (zeros 1500)

unfoldable pub factory_by_hand : List ℕ
factory_by_hand = many factory_140 12 0xD0 ++ many factory_1500 2 0xE0

-- the metadata of F1D0 and F1D1 of `three`
unfoldable pub first_metadata : List ℕ
first_metadata = hex "00 00 00 18 20 16 C0 01 01 C4 02 00 04 C5 02 00 03 D0 03 E1 FC 07 D1 01 00 D3 01 00"

unfoldable pub second_metadata : List ℕ
second_metadata = hex "00 00 00 18 20 16 C0 01 03 C4 02 00 04 C5 02 00 03 D0 01 00 D1 01 FF D3 03 70 FA 01"
