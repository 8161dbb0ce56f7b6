-- Cases that antt computes from the rules of the remainder. What they expect was worked out elsewhere, by a long division of the bits.
use Rattle.std.specs.Prelude.{ℕ, Bool, true, ◌&&◌, List, [], ◌∷◌, ◌++◌, eqb, length, get_or, replicate}
use Rattle.rules.specs.Hex.{hex, ascii}
use Rattle.remainder.specs.Remainder.{bit_step, eight_steps, entries, table, with_byte, remainder_from, remainder}

pub data Case : Type 0 where
  -- one bit, and eight, make the second of the first
  bit : ℕ → ℕ → Case
  eight : ℕ → ℕ → Case
  -- this number with this byte
  byte : ℕ → ℕ → ℕ → Case
  -- this number with these bytes
  goes_on : ℕ → List ℕ → ℕ → Case
  -- these bytes have this remainder
  remains : List ℕ → ℕ → Case
  -- so many entries from this index on, and the entry at this place among them; the same of the table
  listed : ℕ → ℕ → ℕ → ℕ → Case
  tabled : ℕ → ℕ → Case
  -- how many entries there are, and how many in the table
  as_many : ℕ → ℕ → ℕ → Case
  table_of : ℕ → Case

unfoldable pub right : Case → Bool
right (bit x y) = eqb (bit_step x) y
right (eight x y) = eqb (eight_steps x) y
right (byte x b y) = eqb (with_byte x b) y
right (goes_on x bs y) = eqb (remainder_from x bs) y
right (remains bs y) = eqb (remainder bs) y
right (listed n i k y) = eqb (get_or (entries n i) k 0x10000) y
right (tabled k y) = eqb (get_or table k 0x10000) y
right (as_many n i k) = eqb (length (entries n i)) k
right (table_of k) = eqb (length table) k

unfoldable pub all_right : List Case → Bool
all_right [] = true
all_right (c ∷ cs) = right c && all_right cs

unfoldable pub remainder_cases : List Case
remainder_cases =
    -- a bit: 0 falls out and the rest is halved; 1 falls out and 8408 comes in
    bit 0x0000 0x0000 ∷ bit 0x0002 0x0001 ∷ bit 0x8000 0x4000 ∷ bit 0x0810 0x0408 ∷ bit 0x8408 0x4204 ∷ bit 0x7FFE 0x3FFF ∷ bit 0x0001 0x8408 ∷
    bit 0x0003 0x8409 ∷ bit 0x0811 0x8000 ∷ bit 0xFFFF 0xFBF7 ∷
    -- eight bits: the high byte comes down, the low byte is divided
    eight 0x0000 0x0000 ∷ eight 0x0100 0x0001 ∷ eight 0x8000 0x0080 ∷ eight 0x0001 0x1189 ∷ eight 0x0080 0x8408 ∷ eight 0x1234 0x77B5 ∷
    eight 0xFFFF 0x0F87 ∷
    -- a byte meets the low bits
    byte 0x0000 0x00 0x0000 ∷ byte 0x0000 0x01 0x1189 ∷ byte 0x0001 0x01 0x0000 ∷ byte 0x0001 0x00 0x1189 ∷ byte 0x0003 0x01 0x2312 ∷
    byte 0x1234 0x41 0x2438 ∷ byte 0xFFFF 0x00 0x0F87 ∷
    -- the bits of a byte, the lowest first
    remains (hex "80") 0x8408 ∷ remains (hex "40") 0x4204 ∷ remains (hex "20") 0x2102 ∷ remains (hex "10") 0x1081 ∷ remains (hex "08") 0x8C48 ∷
    remains (hex "04") 0x4624 ∷ remains (hex "02") 0x2312 ∷ remains (hex "01") 0x1189 ∷
    -- the start is 0 and the end as it is; zeros in front are not seen, zeros behind are
    remains [] 0x0000 ∷ remains (hex "00") 0x0000 ∷ remains (hex "00 01") 0x1189 ∷ remains (hex "01 00") 0x19D8 ∷ remains (hex "FF") 0x0F78 ∷
    remains (hex "FF FF") 0xF0B8 ∷ remains (replicate 300 0x00) 0x0000 ∷
    -- bytes one after another, each once
    remains (ascii "A") 0x538D ∷ remains (ascii "12") 0xBDEB ∷ remains (ascii "21") 0xA518 ∷ remains (ascii "Dock") 0xB939 ∷
    remains (ascii "123456789") 0x2189 ∷ remains (ascii "123456789123456789123456789123456789") 0x7217 ∷
    -- behind its bytes, least significant byte first, a remainder leaves 0
    remains (ascii "123456789" ++ hex "89 21") 0x0000 ∷ remains (ascii "123456789" ++ hex "21 89") 0x487D ∷
    -- from any number on
    goes_on 0x1234 [] 0x1234 ∷ goes_on 0x1234 (ascii "A") 0x2438 ∷ goes_on 0xFFFF (ascii "AB") 0xCE10 ∷ goes_on 0xFFFF (ascii "123456789") 0x6F91 ∷
    -- the table: an entry for each byte
    as_many 0 5 0 ∷ as_many 3 5 3 ∷ listed 3 5 0 0x57AD ∷ listed 3 5 2 0x74BF ∷ table_of 256 ∷ tabled 0x00 0x0000 ∷ tabled 0x01 0x1189 ∷
    tabled 0x0F 0xF8F7 ∷ tabled 0x7F 0x8B70 ∷ tabled 0x80 0x8408 ∷ tabled 0xA5 0xF2A7 ∷ tabled 0xFF 0x0F78 ∷ []
