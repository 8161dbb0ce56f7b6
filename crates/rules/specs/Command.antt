-- Command and response bytes: a command's parts, and the command table.
use Rattle.std.specs.Prelude.{ℕ, ◌%◌, Bool, true, false, ◌&&◌, ◌||◌, List, [], ◌∷◌, ◌++◌, eqb, leb, length, get_or, drop, if◌then◌else◌}
use Rattle.std.proofs.Math.Option.{Option, none, some}
use Rattle.rules.specs.declared.Action.TheVariants.{GetData, GetMetadata, Write, EraseAndWrite, SetMetadata, Count, Append, Acknowledge}
use Rattle.rules.specs.declared.Sizes.{Sizes}
use Rattle.rules.specs.declared.Row.{Row}
use Rattle.rules.specs.declared.Row.TheVariants.{OnObject, OpenApplication, CloseApplication, Unknown}
use Rattle.rules.specs.Basic.{same, big_endian_at, big_endian_4_at}
use Rattle.rules.specs.Hex.{hex, ascii}

-- Cmd (1), Param (1), InLen (2), InData --------------------------------------------------------------------------------

-- the flush bit: the top bit of Cmd; an empty command has no Cmd and flushes nothing
unfoldable pub asks_flush : List ℕ → Bool
asks_flush c = leb 0x80 (get_or c 0 0)

-- Cmd, the flush bit aside
unfoldable pub cmd : List ℕ → ℕ
cmd c = get_or c 0 0 % 0x80

unfoldable pub param : List ℕ → ℕ
param c = get_or c 1 0

unfoldable pub in_length : List ℕ → ℕ
in_length c = big_endian_at 2 c

unfoldable pub in_data : List ℕ → List ℕ
in_data c = drop 4 c

-- the command table ----------------------------------------------------------------------------------------------------

-- how many bytes InData may have
abbrev pub between : ℕ → ℕ → Sizes
between n m = record { least = n; most = m }

abbrev pub exactly : ℕ → Sizes
exactly n = between n n

-- InLen is a number of two bytes
abbrev pub at_least : ℕ → Sizes
at_least n = between n 0xFFFF

-- so many bytes are right
unfoldable pub size_right : Sizes → ℕ → Bool
size_right z n = leb z.least n && leb n z.most

-- what an open must send
unfoldable pub identifier : List ℕ
identifier = hex "D2 76 00 00 04" ++ ascii "GenAuthAppl"

-- InData that only later steps judge
unfoldable pub anything : List ℕ → Bool
anything b = true

-- a line of the table: Cmd, Param, the size of InData (step 7), what it must be (step 8), and the row's name
pub record Line : Type 0 where
  pub cmd : ℕ
  pub param : ℕ
  pub sizes : Sizes
  pub takes : List ℕ → Bool
  pub row : Row

unfoldable pub table_line : ℕ → ℕ → Sizes → (List ℕ → Bool) → Row → Line
table_line c p n t r = record { cmd = c; param = p; sizes = n; takes = t; row = r }

unfoldable pub command_table : List Line
command_table =
    -- get data: object 2, offset 2, length 2
    table_line 0x01 0x00 (exactly 6) anything (OnObject GetData) ∷
    -- get metadata: object 2
    table_line 0x01 0x01 (exactly 2) anything (OnObject GetMetadata) ∷
    -- write, erase and write: object 2, offset 2, one byte or more
    table_line 0x02 0x00 (at_least 5) anything (OnObject Write) ∷
    table_line 0x02 0x40 (at_least 5) anything (OnObject EraseAndWrite) ∷
    -- set metadata: object 2, then 20, L, L bytes: at least 4; a wrong 20 or L waits for step 12
    table_line 0x02 0x01 (at_least 4) anything (OnObject SetMetadata) ∷
    -- count: object 2, offset 2, one step byte
    table_line 0x02 0x02 (exactly 5) anything (OnObject Count) ∷
    -- append: object 2, a body of 1 to 200 bytes
    table_line 0x02 0x04 (between 3 202) anything (OnObject Append) ∷
    -- acknowledge: object 2, number 4
    table_line 0x02 0x05 (exactly 6) anything (OnObject Acknowledge) ∷
    -- open: D2 76 00 00 04, then "GenAuthAppl" in ASCII (16 bytes)
    table_line 0x70 0x00 (exactly 16) (same identifier) OpenApplication ∷
    -- close: nothing
    table_line 0x71 0x00 (exactly 0) anything CloseApplication ∷ []

-- some line has this Cmd
unfoldable pub known_cmd : List Line → ℕ → Bool
known_cmd [] c = false
known_cmd (l ∷ ls) c = eqb c l.cmd || known_cmd ls c

-- where no line has a Cmd and a Param: no InData is right
unfoldable pub no_line : ℕ → ℕ → Line
no_line c p = table_line c p (between 1 0) anything Unknown

-- the line of a Cmd and a Param
unfoldable pub line_in : List Line → ℕ → ℕ → Line
line_in [] c p = no_line c p
line_in (l ∷ ls) c p = let rest = line_in ls c p in if eqb c l.cmd && eqb p l.param then l else rest

unfoldable pub line_of : List ℕ → Line
line_of c = line_in command_table (cmd c) (param c)

unfoldable pub row : List ℕ → Row
row c = (line_of c).row

abbrev pub is_unknown : Row → Bool
is_unknown Unknown = true
is_unknown (OnObject a) = false
is_unknown OpenApplication = false
is_unknown CloseApplication = false

-- the parts of InData --------------------------------------------------------------------------------------------------

-- the number in the fifth and sixth bytes
unfoldable pub object_number : List ℕ → ℕ
object_number c = big_endian_at 4 c

-- a get or set, whatever its Param, names the object in its fifth and sixth bytes; a shorter one names none
unfoldable pub object_of : List ℕ → Option ℕ
object_of c = if leb 6 (length c) then some (object_number c) else none

-- get data, write and count
unfoldable pub offset : List ℕ → ℕ
offset c = big_endian_at 6 c

-- get data
unfoldable pub asked_length : List ℕ → ℕ
asked_length c = big_endian_at 8 c

-- write
unfoldable pub sent_data : List ℕ → List ℕ
sent_data c = drop 8 c

-- count
unfoldable pub step_byte : List ℕ → ℕ
step_byte c = get_or c 8 0

-- set metadata: 20, L, L bytes
unfoldable pub sent_metadata : List ℕ → List ℕ
sent_metadata c = drop 6 c

-- append
unfoldable pub sent_body : List ℕ → List ℕ
sent_body c = drop 6 c

-- acknowledge: most significant byte first
unfoldable pub sent_number : List ℕ → ℕ
sent_number c = big_endian_4_at 6 c
