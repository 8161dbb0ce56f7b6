-- The rules' table by its index: each entry, and where its record begins.
use Rattle.std.specs.Prelude.{ℕ, ◌+◌, ◌≤◌, List, map, ◌≡◌, get_or, take}
use Rattle.rules.specs.Object.{Object}
use Rattle.rules.specs.Layout.{head_size, size}
use Rattle.rules.specs.Factory.{Entry, entry, table, made}

-- how many entries there are, and how many bytes their records take
abbrev pub entries : ℕ
entries = 14

abbrev pub all_bytes : ℕ
all_bytes = 6024

unfoldable pub entry_at : ℕ → Entry
entry_at i = get_or table i (entry 0 0)

-- the objects of the first i entries, and the bytes that their records take
unfoldable pub first : ℕ → List Object
first i = map made (take i table)

unfoldable pub place : ℕ → ℕ
place i = size (first i)

-- entry i has this number and maximum; its record begins where those before it end, and ends within all bytes
pub record Listed (i n m : ℕ) : Type 0 where
  pub same : entry n m ≡ entry_at i
  pub next : place (i + 1) ≡ place i + (head_size + m)
  pub within : place (i + 1) ≤ all_bytes
