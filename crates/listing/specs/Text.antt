-- Text put into a lent output, as much of it as fits.
use Rattle.std.specs.Prelude.{ℕ, ◌+◌, ◌≤◌, min, List, ◌++◌, ◌≡◌, length, take, drop}
use Rattle.std.specs.Borrow.{MutBor}
use denote.Triple.Both.{Both}

-- a text at the front of an output, cut at the output's end; bytes after it keep their values
unfoldable pub in_front : List ℕ → List ℕ → List ℕ
in_front text output = take (length output) text ++ drop (length text) output

-- how many bytes of the text that is
unfoldable pub shown_size : List ℕ → List ℕ → ℕ
shown_size text output = min (length text) (length output)

-- `after` and `next` are what is left of the output, and the place past the text, where a text is put at a place of it
pub record Put (at : ℕ) (text output after : List ℕ) (next : ℕ) : Type 0 where
  pub start : at ≤ length output
  pub bytes : after ≡ take at output ++ in_front text (drop at output)
  pub count : next ≡ min (at + length text) (length output)
  pub whole : length after ≡ length output

-- a slice that is lent: as it was, and as it came back
abbrev pub Slice : Type 0
Slice = Both (MutBor (List ℕ)) (MutBor (List ℕ))

-- as much of a text as fits stands in front of the output: n bytes
abbrev pub Shows : List ℕ → Slice → ℕ → Type 0
Shows text output n = (n ≡ shown_size text output.entry.now) × (output.exit.now ≡ in_front text output.entry.now)
