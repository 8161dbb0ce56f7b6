-- A text put into the program's output.
use Rattle.std.specs.Prelude.{List, ℕ, ◌≡◌}
use Rattle.listing.specs.declared.Output.{Output}
use Rattle.listing.specs.Text.{Put}

-- `new` is what is left of an output where a text is put: the same slice, with as much of the text as fits
abbrev pub Puts : List ℕ → (old new : Output) → Type 0
Puts text old new = Put old.at text old.bytes.now new.bytes.now new.at × (new.bytes.ghost_name ≡ old.bytes.ghost_name)
