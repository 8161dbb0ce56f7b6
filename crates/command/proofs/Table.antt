-- What the command table says of a command's row is what it says of its line.
use Prim.Native.Nat.{ℕ}
use mathlib.Core.Bool.{Bool, true, false, ◌&&◌}
use mathlib.Core.List.{List, [], ◌∷◌}
use mathlib.Core.Path.{◌≡◌, refl}
use lib.Dec.{eqb}
use Rattle.rules.specs.declared.Row.{Row}
use Rattle.rules.specs.declared.Row.TheVariants.{OnObject, OpenApplication, CloseApplication, Unknown}
use Rattle.std.specs.Prelude.{if◌then◌else◌}
use Rattle.rules.specs.Basic.{same}
use Rattle.rules.specs.Command.{Line, anything, identifier, table_line, command_table, no_line, line_in, line_of, cmd, param, row}
use Rattle.laws.proofs.Rows.{every_line}
use Rattle.command.specs.Table.{row_in, row_sizes}

pub rows_alike : (ls : List Line) (c p : ℕ) → row_in ls c p ≡ (line_in ls c p).row
unfolding row_in line_in no_line table_line
rows_alike [] c p = refl
rows_alike (l ∷ ls) c p = by (eqb c l.cmd && eqb p l.param) (rows_alike ls c p)
  where
    by : (t : Bool) → row_in ls c p ≡ (line_in ls c p).row → (if t then l.row else row_in ls c p) ≡ (if t then l else line_in ls c p).row
    by true later = refl
    by false later = later

-- the sizes of a row are those of its line
pub sizes_alike : (c : List ℕ) → row_sizes (row c) ≡ (line_of c).sizes
unfolding row line_of command_table table_line no_line
sizes_alike c = every_line (λ l. row_sizes l.row ≡ l.sizes) command_table (cmd c) (param c) (search) refl

-- only an open must send the identifier
abbrev pub takes : Row → List ℕ → Bool
takes (OnObject a) b = true
takes OpenApplication b = same identifier b
takes CloseApplication b = true
takes Unknown b = true

pub takes_alike : (c b : List ℕ) → takes (row c) b ≡ (line_of c).takes b
unfolding row line_of command_table table_line no_line anything
takes_alike c b = every_line (λ l. takes l.row b ≡ l.takes b) command_table (cmd c) (param c) (search) refl
