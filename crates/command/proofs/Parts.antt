-- The parts of a command, and the session's last error, as the code reads them.
use Prim.Native.Nat.{ℕ, ◌<◌, ◌≤◌}
use mathlib.Core.Path.{◌≡◌, ap, ◌∙◌}
use mathlib.Core.List.{List}
use mathlib.Core.Bool.{false}
use native.Mathlib.Omega.{arith}
use lib.ListN.{length, get_or, get_or-eq_default}
use Rattle.rules.specs.declared.Row.{Row}
use Rattle.rules.specs.Command.{asks_flush, cmd, param, command_table, line_of, row}
use Rattle.command.specs.Table.{row_in}
use Rattle.command.proofs.Table.{rows_alike}

pub empty_flush : (c : List ℕ) → length c < 1 → false ≡ asks_flush c
unfolding asks_flush
empty_flush c h = let z : length c ≤ 0 = omega arith in rw (get_or-eq_default c 0 z)

pub row_by : (r : Row) (c : List ℕ) (n : ℕ) → n ≡ cmd c → r ≡ row_in command_table n (get_or c 1 0) → r ≡ row c
unfolding row line_of param
row_by r c n e f = f ∙ ap (λ k. row_in command_table k (param c)) e ∙ rows_alike command_table (cmd c) (param c)
