use Prim.Native.Nat.{◌-◌, ◌≤◌}
use mathlib.Core.Path.{◌≡◌}
use lib.ListN.{length}
use Rattle.rules.specs.Basic.{is_some}
use Rattle.rules.specs.Layout.{unpack}
use Rattle.store.proofs.Checking.{records_at}
use Rattle.store.proofs.check_store.Given as goal

abbrev pub invariant-loop-turn : goal.invariant-loop-turn
invariant-loop-turn l = (l.at ≤ length l.store) × (is_some (unpack l.store) ≡ records_at (32 - l.turn) l.least l.at l.store)
