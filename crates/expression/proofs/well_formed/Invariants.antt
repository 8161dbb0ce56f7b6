use Prim.Native.Nat.{◌*◌, ◌≤◌}
use mathlib.Core.Path.{◌≡◌}
use lib.ListN.{drop}
use Rattle.rules.specs.Basic.{is_some}
use Rattle.rules.specs.Expression.{expression}
use Rattle.expression.proofs.Forms.{fits}
use Rattle.expression.proofs.well_formed.Given as goal

abbrev pub invariant-loop-condition : goal.invariant-loop-condition
invariant-loop-condition l = (1 ≤ l.groups) × (is_some (expression l.part) ≡ fits l.groups (drop (4 * l.condition-index) l.part))
