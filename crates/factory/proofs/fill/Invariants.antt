use mathlib.Core.List.{◌++◌}
use mathlib.Core.Path.{◌≡◌}
use lib.ListN.{length, drop}
use Rattle.rules.specs.Layout.{pack}
use Rattle.factory.specs.Table.{place, first}
use Rattle.factory.proofs.fill.Given as goal

abbrev pub invariant-loop-number : goal.invariant-loop-number
invariant-loop-number l =
    (l.at ≡ place l.number-index) × (length l.store ≡ length l.initial.store)
    × (l.store ≡ pack (first l.number-index) ++ drop l.at l.initial.store)
