use mathlib.Core.Path.{◌≡◌}
use lib.ListN.{drop}
use Rattle.rules.specs.Basic.{among}
use Rattle.usage.proofs.is_listed.Given as goal

abbrev pub invariant-loop-listed : goal.invariant-loop-listed
invariant-loop-listed l = among l.numbers l.number ≡ among (drop l.listed-index l.numbers) l.number
