-- What is asked of all sizes is what is asked of those not yet seen.
use Prim.Native.Nat.{◌-◌}
use mathlib.Core.Path.{◌≡◌}
use lib.ListN.{drop}
use Rattle.firmware.specs.Lists.{all_fit}
use Rattle.firmware.proofs.all_fit.Given as goal

abbrev pub invariant-loop-size : goal.invariant-loop-size
invariant-loop-size l = all_fit l.count l.sizes l.total ≡ all_fit (l.count - l.size-index) (drop l.size-index l.sizes) l.left
