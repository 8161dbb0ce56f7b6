-- A read from past what is in use.
use Prim.Native.Nat.{ℕ}
use mathlib.Core.Bool.{not}
use mathlib.Core.Path.{◌≡◌}
use native.Mathlib.Omega.{arith}
use lib.Dec.{leb, ltb}
use Rattle.std.proofs.lemmas.Grind.{common_steps}

pub past_used : (k used : ℕ) → ltb used k ≡ not (leb k used)
past_used k used = grind (arith, common_steps)
