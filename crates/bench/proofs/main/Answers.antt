-- `main`: the output's length, not counted out.
use Prim.Native.Nat.{ℕ}
use mathlib.Core.Path.{sym}
use native.Mathlib.Nat.{le_of_eq}
use lib.ListN.{length-replicate}
use Rattle.bench.proofs.main.Goals as goal

pub slice_bounds-run-end : goal.slice_bounds-run-end
slice_bounds-run-end c = sym (length-replicate {A = ℕ} 4112384 0)

pub run-requires : goal.run-requires
run-requires c = le_of_eq (sym (length-replicate {A = ℕ} 4112384 0))
