-- An expression is shorter than its slot.
use Rattle.answer.proofs.Answering.{value_small}
use mathlib.Core.Path.{ap}
use lib.ListN.{length}
use Prim.Native.Nat.{ℕ}
use Rattle.answer.proofs.expression_length.Goals as goal

pub returns : goal.returns
returns c = (search (ap (length {A = ℕ})), search value_small)
