-- `set_expression`: one slot of the record.
use native.Mathlib.Omega.{arith}
use Rattle.record.proofs.Standing.{slot_in_head}
use Rattle.change.proofs.Results.{value_small, slot_in, set_expression_by}
use Rattle.change.proofs.set_expression.Goals as goal

pub overflow_add-at : goal.overflow_add-at
overflow_add-at c = record { fits = omega (arith, slot_in_head c.args.slot) }

pub put_slot-requires : goal.put_slot-requires
put_slot-requires c = (search slot_in, search value_small)

pub returns : goal.returns
returns c = search set_expression_by
