-- The slot of a record that stands there holds the expression.
use native.Mathlib.Omega.{arith}
use Rattle.record.proofs.Parts.{told_allowed, slot_fits, slot_lent, slot_formed}
use Rattle.record.proofs.StoredObject.expression.Goals as goal

pub overflow_add-self-inside : goal.overflow_add-self-inside
overflow_add-self-inside c = omega (arith, slot_fits _ _ _ c.self.view_is c.self.invariant _ _ c.slot_at.ensures)

pub counted-requires : goal.counted-requires
counted-requires c = search slot_fits

pub returns : goal.returns
returns c = search (slot_lent, slot_formed, told_allowed)
