-- The bytes of a counter are all of its data.
use native.Mathlib.Omega.{arith}
use Rattle.record.proofs.Parts.{counter_inside, counter_part, exhausted_there}
use Rattle.record.proofs.StoredObject.is_exhausted.Goals as goal

pub slice_bounds-exhausted-end : goal.slice_bounds-exhausted-end
slice_bounds-exhausted-end c = omega (arith, counter_inside _ _ _ c.self.view_is c.self.invariant c.requires)

pub exhausted-requires : goal.exhausted-requires
exhausted-requires c = search counter_part

pub returns : goal.returns
returns c = search exhausted_there
