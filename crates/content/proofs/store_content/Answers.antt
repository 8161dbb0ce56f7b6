-- Up to the place, the fields are stored.
use mathlib.Core.Path.{refl, sym}
use Rattle.reader.proofs.Fields.{less_left}
use Rattle.change.proofs.Rewritten.{left_stored}
use Rattle.content.proofs.Storing.{going_start, going_allowed, going_next, going_done, going_malformed}
use Rattle.content.proofs.store_content.Goals as goal

pub loop-next-init : goal.loop-next-init
loop-next-init c = rw (c.new-reader.ensures.0, c.new-reader.ensures.1) (refl, search going_start)

pub returns-in_default-next : goal.returns-in_default-next
returns-in_default-next c = rw (sym c.loop-next.invariant.0) (search going_malformed)

pub returns : goal.returns
returns c = rw (sym c.loop-next.invariant.0) (search going_done)

pub store_field-requires : goal.store_field-requires
store_field-requires c = (search left_stored, search going_allowed)

pub loop-next-smaller : goal.loop-next-smaller
loop-next-smaller c = rw c.advance.ensures.1 (search less_left)

pub loop-next-preserved : goal.loop-next-preserved
loop-next-preserved c = rw c.advance.ensures.1 (c.loop-next.invariant.0, search going_next)
