-- By the kind.
use Rattle.record.proofs.ByKind.{way_is, way_not}
use Rattle.record.proofs.StoredObject.direction.Goals as goal

pub returns-in-Counter : goal.returns-in-Counter
returns-in-Counter c = search way_is

pub returns-in_default : goal.returns-in_default
returns-in_default c = way_not _ _ c.kind.ensures.value c.in_default.not-Counter
