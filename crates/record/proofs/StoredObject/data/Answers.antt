-- The part is of the data in use.
use Rattle.record.proofs.Parts.{told_allowed, data_lent}
use Rattle.record.proofs.StoredObject.data.Goals as goal

pub returns : goal.returns
returns c = record { bytes = search data_lent; allowed = told_allowed _ _ _ c.self.view_is c.self.invariant }
