-- The record found decides.
use Rattle.access.proofs.Uses.{counter_stored}
use Rattle.access.proofs.Sight.is_usable.Goals as goal

pub at-object-requires : goal.at-object-requires
at-object-requires c = counter_stored _ _ c.args.self.now.sound _ c.find_record.ensures _ c.in-Some.is
