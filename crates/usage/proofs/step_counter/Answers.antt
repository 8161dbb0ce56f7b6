-- The record is found where the store says, and a counter up is counted there.
use Rattle.store.proofs.Ways.{sound_leads}
use Rattle.usage.proofs.Steps.{step_nothing, step_stored, step_counter, step_counted, step_other}
use Rattle.usage.proofs.step_counter.Goals as goal

pub find_record-requires : goal.find_record-requires
find_record-requires c = search sound_leads

pub returns-in_default : goal.returns-in_default
returns-in_default c = search step_nothing

pub at-requires : goal.at-requires
at-requires c = search step_stored

pub count-requires : goal.count-requires
count-requires c = (search step_stored, search step_counter)

pub returns-then-is_up_counter : goal.returns-then-is_up_counter
returns-then-is_up_counter c = search step_counted

pub returns-else-is_up_counter : goal.returns-else-is_up_counter
returns-else-is_up_counter c = search step_other
