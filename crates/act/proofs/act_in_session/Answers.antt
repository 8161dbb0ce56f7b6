-- `act::act_in_session` meets its contract.
use Rattle.rules.specs.Session.{session_object}
use Rattle.rules.specs.Access.{seen}
use Rattle.rules.specs.Operation.{operation}
use Rattle.act.proofs.Doing.{session_may, session_never, session_by, answered_by, state_set}
use Rattle.command.proofs.InForm.{parts_there}
use Rattle.act.proofs.act_in_session.Goals as goal

pub show_byte-requires : goal.show_byte-requires
unfolding operation session_object seen
show_byte-requires c = (search parts_there, search session_may)

pub set_state-requires : goal.set_state-requires
unfolding operation session_object seen
set_state-requires c = (search parts_there, search session_may)

pub set_state-requires-in-EraseAndWrite : goal.set_state-requires-in-EraseAndWrite
unfolding operation session_object seen
set_state-requires-in-EraseAndWrite c = (search parts_there, search session_may)

pub returns-in-GetData : goal.returns-in-GetData
unfolding operation session_object seen
returns-in-GetData c = (search session_by, search answered_by)

pub returns-in-GetMetadata : goal.returns-in-GetMetadata
unfolding operation session_object seen
returns-in-GetMetadata c = absurd (search session_never)

pub returns-in-Write : goal.returns-in-Write
unfolding operation session_object seen
returns-in-Write c = (search (session_by, state_set), search answered_by)

pub returns-in-EraseAndWrite : goal.returns-in-EraseAndWrite
unfolding operation session_object seen
returns-in-EraseAndWrite c = (search (session_by, state_set), search answered_by)

pub returns-in-SetMetadata : goal.returns-in-SetMetadata
unfolding operation session_object seen
returns-in-SetMetadata c = absurd (search session_never)

pub returns-in-Count : goal.returns-in-Count
unfolding operation session_object seen
returns-in-Count c = absurd (search session_never)

pub returns-in-Append : goal.returns-in-Append
unfolding operation session_object seen
returns-in-Append c = absurd (search session_never)

pub returns-in-Acknowledge : goal.returns-in-Acknowledge
unfolding operation session_object seen
returns-in-Acknowledge c = absurd (search session_never)
