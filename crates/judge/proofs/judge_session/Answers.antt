-- `judge::judge_session` meets its contract.
use Rattle.judge.proofs.Judging.{session_get, session_by}
use Rattle.command.proofs.InForm.{parts_there}
use Rattle.judge.proofs.judge_session.Goals as goal

pub judge_get-requires : goal.judge_get-requires
judge_get-requires c = search parts_there

pub judge_state-requires : goal.judge_state-requires
judge_state-requires c = search parts_there

pub judge_state-requires-in-EraseAndWrite : goal.judge_state-requires-in-EraseAndWrite
judge_state-requires-in-EraseAndWrite c = search parts_there

pub returns-in-GetData : goal.returns-in-GetData
returns-in-GetData c = search session_get

pub returns-in-GetMetadata : goal.returns-in-GetMetadata
returns-in-GetMetadata c = search session_by

pub returns-in-Write : goal.returns-in-Write
returns-in-Write c = search session_by

pub returns-in-EraseAndWrite : goal.returns-in-EraseAndWrite
returns-in-EraseAndWrite c = search session_by

pub returns-in-SetMetadata : goal.returns-in-SetMetadata
returns-in-SetMetadata c = search session_by

pub returns-in-Count : goal.returns-in-Count
returns-in-Count c = search session_by

pub returns-in-Append : goal.returns-in-Append
returns-in-Append c = search session_by

pub returns-in-Acknowledge : goal.returns-in-Acknowledge
returns-in-Acknowledge c = search session_by
