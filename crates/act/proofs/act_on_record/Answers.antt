-- `act::act_on_record` meets its contract.
use Rattle.rules.specs.Operation.{operation}
use Rattle.act.specs.Acting.{stored_at}
use Rattle.act.proofs.Doing.{data_within, data_fits, metadata_fits, write_fits, write_answered, set_answered, count_answered, set_allowed, counter_there, append_answered, append_allowed, acknowledge_answered, acknowledge_allowed}
use Rattle.act.proofs.Doing.{stored_by, write_store, set_store, count_store, append_store, acknowledge_store, answered_by}
use Rattle.command.proofs.InForm.{parts_there}
use borrow.Author.Rules.{rules}
use Rattle.act.proofs.act_on_record.Goals as goal

pub show_data-requires : goal.show_data-requires
unfolding operation stored_at
show_data-requires c = rw c.at-object.ensures (search parts_there, search data_within, search data_fits)

pub write_answer-requires : goal.write_answer-requires
unfolding operation stored_at
write_answer-requires c = rw c.at-object-in-GetMetadata.ensures (search metadata_fits)

pub offset-from-requires : goal.offset-from-requires
unfolding operation stored_at
offset-from-requires c = search parts_there

pub sent_data-requires : goal.sent_data-requires
unfolding operation stored_at
sent_data-requires c = search parts_there

pub write-requires : goal.write-requires
unfolding operation stored_at
write-requires c = (search rules, search write_fits)

pub done-requires : goal.done-requires
unfolding operation stored_at
done-requires c = search write_answered

pub offset-from-requires-in-EraseAndWrite : goal.offset-from-requires-in-EraseAndWrite
unfolding operation stored_at
offset-from-requires-in-EraseAndWrite c = search parts_there

pub sent_data-requires-in-EraseAndWrite : goal.sent_data-requires-in-EraseAndWrite
unfolding operation stored_at
sent_data-requires-in-EraseAndWrite c = search parts_there

pub erase_and_write-requires : goal.erase_and_write-requires
unfolding operation stored_at
erase_and_write-requires c = (search rules, search write_fits)

pub done-requires-in-EraseAndWrite : goal.done-requires-in-EraseAndWrite
unfolding operation stored_at
done-requires-in-EraseAndWrite c = search write_answered

pub sent_metadata-requires : goal.sent_metadata-requires
unfolding operation stored_at
sent_metadata-requires c = search parts_there

pub store_content-requires : goal.store_content-requires
unfolding operation stored_at
store_content-requires c = (search rules, search set_allowed)

pub done-requires-in-SetMetadata : goal.done-requires-in-SetMetadata
unfolding operation stored_at
done-requires-in-SetMetadata c = search set_answered

pub step_byte-requires : goal.step_byte-requires
unfolding operation stored_at
step_byte-requires c = search parts_there

pub count-requires : goal.count-requires
unfolding operation stored_at
count-requires c = (search rules, search counter_there)

pub done-requires-in-Count : goal.done-requires-in-Count
unfolding operation stored_at
done-requires-in-Count c = search count_answered

pub sent_body-requires : goal.sent_body-requires
unfolding operation stored_at
sent_body-requires c = search parts_there

pub append-requires : goal.append-requires
unfolding operation stored_at
append-requires c = (search rules, search append_allowed)

pub done-requires-in-Append : goal.done-requires-in-Append
unfolding operation stored_at
done-requires-in-Append c = search append_answered

pub sent_number-requires : goal.sent_number-requires
unfolding operation stored_at
sent_number-requires c = search parts_there

pub acknowledge-requires : goal.acknowledge-requires
unfolding operation stored_at
acknowledge-requires c = (search rules, search acknowledge_allowed)

pub done-requires-in-Acknowledge : goal.done-requires-in-Acknowledge
unfolding operation stored_at
done-requires-in-Acknowledge c = search acknowledge_answered

pub returns-in-GetData : goal.returns-in-GetData
unfolding operation stored_at
returns-in-GetData c = let f = rw c.at-object.ensures at c.show_data.ensures in (search stored_by, search answered_by)

pub returns-in-GetMetadata : goal.returns-in-GetMetadata
unfolding operation stored_at
returns-in-GetMetadata c = let f = rw c.at-object-in-GetMetadata.ensures at c.write_answer.ensures in (search stored_by, search answered_by)

pub returns-in-Write : goal.returns-in-Write
unfolding operation stored_at
returns-in-Write c = (search (stored_by, write_store), search answered_by)

pub returns-in-EraseAndWrite : goal.returns-in-EraseAndWrite
unfolding operation stored_at
returns-in-EraseAndWrite c = (search (stored_by, write_store), search answered_by)

pub returns-in-SetMetadata : goal.returns-in-SetMetadata
unfolding operation stored_at
returns-in-SetMetadata c = (search (stored_by, set_store), search answered_by)

pub returns-in-Count : goal.returns-in-Count
unfolding operation stored_at
returns-in-Count c = (search (stored_by, count_store), search answered_by)

pub returns-in-Append : goal.returns-in-Append
unfolding operation stored_at
returns-in-Append c = (search (stored_by, append_store), search answered_by)

pub returns-in-Acknowledge : goal.returns-in-Acknowledge
unfolding operation stored_at
returns-in-Acknowledge c = (search (stored_by, acknowledge_store), search answered_by)
