-- A case for each sentence, row and cell of document 01, and for each about counters, the conditions that use them up and fare queues, follows from
-- the rules: antt computes the tables.
use mathlib.Core.Bool.{Bool, true}
use mathlib.Core.List.{List}
use mathlib.Core.Path.{◌≡◌, refl}
use Rattle.rules.specs.Cases.{Case, all_right}
use Rattle.rules.proofs.Bench.{computed}
use Rattle.sentences.specs.Sentences.{text_line, command_cases, form_cases, row_cases, object_cases, expression_cases, store_cases, size_cases, factory_cases, session_cases, data_cases, metadata_cases, program_cases}
use Rattle.sentences.specs.Counters.{trips, rides, of_kind, counter_record_cases, locked, unreadable, count_cases, counter_write_cases}
use Rattle.sentences.specs.Conditions.{slotted, condition_form_cases, usable_beside, unusable_beside, numbered, condition_holds_cases, counter, tallies, moves, stays, deciding_cases, thrice, thrice_counter, uses, plain, use_cases, once, refused_cases, own, own_after, own_cases, steps, sealed, step_cases, stored_expression_cases}
use Rattle.sentences.specs.Queues.{held, numbered_so, one_fare, small_fare, kept_as, queue_record_cases, empty_40, numbers, append_cases, three_fares, leaves, acknowledge_cases, counted_queue, two_queues, queue_plain_cases}

-- `unfolding tabled` opens every rule and every table
tabled : List Case → Bool
unfolding computed text_line command_cases form_cases row_cases object_cases expression_cases store_cases size_cases factory_cases session_cases data_cases metadata_cases program_cases trips rides of_kind counter_record_cases locked unreadable count_cases counter_write_cases slotted condition_form_cases usable_beside unusable_beside numbered condition_holds_cases counter tallies moves stays deciding_cases thrice thrice_counter uses plain use_cases once refused_cases own own_after own_cases steps sealed step_cases stored_expression_cases held numbered_so one_fare small_fare kept_as queue_record_cases empty_40 numbers append_cases three_fares leaves acknowledge_cases counted_queue two_queues queue_plain_cases
tabled cs = all_right cs

-- Command and response bytes
pub command_sentences : all_right command_cases ≡ true
unfolding tabled
command_sentences = refl

-- When the element says no: steps 1 to 4
pub form_sentences : all_right form_cases ≡ true
unfolding tabled
form_sentences = refl

-- steps 5 to 8
pub row_sentences : all_right row_cases ≡ true
unfolding tabled
row_sentences = refl

-- steps 9 to 13
pub object_sentences : all_right object_cases ≡ true
unfolding tabled
object_sentences = refl

-- Life cycles and access expressions
pub expression_sentences : all_right expression_cases ≡ true
unfolding tabled
expression_sentences = refl

-- What an object holds on the controller
pub store_sentences : all_right store_cases ≡ true
unfolding tabled
store_sentences = refl

-- at most 16,384 bytes
pub size_sentences : all_right size_cases ≡ true
unfolding tabled
size_sentences = refl

-- the factory store and its maker, the fresh session
pub factory_sentences : all_right factory_cases ≡ true
unfolding tabled
factory_sentences = refl

-- E0C0, F1C0 and F1C2
pub session_sentences : all_right session_cases ≡ true
unfolding tabled
session_sentences = refl

-- Reading and writing: data
pub data_sentences : all_right data_cases ≡ true
unfolding tabled
data_sentences = refl

-- metadata
pub metadata_sentences : all_right metadata_cases ≡ true
unfolding tabled
metadata_sentences = refl

-- the program
pub program_sentences : all_right program_cases ≡ true
unfolding tabled
program_sentences = refl

-- counters: their records
pub counter_record_sentences : all_right counter_record_cases ≡ true
unfolding tabled
counter_record_sentences = refl

-- counts
pub count_sentences : all_right count_cases ≡ true
unfolding tabled
count_sentences = refl

-- counters read and written
pub counter_write_sentences : all_right counter_write_cases ≡ true
unfolding tabled
counter_write_sentences = refl

-- conditions that use up a counter: their form
pub condition_form_sentences : all_right condition_form_cases ≡ true
unfolding tabled
condition_form_sentences = refl

-- when they hold
pub condition_holds_sentences : all_right condition_holds_cases ≡ true
unfolding tabled
condition_holds_sentences = refl

-- the deciding group
pub deciding_sentences : all_right deciding_cases ≡ true
unfolding tabled
deciding_sentences = refl

-- which command uses which
pub use_sentences : all_right use_cases ≡ true
unfolding tabled
use_sentences = refl

-- what is refused moves nothing
pub refused_sentences : all_right refused_cases ≡ true
unfolding tabled
refused_sentences = refl

-- a counter on its own condition
pub own_sentences : all_right own_cases ≡ true
unfolding tabled
own_sentences = refl

-- its step
pub step_sentences : all_right step_cases ≡ true
unfolding tabled
step_sentences = refl

-- the stored expression, the send-back case, and a list
pub stored_expression_sentences : all_right stored_expression_cases ≡ true
unfolding tabled
stored_expression_sentences = refl

-- fare queues: their records
pub queue_record_sentences : all_right queue_record_cases ≡ true
unfolding tabled
queue_record_sentences = refl

-- appends
pub append_sentences : all_right append_cases ≡ true
unfolding tabled
append_sentences = refl

-- acknowledgements
pub acknowledge_sentences : all_right acknowledge_cases ≡ true
unfolding tabled
acknowledge_sentences = refl

-- plain writes, reading, metadata, the counters of a condition, and two lists
pub queue_plain_sentences : all_right queue_plain_cases ≡ true
unfolding tabled
queue_plain_sentences = refl
