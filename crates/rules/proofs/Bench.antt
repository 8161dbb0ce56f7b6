-- P1 to P12, the bench sheet's other lines, the six slips, the cases of short reads, of lists, of counters, of the conditions that use them up and
-- of fare queues follow from the rules: antt computes the tables.
use mathlib.Core.Bool.{Bool, true}
use mathlib.Core.List.{List}
use Rattle.mixing.specs.Runs.{answers, end}
use mathlib.Core.Path.{◌≡◌, refl}
use Rattle.rules.specs.Basic.{all, among, same, rising_from, rising, little_endian_at, big_endian_4, big_endian_4_at, little_endian_4, little_endian_4_at}
use Rattle.rules.specs.Hex.{ascii, digits, pairs, hex}
use Rattle.rules.specs.Command.{asks_flush, cmd, param, in_length, in_data, size_right, identifier, anything, table_line, command_table, known_cmd, no_line, line_in, line_of, row, object_number, offset, asked_length, sent_data, step_byte, sent_metadata, sent_body, sent_number, object_of}
use Rattle.rules.specs.Response.{done_response, refused_response, put_in_front}
use Rattle.rules.specs.Expression.{is_state, may_become, condition_bytes, group_bytes, groups_bytes, expression_bytes, names_counter, counter_number, condition_allowed, group_allowed, groups_allowed, group_size, conditions, groups, expression_allowed_with, in_first, read_groups, read_expression, expression_with}
use Rattle.rules.specs.Queue.{body_allowed, bodies_allowed, numbered_below, queue_allowed, fare_bytes, fares_bytes, queue_bytes, read_fare, read_fares, read_queue, queue, appended, present_in, past, acknowledged}
use Rattle.rules.specs.Object.{kind_number, read_kind, is, of_session, is_counter, direction, data_allowed, in_session, object_allowed_with, all_allowed_with, with_content}
use Rattle.rules.specs.Layout.{read_slot, size_with, objects_allowed_with, slot_of_with, record_bytes_with, pack_with, read_record_with, read_records_with, unpack_with, find, replaced}
use Rattle.rules.specs.Counter.{moved, at_or_past, counted, value, threshold, exhausted, after_count}
use Rattle.rules.specs.Factory.{entry, table, before_operational, made, factory_objects, factory_store, fresh_session, factory_outcome, factory_made}
use Rattle.rules.specs.Session.{with_opened, with_lcsg, with_lcsa, with_error, with_state, session_change, session_object, session_objects}
use Rattle.rules.specs.Access.{seen, named, present, state_holds, usable, condition_holds, group_holds, condition_counters, group_counters, groups_grant, grant, one_up, used_up, all_used_up, asked, access}
use Rattle.rules.specs.Metadata.{field, fields_bytes, object_fields, led_by_20, metadata, read_fields, sent_fields, field_allowed, fields_allowed, metadata_allowed, value_of, sent_state, sent_expression, with_fields}
use Rattle.rules.specs.Chain.{◌refused◌or◌, ◌and_then◌}
use Rattle.rules.specs.Operation.{shown, put_at, write_fits, value_allowed, operation, setting_session}
use Rattle.rules.specs.Refusals.{unsound, ill_sized, unknown_cmd, unusable, unknown_param, wrong_length, wrong_content, early, ruling_on, ruling_of, ruling, fitting, late, verdict}
use Rattle.rules.specs.Step.{raised, declined, replacing, objects_after, performed, answered, judged, flushed, unanswered, step}
use Rattle.rules.specs.Program.{digit, upper_hex, line, response_in, answer_line, lines, printed}
use Rattle.rules.specs.Run.{reply, left, run, reads_or_writes}
use Rattle.rules.specs.Cases.{same_session, ◌gives◌, ◌refused◌leaving◌, unanswered_in, in_room, room_of, done_empty, responds, as_expected, talk_right, store_after, turn, told, same_replies, same_number, Case, run_right, right, all_right}
use Rattle.rules.specs.Stores.{padded, by_hand, first_record, second_record, third_record, three, large, smallest, largest, up_counter, down_counter, guarded, guarded_counter, guarded_queue, queue_record, guarded_40, queue_40, many, factory_140, factory_1500, factory_by_hand, first_metadata, second_metadata}
use Rattle.rules.specs.Bench.{open_command, factory_metadata, cases, more_cases, slip_cases, short_cases, run_cases, counter_cases, condition_cases, queue_cases}

-- `unfolding computed` opens every rule
unfoldable pub computed : List Case → Bool
unfolding all among same rising_from rising little_endian_at big_endian_4 big_endian_4_at little_endian_4 little_endian_4_at ascii digits pairs hex asks_flush cmd param in_length in_data size_right identifier anything table_line command_table known_cmd no_line line_in line_of row object_number offset asked_length sent_data step_byte sent_metadata sent_body sent_number done_response refused_response put_in_front is_state may_become condition_bytes group_bytes groups_bytes expression_bytes names_counter counter_number condition_allowed group_allowed groups_allowed group_size conditions groups expression_allowed_with in_first read_groups read_expression expression_with body_allowed bodies_allowed numbered_below queue_allowed fare_bytes fares_bytes queue_bytes read_fare read_fares read_queue queue appended present_in past acknowledged kind_number read_kind is of_session is_counter direction data_allowed in_session object_allowed_with all_allowed_with with_content read_slot size_with objects_allowed_with slot_of_with record_bytes_with pack_with read_record_with read_records_with unpack_with find replaced moved at_or_past counted value threshold exhausted after_count entry table before_operational made factory_objects factory_store fresh_session factory_outcome factory_made with_opened with_lcsg with_lcsa with_error with_state session_change session_object session_objects seen named present state_holds usable condition_holds group_holds condition_counters group_counters groups_grant grant one_up used_up all_used_up asked access field fields_bytes object_fields led_by_20 metadata read_fields sent_fields field_allowed fields_allowed metadata_allowed value_of sent_state sent_expression with_fields ◌refused◌or◌ ◌and_then◌ shown put_at write_fits value_allowed operation setting_session unsound ill_sized unknown_cmd unusable unknown_param wrong_length wrong_content early ruling_on ruling_of ruling fitting late verdict raised declined replacing objects_after performed answered judged flushed unanswered step digit upper_hex line response_in answer_line lines printed answers end reply left run reads_or_writes object_of same_session ◌gives◌ ◌refused◌leaving◌ unanswered_in in_room room_of done_empty responds as_expected talk_right store_after turn told same_replies same_number run_right right all_right open_command factory_metadata cases more_cases slip_cases short_cases padded by_hand first_record second_record third_record three large smallest largest up_counter down_counter guarded guarded_counter guarded_queue queue_record guarded_40 queue_40 many factory_140 factory_1500 factory_by_hand first_metadata second_metadata run_cases counter_cases condition_cases queue_cases
computed cs = all_right cs

-- P1 to P12
pub bench_sheet : all_right cases ≡ true
unfolding computed
bench_sheet = refl

-- the sheet's lines that are not marked P
pub bench_sheet_more : all_right more_cases ≡ true
unfolding computed
bench_sheet_more = refl

-- the slips
pub no_slip : all_right slip_cases ≡ true
unfolding computed
no_slip = refl

-- short reads
pub short_reads : all_right short_cases ≡ true
unfolding computed
short_reads = refl

-- lists of commands
pub run_sentences : all_right run_cases ≡ true
unfolding computed
run_sentences = refl

-- counters
pub counter_sentences : all_right counter_cases ≡ true
unfolding computed
counter_sentences = refl

-- conditions that use up a counter
pub condition_sentences : all_right condition_cases ≡ true
unfolding computed
condition_sentences = refl

-- fare queues
pub queue_sentences : all_right queue_cases ≡ true
unfolding computed
queue_sentences = refl
