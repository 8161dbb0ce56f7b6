-- Each record of assumptions is met, by the factory store, an opened session and commands of the bench sheet, and what the demands conclude of
-- them. The records are made by `search`: one that asks too much is refused for what it asks.
use Prim.Native.Nat.{ℕ, ◌/◌, ◌%◌}
use mathlib.Core.Bool.{Bool, true, false, not, ◌||◌, false≢true}
use mathlib.Core.List.{List, [], ◌∷◌, ◌++◌, map}
use mathlib.Core.Logic.{◌⊎◌, inl, inr}
use mathlib.Core.Option.{some, some-injective}
use mathlib.Core.Path.{◌≡◌, refl, sym, ap, ◌∙◌}
use native.Mathlib.Omega.{arith}
use borrow.Author.Tests.{eqb-true, eq-eqb, ltb-true, not-true}
use lib.Dec.{eqb, ltb}
use lib.ListN.{length, replicate}
use Rattle.mixing.specs.Runs.{answers, end, Mix, both_used_up, first, second, All, Mixed}
use Rattle.rules.specs.declared.Session.{Session}
use Rattle.rules.specs.declared.Action.TheVariants.{Write, EraseAndWrite, SetMetadata, Count, Append, Acknowledge}
use Rattle.rules.specs.declared.Kind.TheVariants.{Data, Counter, Queue}
use Rattle.rules.specs.declared.Direction.TheVariants.{Up}
use Rattle.rules.specs.Basic.{all, among, same, rising_from, rising, zeros, big_endian_4, big_endian_4_at, little_endian_4, little_endian_4_at, little_endian_at}
use Rattle.rules.specs.Hex.{ascii, digits, pairs, hex}
use Rattle.rules.specs.Command.{asks_flush, cmd, param, in_length, in_data, size_right, table_line, command_table, line_in, line_of, row, object_number, offset, asked_length, sent_data, step_byte, sent_metadata, sent_body, sent_number, object_of}
use Rattle.rules.specs.Response.{done_response, put_in_front}
use Rattle.rules.specs.Expression.{is_state, may_become, Condition, just, ◌and◌, only, Expression, always, never, when, expression_bytes, groups_bytes, group_bytes, condition_bytes}
use Rattle.rules.specs.Expression.{names_counter, counter_number, condition_allowed, group_allowed, groups_allowed, group_size, conditions, groups, expression_allowed_with}
use Rattle.rules.specs.Object.{Object, kind_number, is, is_counter, direction, data_allowed, in_session, object_allowed_with, all_allowed_with, with_content}
use Rattle.rules.specs.Layout.{size_with, objects_allowed_with, pack, unpack, find, replaced}
use Rattle.rules.specs.Counter.{moved, at_or_past, counted, value, threshold, exhausted, after_count}
use Rattle.rules.specs.Queue.{fare, FareQueue, empty_queue, body_allowed, bodies_allowed, numbered_below, queue_allowed, fare_bytes, fares_bytes, queue_bytes, read_fare, read_fares, read_queue, queue, appended, present_in, up_to, past, acknowledged}
use Rattle.rules.specs.Factory.{entry, table, before_operational, made, factory_objects, factory_store, fresh_session}
use Rattle.rules.specs.Session.{with_opened, with_error}
use Rattle.rules.specs.Metadata.{field, fields_bytes, object_fields, led_by_20, read_fields, sent_fields, field_allowed, fields_allowed, metadata_allowed}
use Rattle.rules.specs.Access.{seen, present, state_holds, usable, condition_holds, group_holds, condition_counters, group_counters, groups_counters, expression_counters}
use Rattle.rules.specs.Access.{groups_grant, grant, holds, one_up, used_up, all_used_up}
use Rattle.rules.specs.Operation.{shown, put_at, write_fits}
use Rattle.rules.specs.Refusals.{ill_sized, wrong_length}
use Rattle.rules.specs.Step.{flushed, step}
use Rattle.rules.specs.Run.{Turn, Reply, Kept, reply, left, run, reads_or_writes}
use Rattle.demands.specs.Demand.{is_done, Ready, well_formed, writes, content_allowed, changed, excepted, uses, UsedUp, MayWrite, WritesExactly, MayRead, ReadsExactly, session_byte, asks_byte, byte_shown, MayReadByte, after_byte, Shown, without_sizes, sent_back}
use Rattle.demands.specs.Demand.{Plain, Names, object_counters, NamesCounter, sets_metadata, TwoLists}
use Rattle.demands.specs.Queues.{queue_of, stored_queue, present_fares, appends, acknowledges, answered_00, opening, after_append, after_acknowledge, noted, account, QueueKept, Among, Acknowledged, NeverLost}
use Rattle.rules.proofs.Bench as bench
use Rattle.laws.proofs.Tests.{by_test, and_left, and_right}
use Rattle.laws.proofs.Factory.{factory_sound}
use Rattle.laws.proofs.Inverse.{unpack_pack}
use Rattle.laws.proofs.Grants.{among_right}
use Rattle.demands.proofs.Demand2.{write_exactly_when, read_exactly_when, read_keeps}
use Rattle.demands.proofs.Shown.{read_only_when, byte_read_when}
use Rattle.demands.proofs.SendBack.{send_back}
use Rattle.demands.proofs.Demand3.{lists_mix}
use Rattle.demands.proofs.Conditions.{during_before}
use Rattle.demands.proofs.Queues.{queue_kept, never_lost}

-- the application opened on the factory store, with a room of 64 bytes EE
unfoldable pub opened : Session
opened = with_opened true fresh_session

unfoldable pub room : List ℕ
room = replicate 64 0xEE

-- F1D0, as the factory makes it
unfoldable pub F1D0 : Object
F1D0 = made (entry 0xF1D0 140)

-- `unfolding computed` opens what a record of assumptions speaks of
computed : List Bool
unfolding opened room F1D0 all among same rising_from rising ascii digits pairs hex asks_flush cmd param in_length in_data size_right table_line command_table line_in line_of row object_number offset asked_length sent_data step_byte sent_metadata sent_body sent_number is_state may_become seen present names_counter counter_number state_holds usable condition_holds group_holds condition_counters group_counters groups_grant grant one_up used_up all_used_up in_session find entry table before_operational made factory_objects fresh_session with_opened with_error field fields_bytes led_by_20 read_fields sent_fields field_allowed fields_allowed metadata_allowed with_content shown put_at write_fits kind_number is is_counter direction big_endian_4 big_endian_4_at little_endian_4 little_endian_4_at little_endian_at body_allowed bodies_allowed numbered_below queue_allowed fare_bytes fares_bytes queue_bytes read_fare read_fares read_queue queue appended present_in past acknowledged moved at_or_past counted value threshold exhausted after_count ill_sized wrong_length flushed well_formed writes content_allowed changed excepted session_byte asks_byte byte_shown reads_or_writes object_of
computed = []

-- `unfolding allowing` opens what the check of a store asks of its objects
allowing : List Bool
unfolding size_with objects_allowed_with object_allowed_with all_allowed_with data_allowed expression_allowed_with condition_allowed group_allowed groups_allowed group_size conditions groups
allowing = []

pub factory_ready : Ready room factory_store opened factory_objects
unfolding computed
factory_ready = search (factory_sound, arith)

-- P3: 8 bytes written at 9
unfoldable pub P3 : List ℕ
P3 = hex "02 00 00 0C F1 D0 00 09 01 02 03 04 05 06 07 08"

pub may_write : MayWrite Write P3 (seen factory_objects opened) F1D0
unfolding computed P3
may_write = search

-- an erase and write, and a metadata write
pub may_erase_and_write : MayWrite EraseAndWrite (hex "02 40 00 05 F1 D0 00 01 09") (seen factory_objects opened) F1D0
unfolding computed
may_erase_and_write = search

pub may_set_metadata : MayWrite SetMetadata (hex "02 01 00 07 F1 D0 20 03 C0 01 07") (seen factory_objects opened) F1D0
unfolding computed
may_set_metadata = search

-- F1D0 with 17 bytes in use: what P3 makes of it
unfoldable pub F1D0_written : Object
F1D0_written = with_content (zeros 9 ++ hex "01 02 03 04 05 06 07 08") F1D0

pub P3_writes : WritesExactly Write P3 room factory_store opened factory_objects F1D0 (step P3 room factory_store opened)
unfolding computed P3
P3_writes = write_exactly_when P3 room factory_store opened factory_objects F1D0 factory_ready Write refl refl refl

-- the store that it leaves
unfoldable pub written : List ℕ
written = (step P3 room factory_store opened).store

pub written_ready : Ready room written opened (replaced F1D0_written factory_objects)
unfolding computed P3 F1D0_written written replaced
written_ready = search (P3_writes.objects_after may_write, arith)

-- P4: the 17 bytes read back
unfoldable pub P4 : List ℕ
P4 = hex "01 00 00 06 F1 D0 00 00 00 11"

pub may_read : MayRead P4 (length room) (seen (replaced F1D0_written factory_objects) opened) F1D0_written
unfolding computed P4 F1D0_written
may_read = search arith

pub read_back : step P4 room written opened ≡
    record { outcome = 0; room = put_in_front (done_response (zeros 9 ++ hex "01 02 03 04 05 06 07 08")) room; store = written; session = opened }
unfolding computed P4 F1D0_written replaced
read_back = read_keeps P4 room written opened (replaced F1D0_written factory_objects) F1D0_written written_ready refl refl refl may_read

-- with a length past used: the same 17 bytes, in a room of 21, which the length asked does not fit
unfoldable pub past_used : List ℕ
past_used = hex "01 00 00 06 F1 D0 00 00 00 12"

unfoldable pub just_room : List ℕ
just_room = replicate 21 0xEE

pub just_ready : Ready just_room written opened (replaced F1D0_written factory_objects)
unfolding computed F1D0_written just_room
just_ready = let r = written_ready in search (r, arith)

pub may_read_short : MayRead past_used (length just_room) (seen (replaced F1D0_written factory_objects) opened) F1D0_written
unfolding computed past_used just_room F1D0_written
may_read_short = search arith

pub short_read : step past_used just_room written opened ≡
    record { outcome = 0; room = done_response (zeros 9 ++ hex "01 02 03 04 05 06 07 08"); store = written; session = opened }
unfolding computed past_used just_room F1D0_written replaced put_in_front done_response
short_read = read_keeps past_used just_room written opened (replaced F1D0_written factory_objects) F1D0_written just_ready refl refl refl may_read_short

-- a read that is done, with nothing assumed
pub P4_shown : Shown P4 room written opened (step P4 room written opened)
unfolding computed P4 is_done done_response put_in_front
P4_shown = read_only_when P4 room written opened refl (ap is_done read_back)

-- P9: the last error read, where it is 07
unfoldable pub P9 : List ℕ
P9 = hex "01 00 00 06 F1 C2 00 00 00 01"

unfoldable pub erred : Session
erred = with_error 0x07 opened

pub erred_ready : Ready room factory_store erred factory_objects
unfolding computed erred
erred_ready = search (factory_sound, arith)

pub may_read_byte : MayReadByte P9 (length room) erred 0x07
unfolding computed P9 erred
may_read_byte = search arith

pub error_read : step P9 room factory_store erred ≡
    record { outcome = 0; room = put_in_front (done_response (0x07 ∷ [])) room; store = factory_store; session = opened }
unfolding computed P9 erred after_byte
error_read = byte_read_when P9 room factory_store erred factory_objects 0x07 erred_ready refl may_read_byte

-- and at offset 1: nothing is shown, and the error stays
unfoldable pub behind_error : List ℕ
behind_error = hex "01 00 00 06 F1 C2 00 01 00 01"

pub may_read_nothing : MayReadByte behind_error (length room) erred 0x07
unfolding computed behind_error erred
may_read_nothing = search arith

pub error_kept : step behind_error room factory_store erred ≡
    record { outcome = 0; room = put_in_front (done_response []) room; store = factory_store; session = erred }
unfolding computed behind_error erred after_byte
error_kept = byte_read_when behind_error room factory_store erred factory_objects 0x07 erred_ready refl may_read_nothing

-- a counter of 255 trips to 300, and a count of 45 that brings it there
unfoldable pub E120 : Object
E120 =
    record {
      number = 0xE120;
      kind = Counter Up;
      maximum = 8;
      lcso = 0x01;
      change = always;
      read = always;
      execute = always;
      content = hex "00 00 00 FF 00 00 01 2C";
    }

unfoldable pub count_45 : List ℕ
count_45 = hex "02 02 00 05 E1 20 00 00 2D"

pub counter_ready : Ready room (pack (E120 ∷ [])) opened (E120 ∷ [])
unfolding computed allowing E120
counter_ready = let sound = unpack_pack (E120 ∷ []) refl in search (sound, arith)

pub may_count : MayWrite Count count_45 (seen (E120 ∷ []) opened) E120
unfolding computed E120 count_45
may_count = search

pub counts_on : step count_45 room (pack (E120 ∷ [])) opened ≡
    record {
      outcome = 0;
      room = put_in_front (done_response []) room;
      store = pack (with_content (hex "00 00 01 2C 00 00 01 2C") E120 ∷ []);
      session = opened;
    }
unfolding computed E120 count_45 replaced
counts_on = (write_exactly_when count_45 room (pack (E120 ∷ [])) opened (E120 ∷ []) E120 counter_ready Count refl refl refl).when may_count

-- conditions that use up a counter ------------------------------------------------------------------------------------------

-- 40 E1 20: while E120 is below its threshold
unfoldable pub while_E120 : Expression
while_E120 = when (only (just (record { subject = 0x40; relation = 0xE1; reference = 0x20 })))

pub while_E120_bytes : expression_bytes while_E120 ≡ hex "40 E1 20"
unfolding computed while_E120 expression_bytes groups_bytes group_bytes condition_bytes
while_E120_bytes = refl

-- three bytes that are changed and read only at the counter's cost
unfoldable pub F1D1 : Object
F1D1 =
    record {
      number = 0xF1D1;
      kind = Data;
      maximum = 4;
      lcso = 0x01;
      change = while_E120;
      read = while_E120;
      execute = never;
      content = hex "AA BB CC";
    }

-- the counter after one use, and the bytes after 11 is written at 1
unfoldable pub E120_used : Object
E120_used = with_content (hex "00 00 01 00 00 00 01 2C") E120

unfoldable pub F1D1_written : Object
F1D1_written = with_content (hex "AA 11 CC") F1D1

pub costly_ready : Ready room (pack (E120 ∷ F1D1 ∷ [])) opened (E120 ∷ F1D1 ∷ [])
unfolding computed allowing E120 F1D1 while_E120
costly_ready = let sound = unpack_pack (E120 ∷ F1D1 ∷ []) refl in search (sound, arith)

unfoldable pub write_11 : List ℕ
write_11 = hex "02 00 00 05 F1 D1 00 01 11"

pub may_write_11 : MayWrite Write write_11 (seen (E120 ∷ F1D1 ∷ []) opened) F1D1
unfolding computed E120 F1D1 while_E120 write_11
may_write_11 = search

-- the byte is written and the counter goes up by one
pub write_11_writes : WritesExactly Write write_11 room (pack (E120 ∷ F1D1 ∷ [])) opened (E120 ∷ F1D1 ∷ []) F1D1
    (step write_11 room (pack (E120 ∷ F1D1 ∷ [])) opened)
unfolding computed E120 F1D1 write_11
write_11_writes = write_exactly_when write_11 room (pack (E120 ∷ F1D1 ∷ [])) opened (E120 ∷ F1D1 ∷ []) F1D1 costly_ready Write refl refl refl

pub write_11_done : step write_11 room (pack (E120 ∷ F1D1 ∷ [])) opened ≡
    record { outcome = 0; room = put_in_front (done_response []) room; store = pack (E120_used ∷ F1D1_written ∷ []); session = opened }
unfolding computed E120 E120_used F1D1 F1D1_written while_E120 write_11 replaced
write_11_done = write_11_writes.when may_write_11

pub write_11_uses_up : UsedUp (0xE120 ∷ []) (E120 ∷ F1D1_written ∷ []) (E120_used ∷ F1D1_written ∷ [])
unfolding computed E120 E120_used F1D1 F1D1_written while_E120 write_11 replaced
write_11_uses_up = write_11_writes.uses_up may_write_11

-- a read shows the bytes, and the counter goes up by one
unfoldable pub read_3 : List ℕ
read_3 = hex "01 00 00 06 F1 D1 00 00 00 03"

pub may_read_3 : MayRead read_3 (length room) (seen (E120 ∷ F1D1 ∷ []) opened) F1D1
unfolding computed E120 F1D1 while_E120 read_3
may_read_3 = search arith

pub read_3_reads : ReadsExactly read_3 room (pack (E120 ∷ F1D1 ∷ [])) opened (E120 ∷ F1D1 ∷ []) F1D1 (step read_3 room (pack (E120 ∷ F1D1 ∷ [])) opened)
unfolding computed E120 F1D1 read_3
read_3_reads = read_exactly_when read_3 room (pack (E120 ∷ F1D1 ∷ [])) opened (E120 ∷ F1D1 ∷ []) F1D1 costly_ready refl refl

pub read_3_done : step read_3 room (pack (E120 ∷ F1D1 ∷ [])) opened ≡
    record { outcome = 0; room = put_in_front (done_response (hex "AA BB CC")) room; store = pack (E120_used ∷ F1D1 ∷ []); session = opened }
unfolding computed E120 E120_used F1D1 while_E120 read_3
read_3_done = read_3_reads.when may_read_3

pub read_3_uses_up : UsedUp (0xE120 ∷ []) (E120 ∷ F1D1 ∷ []) (E120_used ∷ F1D1 ∷ [])
unfolding computed E120 E120_used F1D1 while_E120 read_3
read_3_uses_up = read_3_reads.uses_up may_read_3

-- its metadata sent back changes nothing but the counter
pub F1D1_sent_back : sent_back F1D1 ≡ hex "02 01 00 14 F1 D1 20 10 C0 01 01 D0 03 40 E1 20 D1 03 40 E1 20 D3 01 FF"
unfolding computed F1D1 while_E120 sent_back without_sizes object_fields expression_bytes groups_bytes group_bytes condition_bytes
F1D1_sent_back = refl

pub sent_back_done : step (sent_back F1D1) room (pack (E120 ∷ F1D1 ∷ [])) opened ≡
    record { outcome = 0; room = put_in_front (done_response []) room; store = pack (E120_used ∷ F1D1 ∷ []); session = opened }
unfolding computed E120 E120_used F1D1 while_E120
sent_back_done = send_back room (pack (E120 ∷ F1D1 ∷ [])) opened (E120 ∷ F1D1 ∷ []) 0xF1D1 F1D1 costly_ready refl refl

-- a counter that is changed and read at its own cost: 40 E1 20 FD 40 E1 20, and 40 E1 20
unfoldable pub own_E120 : Object
own_E120 =
    record {
      number = 0xE120;
      kind = Counter Up;
      maximum = 8;
      lcso = 0x01;
      change = let c : Condition = record { subject = 0x40; relation = 0xE1; reference = 0x20 } in when (only (c and just c));
      read = while_E120;
      execute = never;
      content = hex "00 00 00 FF 00 00 01 2C";
    }

pub own_ready : Ready room (pack (own_E120 ∷ [])) opened (own_E120 ∷ [])
unfolding computed allowing own_E120 while_E120
own_ready = let sound = unpack_pack (own_E120 ∷ []) refl in search (sound, arith)

-- it is shown before its step
unfoldable pub read_own : List ℕ
read_own = hex "01 00 00 06 E1 20 00 00 00 08"

pub may_read_own : MayRead read_own (length room) (seen (own_E120 ∷ []) opened) own_E120
unfolding computed own_E120 while_E120 read_own
may_read_own = search arith

pub read_own_done : step read_own room (pack (own_E120 ∷ [])) opened ≡
    record {
      outcome = 0;
      room = put_in_front (done_response (hex "00 00 00 FF 00 00 01 2C")) room;
      store = pack (with_content (hex "00 00 01 00 00 00 01 2C") own_E120 ∷ []);
      session = opened;
    }
unfolding computed own_E120 while_E120 read_own
read_own_done = (read_exactly_when read_own room (pack (own_E120 ∷ [])) opened (own_E120 ∷ []) own_E120 own_ready refl refl).when may_read_own

-- written with 5 of 9 it steps once, after the write
unfoldable pub write_5_of_9 : List ℕ
write_5_of_9 = hex "02 00 00 0C E1 20 00 00 00 00 00 05 00 00 00 09"

pub may_write_5_of_9 : MayWrite Write write_5_of_9 (seen (own_E120 ∷ []) opened) own_E120
unfolding computed own_E120 write_5_of_9
may_write_5_of_9 = search

pub write_5_of_9_done : step write_5_of_9 room (pack (own_E120 ∷ [])) opened ≡
    record {
      outcome = 0;
      room = put_in_front (done_response []) room;
      store = pack (with_content (hex "00 00 00 06 00 00 00 09") own_E120 ∷ []);
      session = opened;
    }
unfolding computed own_E120 write_5_of_9 replaced
write_5_of_9_done = (write_exactly_when write_5_of_9 room (pack (own_E120 ∷ [])) opened (own_E120 ∷ []) own_E120 own_ready Write refl refl refl).when may_write_5_of_9

-- and written with 9 of 9 it stays there
unfoldable pub write_9_of_9 : List ℕ
write_9_of_9 = hex "02 00 00 0C E1 20 00 00 00 00 00 09 00 00 00 09"

pub may_write_9_of_9 : MayWrite Write write_9_of_9 (seen (own_E120 ∷ []) opened) own_E120
unfolding computed own_E120 write_9_of_9
may_write_9_of_9 = search

pub write_9_of_9_done : step write_9_of_9 room (pack (own_E120 ∷ [])) opened ≡
    record {
      outcome = 0;
      room = put_in_front (done_response []) room;
      store = pack (with_content (hex "00 00 00 09 00 00 00 09") own_E120 ∷ []);
      session = opened;
    }
unfolding computed own_E120 write_9_of_9 replaced
write_9_of_9_done = (write_exactly_when write_9_of_9 room (pack (own_E120 ∷ [])) opened (own_E120 ∷ []) own_E120 own_ready Write refl refl refl).when may_write_9_of_9

-- a fare queue -------------------------------------------------------------------------------------------------------------

-- F1D2, with room for two fares of 2 bytes
unfoldable pub F1D2 : List ℕ → Object
F1D2 content =
    record { number = 0xF1D2; kind = Queue; maximum = 33; lcso = 0x01; change = always; read = always; execute = never; content = content }

-- its bytes with next number FFFF, empty; then with one fare, A1 A2; then with two, the second B1 B2; and with the second alone
unfoldable pub no_fare : List ℕ
no_fare = hex "FF FF 00 00"

unfoldable pub one_fare : List ℕ
one_fare = hex "00 00 01 00 0A 00 01 00 FF FF 00 00 A1 A2"

unfoldable pub two_fares : List ℕ
two_fares = hex "01 00 01 00 0A 00 01 00 FF FF 00 00 A1 A2 0A 00 01 00 00 00 01 00 B1 B2"

unfoldable pub second_fare : List ℕ
second_fare = hex "01 00 01 00 0A 00 01 00 00 00 01 00 B1 B2"

unfoldable pub with_queue : List ℕ → List Object
with_queue content = F1D0 ∷ F1D2 content ∷ []

pub one_fare_ready : Ready room (pack (with_queue one_fare)) opened (with_queue one_fare)
unfolding computed allowing with_queue F1D2 one_fare
one_fare_ready = let sound = unpack_pack (with_queue one_fare) refl in search (sound, arith)

pub two_fares_ready : Ready room (pack (with_queue two_fares)) opened (with_queue two_fares)
unfolding computed allowing with_queue F1D2 two_fares
two_fares_ready = let sound = unpack_pack (with_queue two_fares) refl in search (sound, arith)

-- B1 B2 appended
unfoldable pub append_B : List ℕ
append_B = hex "02 04 00 04 F1 D2 B1 B2"

pub may_append : MayWrite Append append_B (seen (with_queue one_fare) opened) (F1D2 one_fare)
unfolding computed with_queue F1D2 one_fare append_B
may_append = search

pub append_done : step append_B room (pack (with_queue one_fare)) opened ≡
    record { outcome = 0; room = put_in_front (done_response []) room; store = pack (with_queue two_fares); session = opened }
unfolding computed with_queue F1D2 one_fare two_fares append_B replaced
append_done =
    (write_exactly_when append_B room (pack (with_queue one_fare)) opened (with_queue one_fare) (F1D2 one_fare) one_fare_ready Append refl refl refl).when may_append

-- FFFF acknowledged
unfoldable pub acknowledge_FFFF : List ℕ
acknowledge_FFFF = hex "02 05 00 06 F1 D2 00 00 FF FF"

pub may_acknowledge : MayWrite Acknowledge acknowledge_FFFF (seen (with_queue two_fares) opened) (F1D2 two_fares)
unfolding computed with_queue F1D2 two_fares acknowledge_FFFF
may_acknowledge = search

pub acknowledge_done : step acknowledge_FFFF room (pack (with_queue two_fares)) opened ≡
    record { outcome = 0; room = put_in_front (done_response []) room; store = pack (with_queue second_fare); session = opened }
unfolding computed with_queue F1D2 two_fares second_fare acknowledge_FFFF replaced
acknowledge_done =
    (write_exactly_when acknowledge_FFFF room (pack (with_queue two_fares)) opened (with_queue two_fares) (F1D2 two_fares) two_fares_ready Acknowledge
    refl refl refl).when may_acknowledge

-- a plain write of one byte there: well formed, its change condition holds, it would fit; but it is excepted, so it is not done and nothing is stored
unfoldable pub plain_write : List ℕ
plain_write = hex "02 00 00 05 F1 D2 00 00 11"

pub plain_excepted : (well_formed plain_write ≡ true) × (holds (seen (with_queue two_fares) opened) 0x01 always ≡ true) ×
    (content_allowed Write plain_write (F1D2 two_fares) ≡ true) × (excepted Write (F1D2 two_fares) ≡ true)
unfolding computed with_queue F1D2 two_fares plain_write
plain_excepted = (refl, refl, refl, refl)

pub plain_writes : WritesExactly Write plain_write room (pack (with_queue two_fares)) opened (with_queue two_fares) (F1D2 two_fares)
    (step plain_write room (pack (with_queue two_fares)) opened)
unfolding computed with_queue F1D2 two_fares plain_write
plain_writes = write_exactly_when plain_write room (pack (with_queue two_fares)) opened (with_queue two_fares) (F1D2 two_fares) two_fares_ready Write refl refl refl

pub plain_not_done : is_done (step plain_write room (pack (with_queue two_fares)) opened) ≡ false
unfolding computed F1D2
plain_not_done =
    by_test (is_done (step plain_write room (pack (with_queue two_fares)) opened)) (λ d. absurd (false≢true (sym (plain_writes.only_when d).not_excepted)))
    (λ d. d)

pub plain_kept : (step plain_write room (pack (with_queue two_fares)) opened).store ≡ pack (with_queue two_fares)
plain_kept = plain_writes.else_kept plain_not_done

-- two lists, and a mix of them that takes from each in turn ---------------------------------------------------------------------------

abbrev turn : List ℕ → Turn
turn c = record { command = c; room = room }

unfoldable pub on_F1D0 : List Turn
on_F1D0 = turn P3 ∷ turn P4 ∷ []

-- the sheet's byte at 1,499 of F1E0; and that byte read back
unfoldable pub last_byte : List ℕ
last_byte = hex "02 00 00 05 F1 E0 05 DB AA"

unfoldable pub last_byte_back : List ℕ
last_byte_back = hex "01 00 00 06 F1 E0 05 DB 00 01"

unfoldable pub on_F1E0 : List Turn
on_F1E0 = turn last_byte ∷ turn last_byte_back ∷ []

unfoldable pub in_turn : List Turn
in_turn = turn P3 ∷ turn last_byte ∷ turn P4 ∷ turn last_byte_back ∷ []

-- the factory store and the opened session
unfoldable pub begun : Kept
begun = record { store = factory_store; session = opened }

pub taken_in_turn : Mix on_F1D0 on_F1E0 in_turn
unfolding on_F1D0 on_F1E0 in_turn
taken_in_turn = first (second (first (second both_used_up)))

outside : (k n : ℕ) → in_session k ≡ false → some k ≡ some n → in_session n ≡ false
outside k n h e = let same : k ≡ n = cc in ap in_session (sym same) ∙ h

-- commands on the object of number k that set no metadata, where it is o
record OnOne (ts : List Turn) (begin : Kept) (k : ℕ) (o : Object) : Type 0 where
  objects : List Object
  store_sound : unpack begin.store ≡ some objects
  there : find k objects ≡ some o
  plain : All Plain ts
  no_metadata : All (λ t. sets_metadata (row t.command) ≡ false) ts
  each_names : All (λ t. object_of t.command ≡ some k) ts

-- they name no other object
one_named : (ts : List Turn) (k n : ℕ) → All (λ t. object_of t.command ≡ some k) ts → Names ts n → k ≡ n
one_named [] k n a h = absurd h
one_named (t ∷ ts) k n a (inl e) = let f = a.0 in cc
one_named (t ∷ ts) k n a (inr h) = one_named ts k n a.1 h

-- and no counter but those in the conditions of o
one_counted : {ts : List Turn} {begin : Kept} {k : ℕ} {o : Object} → OnOne ts begin k o → (n : ℕ) → NamesCounter ts begin n →
    among (object_counters o) n ≡ true
one_counted {ts} {begin} {k} {o} one n h =
    let on = during_before ts ts begin n one.plain one.no_metadata h in
    let objects : on.objects ≡ one.objects = some-injective _ _ (sym on.store_sound ∙ one.store_sound) in
    let number : on.number ≡ k = sym (one_named ts k on.number one.each_names on.list_names) in
    let object : on.object ≡ o = some-injective _ _ (sym on.there ∙ (λ i. find (number i) (objects i)) ∙ one.there) in
    rw object at on.condition_names

touched : {ts : List Turn} {begin : Kept} {k : ℕ} {o : Object} → OnOne ts begin k o → (n : ℕ) → Names ts n ⊎ NamesCounter ts begin n →
    among (k ∷ object_counters o) n ≡ true
unfolding among
touched {ts} {begin} {k} {o} one n (inl h) = rw (eq-eqb n k (sym (one_named ts k n one.each_names h)))
touched {ts} {begin} {k} {o} one n (inr h) = among_right (k ∷ []) (object_counters o) n (one_counted one n h)

-- no number is in both
none_in_both : (ms ns : List ℕ) → all (map (λ m. not (among ns m)) ms) ≡ true → (n : ℕ) → among ms n ≡ true → among ns n ≡ true → ⊥
unfolding all among
none_in_both [] ns t n h k = false≢true h
none_in_both (m ∷ ms) ns t n h k =
    by_test (eqb n m) (λ e. false≢true (sym (not-true _ (and_left _ _ t)) ∙ ap (among ns) (sym (eqb-true n m e)) ∙ k))
    (λ e. none_in_both ms ns (and_right (not (among ns m)) _ t) n (rw e at h) k)

-- lists on two objects, neither of which, nor a counter in its conditions, is the other's
two_on : {xs ys : List Turn} {begin : Kept} {j k : ℕ} {o p : Object} → OnOne xs begin j o → OnOne ys begin k p →
    all (map (λ m. not (among (k ∷ object_counters p) m)) (j ∷ object_counters o)) ≡ true → TwoLists xs ys begin
two_on {j = j} {k = k} {o = o} {p = p} x y t =
    let apart = none_in_both (j ∷ object_counters o) (k ∷ object_counters p) t in
    record {
      first_plain = x.plain;
      second_plain = y.plain;
      no_common_object = λ n a b. apart n (touched x n (inl a)) (touched y n (inl b));
      first_counters_apart = λ n a b. apart n (touched x n (inr a)) (touched y n b);
      second_counters_apart = λ n a b. apart n (touched x n b) (touched y n (inr a));
    }

-- `unfolding counters` opens the counters that conditions name
counters : List Bool
unfolding names_counter counter_number condition_counters group_counters groups_counters expression_counters object_counters
counters = []

-- the factory's conditions are on no counter
all_on_F1D0 : OnOne on_F1D0 begun 0xF1D0 F1D0
unfolding computed P3 P4 on_F1D0 begun sets_metadata
all_on_F1D0 = search (factory_sound, outside) depth 8

unfoldable pub F1E0 : Object
F1E0 = made (entry 0xF1E0 1500)

all_on_F1E0 : OnOne on_F1E0 begun 0xF1E0 F1E0
unfolding computed last_byte last_byte_back on_F1E0 begun F1E0 sets_metadata
all_on_F1E0 = search (factory_sound, outside) depth 8

pub two_lists : TwoLists on_F1D0 on_F1E0 begun
unfolding computed counters F1E0
two_lists = two_on all_on_F1D0 all_on_F1E0 refl

-- so demand 3 holds of them
pub mixed_lists : Mixed reply left on_F1D0 on_F1E0 in_turn taken_in_turn begun
mixed_lists = lists_mix taken_in_turn begun two_lists

-- two lists that use up counters, each its own ---------------------------------------------------------------------------------------

-- an up counter of one trip
unfoldable pub trip : ℕ → Object
trip n =
    record {
      number = n;
      kind = Counter Up;
      maximum = 8;
      lcso = 0x01;
      change = always;
      read = always;
      execute = always;
      content = hex "00 00 00 00 00 00 00 01";
    }

-- 40 and a counter's number
unfoldable pub while_below : ℕ → Expression
while_below n = when (only (just (record { subject = 0x40; relation = n / 256; reference = n % 256 })))

-- a data object of 2 bytes that is written while a counter is below its threshold
unfoldable pub ticket : ℕ → ℕ → Object
ticket n counter =
    record {
      number = n;
      kind = Data;
      maximum = 2;
      lcso = 0x01;
      change = while_below counter;
      read = always;
      execute = always;
      content = [];
    }

unfoldable pub tickets : List Object
tickets = trip 0xE120 ∷ trip 0xE121 ∷ ticket 0xF1D0 0xE120 ∷ ticket 0xF1E0 0xE121 ∷ []

unfoldable pub sold : Kept
sold = record { store = pack tickets; session = opened }

-- two writes of each: the first uses up the counter, so that the second is refused
unfoldable pub on_first : List Turn
on_first = turn (hex "02 00 00 05 F1 D0 00 00 01") ∷ turn (hex "02 00 00 05 F1 D0 00 01 02") ∷ []

unfoldable pub on_second : List Turn
on_second = turn (hex "02 00 00 05 F1 E0 00 00 03") ∷ turn (hex "02 00 00 05 F1 E0 00 01 04") ∷ []

tickets_sound : unpack (pack tickets) ≡ some tickets
unfolding computed tickets trip ticket while_below size_with objects_allowed_with object_allowed_with all_allowed_with expression_allowed_with data_allowed counters condition_allowed group_allowed groups_allowed group_size conditions groups
tickets_sound = unpack_pack tickets refl

all_on_first : OnOne on_first sold 0xF1D0 (ticket 0xF1D0 0xE120)
unfolding computed on_first sold sets_metadata tickets trip ticket
all_on_first = let sound = tickets_sound in search (sound, outside) depth 8

all_on_second : OnOne on_second sold 0xF1E0 (ticket 0xF1E0 0xE121)
unfolding computed on_second sold sets_metadata tickets trip ticket
all_on_second = let sound = tickets_sound in search (sound, outside) depth 8

pub two_with_counters : TwoLists on_first on_second sold
unfolding computed counters ticket while_below
two_with_counters = two_on all_on_first all_on_second refl

-- the first write of each is granted by its counter, and uses it up
pub counter_used : uses (seen tickets opened) 0x01 (while_below 0xE120) ≡ 0xE120 ∷ []
unfolding computed counters tickets trip ticket while_below usable condition_holds group_holds groups_grant grant
counter_used = refl

pub mixed_with_counters : {zs : List Turn} (m : Mix on_first on_second zs) → Mixed reply left on_first on_second zs m sold
mixed_with_counters m = lists_mix m sold two_with_counters

-- a queue over a run ------------------------------------------------------------------------------------------------------------------

-- from the empty queue: two fares, a third that does not fit, the first acknowledged, the third again, a plain write, a write to another object, and
-- the second acknowledged, with the flush bit
unfoldable pub fare_turns : List Turn
fare_turns =
    turn (hex "02 04 00 04 F1 D2 A1 A2") ∷ turn (hex "02 04 00 04 F1 D2 B1 B2") ∷ turn (hex "02 04 00 04 F1 D2 C1 C2") ∷
    turn (hex "02 05 00 06 F1 D2 00 00 FF FF") ∷ turn (hex "02 04 00 04 F1 D2 C1 C2") ∷ turn (hex "02 00 00 05 F1 D2 00 00 11") ∷
    turn (hex "02 00 00 05 F1 D0 00 00 11") ∷ turn (hex "82 05 00 06 F1 D2 00 01 00 00") ∷ []

unfoldable pub boarding : Kept
boarding = record { store = pack (with_queue no_fare); session = opened }

pub boarding_queue : stored_queue 0xF1D2 boarding.store ≡ some (empty_queue 0xFFFF)
unfolding bench.computed computed with_queue F1D2 no_fare boarding stored_queue queue_of
boarding_queue = refl

-- so the theorem holds of it
pub fares_kept : QueueKept 0xF1D2 (empty_queue 0xFFFF) fare_turns (run fare_turns boarding)
fares_kept = queue_kept 0xF1D2 (empty_queue 0xFFFF) fare_turns boarding boarding_queue

-- which are answered 00
pub fares_answered : map answered_00 (run fare_turns boarding).replies ≡ true ∷ true ∷ false ∷ true ∷ true ∷ false ∷ true ∷ true ∷ []
unfolding bench.computed computed with_queue F1D2 no_fare boarding fare_turns answered_00
fares_answered = refl

-- and what the host notes
pub fares_noted : account 0xF1D2 fare_turns (run fare_turns boarding).replies (opening (empty_queue 0xFFFF)) ≡
    record {
      next = 0x10002;
      accepted = fare 0xFFFF (hex "A1 A2") ∷ fare 0x10000 (hex "B1 B2") ∷ fare 0x10001 (hex "C1 C2") ∷ [];
      acknowledged = fare 0xFFFF (hex "A1 A2") ∷ fare 0x10000 (hex "B1 B2") ∷ [];
      outstanding = fare 0x10001 (hex "C1 C2") ∷ [];
    }
unfolding bench.computed computed with_queue F1D2 no_fare boarding fare_turns answered_00 account opening noted after_append after_acknowledge appends acknowledges up_to
fares_noted = refl

-- the queue that is left
pub fares_left : stored_queue 0xF1D2 (run fare_turns boarding).kept.store ≡ some (record { next = 0x10002; fares = fare 0x10001 (hex "C1 C2") ∷ [] })
unfolding bench.computed computed with_queue F1D2 no_fare boarding fare_turns stored_queue queue_of
fares_left = refl

-- a fare that was accepted, C1 C2, once the first of two fares was acknowledged
unfoldable pub append_C : Turn
append_C = turn (hex "02 04 00 04 F1 D2 C1 C2")

unfoldable pub earlier : List Turn
earlier = turn acknowledge_FFFF ∷ []

unfoldable pub riding : Kept
riding = record { store = pack (with_queue two_fares); session = opened }

unfoldable pub riding_fares : FareQueue
riding_fares = record { next = 0x10001; fares = fare 0xFFFF (hex "A1 A2") ∷ fare 0x10000 (hex "B1 B2") ∷ [] }

-- what is kept when it is sent
abbrev sent : Kept
sent = (run earlier riding).kept

pub riding_queue : stored_queue 0xF1D2 riding.store ≡ some riding_fares
unfolding bench.computed computed with_queue F1D2 two_fares riding riding_fares stored_queue queue_of
riding_queue = refl

pub C_appends : appends 0xF1D2 append_C.command ≡ true
unfolding computed append_C appends
C_appends = refl

pub C_answered : answered_00 (reply append_C sent) ≡ true
unfolding bench.computed computed with_queue F1D2 two_fares riding earlier acknowledge_FFFF append_C answered_00
C_answered = refl

pub C_number : (account 0xF1D2 earlier (run earlier riding).replies (opening riding_fares)).next ≡ 0x10001
unfolding bench.computed computed with_queue F1D2 two_fares riding riding_fares earlier acknowledge_FFFF answered_00 account opening noted after_append after_acknowledge appends acknowledges
C_number = refl

pub C_never_lost : (us : List Turn) → NeverLost 0xF1D2 riding_fares earlier append_C us (run earlier riding).replies (run us (left append_C sent)).replies
    (run us (left append_C sent)).kept.store
unfolding earlier run answers end
C_never_lost us =
    never_lost 0xF1D2 riding_fares earlier append_C us riding (run earlier riding).replies (reply append_C sent) (run us (left append_C sent)).replies
    riding_queue refl refl C_appends C_answered

-- after an acknowledgement of the one before it and a plain write it is present
unfoldable pub one_before : List Turn
one_before = turn (hex "02 05 00 06 F1 D2 00 01 00 00") ∷ turn plain_write ∷ []

-- commands of which none acknowledges a number so high
none_acknowledges : (n m : ℕ) (us : List Turn) (rs : List Reply) →
    all (map (λ (u : Turn). not (acknowledges n u.command) || ltb (sent_number u.command) m) us) ≡ true → Acknowledged n m us rs → ⊥
unfolding all
none_acknowledges n m [] rs h a = a
none_acknowledges n m (u ∷ us) [] h a = a
none_acknowledges n m (u ∷ us) (r ∷ rs) h (inl (done, l)) =
    let own = rw (and_left (acknowledges n u.command) _ done) at (and_left (not (acknowledges n u.command) || ltb (sent_number u.command) m) _ h) in
    let below = ltb-true (sent_number u.command) m own in
    omega arith
none_acknowledges n m (u ∷ us) (r ∷ rs) h (inr a) =
    none_acknowledges n m us rs (and_right (not (acknowledges n u.command) || ltb (sent_number u.command) m) _ h) a

pub C_not_acknowledged : Acknowledged 0xF1D2 0x10001 one_before (run one_before (left append_C sent)).replies → ⊥
unfolding computed one_before plain_write acknowledges
C_not_acknowledged = none_acknowledges 0xF1D2 0x10001 one_before (run one_before (left append_C sent)).replies refl

pub C_present : Among (fare 0x10001 (sent_body append_C.command)) (present_fares 0xF1D2 (run one_before (left append_C sent)).kept.store)
C_present = by (rw C_number at (C_never_lost one_before)) C_not_acknowledged
  where
    by : {A B : Type 0} → A ⊎ B → (B → ⊥) → A
    by (inl a) not_b = a
    by (inr b) not_b = absurd (not_b b)

-- and after its own acknowledgement it is not
unfoldable pub itself : List Turn
itself = turn (hex "02 05 00 06 F1 D2 00 01 00 01") ∷ []

pub none_left : present_fares 0xF1D2 (run itself (left append_C sent)).kept.store ≡ []
unfolding bench.computed computed with_queue F1D2 two_fares riding earlier acknowledge_FFFF append_C itself stored_queue queue_of
none_left = refl

pub C_acknowledged : Acknowledged 0xF1D2 0x10001 itself (run itself (left append_C sent)).replies
C_acknowledged = by (rw C_number at (C_never_lost itself)) (λ m. rw none_left at m)
  where
    by : {A B : Type 0} → A ⊎ B → (A → ⊥) → B
    by (inl a) not_a = absurd (not_a a)
    by (inr b) not_a = b

-- what is asked --------------------------------------------------------------------------------------------------------------------------

-- of every two lists, no more is asked than the demand's words: each command a read or write, none that names an object of the session, none with
-- the flush bit, no object number named in both, and no counter named in a condition of one list's objects that is an object or a named counter of
-- the other list's
pub plain_when : (t : Turn) → reads_or_writes t.command ≡ true → ((n : ℕ) → object_of t.command ≡ some n → in_session n ≡ false) →
    asks_flush t.command ≡ false → Plain t
plain_when t r o f = search

pub two_lists_when : (xs ys : List Turn) (k : Kept) → All Plain xs → All Plain ys → ((n : ℕ) → Names xs n → Names ys n → ⊥) →
    ((n : ℕ) → NamesCounter xs k n → Names ys n ⊎ NamesCounter ys k n → ⊥) →
    ((n : ℕ) → NamesCounter ys k n → Names xs n ⊎ NamesCounter xs k n → ⊥) → TwoLists xs ys k
two_lists_when xs ys k p q d c e = search
