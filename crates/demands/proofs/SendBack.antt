-- The send-back case: where an object's change expression holds, its metadata read back, without C4 and C5, may be sent in and changes
-- nothing but the counters that the expression uses up.
use Prim.Native.Nat.{ℕ, ◌+◌, ◌*◌, ◌-◌, ◌≤◌}
use mathlib.Core.Bool.{true}
use mathlib.Core.List.{List, []}
use mathlib.Core.Option.{some}
use mathlib.Core.Path.{◌≡◌, refl, ap, ◌∙◌}
use native.Mathlib.Omega.{arith}
use borrow.Author.Tests.{le-ltb, eq-eqb, le-leb}
use lib.ListN.{length, length-append}
use Rattle.rules.specs.declared.Session.{Session}
use Rattle.rules.specs.declared.Action.TheVariants.{SetMetadata}
use Rattle.rules.specs.declared.Row.TheVariants.{OnObject}
use Rattle.rules.specs.Command.{asks_flush, cmd, param, in_length, in_data, Line, at_least, size_right, anything, table_line, command_table, line_in, line_of, row, object_number, sent_metadata}
use Rattle.rules.specs.Response.{done_response, put_in_front}
use Rattle.rules.specs.Expression.{slot_size}
use Rattle.rules.specs.Object.{Object}
use Rattle.rules.specs.Layout.{unpack, pack, find, replaced}
use Rattle.rules.specs.Metadata.{field, fields_bytes, led_by_20, with_fields}
use Rattle.rules.specs.Access.{seen, expression_counters, holds, all_used_up}
use Rattle.rules.specs.Refusals.{ill_sized, wrong_length}
use Rattle.rules.specs.Step.{flushed, step}
use Rattle.demands.specs.Demand.{Ready, MayWrite, WritesExactly, well_formed, writes, content_allowed, changed, excepted, uses, UsedUp, after_write, sent_back}
use Rattle.laws.proofs.Expressions.{expression_length}
use Rattle.laws.proofs.Facts.{Allowed}
use Rattle.laws.proofs.Inverse.{two_bytes, pack_unpack}
use Rattle.laws.proofs.Places.{replaced_itself}
use Rattle.laws.proofs.Named.{FoundThere, found_there}
use Rattle.laws.proofs.UsedUp.{none_used_up, grant_uses_none}
use Rattle.demands.proofs.Metadata.{own_fields, own_sent, own_allowed, own_changes_nothing}
use Rattle.demands.proofs.Demand2.{grant_used_up, write_exactly_when}

-- 20, L and the fields
own_content : Object → List ℕ
own_content o = led_by_20 (fields_bytes (own_fields o))

-- at most 20, L, C0 and three expressions
content_short : (o : Object) → Allowed o → length (own_content o) ≤ 14 + 3 * (slot_size - 1)
unfolding own_content led_by_20 own_fields fields_bytes field
content_short o f =
    simp length-append
    (omega (arith, expression_length o.change f.change, expression_length o.read f.read, expression_length o.execute f.execute))

module _ (o : Object) (f : Allowed o) where
  abbrev c : List ℕ
  c = sent_back o

  line_is : line_of c ≡ table_line 0x02 0x01 (at_least 4) anything (OnObject SetMetadata)
  unfolding sent_back line_of line_in command_table table_line cmd param
  line_is = refl

  formed : well_formed c ≡ true
  unfolding well_formed ill_sized wrong_length size_right table_line
  formed =
      let s = content_short o f in
      let length_is : in_length c ≡ 2 + length (own_content o) =
      unfold sent_back own_content own_fields in_length in omega (arith, two_bytes (2 + length (own_content o))) in
      let least : 4 ≤ length c = unfold sent_back own_content own_fields in omega arith in
      let most : length c ≤ 1557 = unfold sent_back own_content own_fields in omega arith in
      let behind : length (in_data c) ≡ 2 + length (own_content o) = unfold sent_back own_content own_fields in_data in omega arith in
      let some_content : 4 ≤ 2 + length (own_content o) = unfold own_content led_by_20 in omega arith in
      let not_much : 2 + length (own_content o) ≤ 0xFFFF = omega arith in
      let same = eq-eqb (2 + length (own_content o)) (2 + length (own_content o)) refl in
      simp (line_is, length_is, behind, same, le-ltb, le-leb)

module _ (room store : List ℕ) (s : Session) (os : List Object) (n : ℕ) (o : Object) (ready : Ready room store s os) (finds : find n os ≡ some o)
    (holding : holds (seen os s) o.lcso o.change ≡ true) where
  there : FoundThere n os o
  there = found_there n os o (pack_unpack store os ready.store_sound).1 finds

  may : MayWrite SetMetadata (sent_back o) (seen os s) o
  unfolding own_content content_allowed excepted sent_metadata sent_back own_fields
  may =
      record {
        command_well_formed = formed o there.facts;
        change_condition_holds = holding;
        content_allowed_and_fits = own_allowed o there.object_ok;
        not_excepted = refl;
      }

  writes_back : WritesExactly SetMetadata (sent_back o) room store s os o (step (sent_back o) room store s)
  unfolding writes sent_back own_fields row table_line
  writes_back =
      let number : object_number (sent_back o) ≡ n = unfold object_number in omega (arith, two_bytes o.number, there.stands.number) in
      write_exactly_when (sent_back o) room store s os o ready SetMetadata (ap (λ (l : Line). l.row) (line_is o there.facts)) refl (rw number finds)

  -- the object is put in its own place
  only_used_up : after_write SetMetadata (sent_back o) (seen os s) o os ≡ all_used_up (uses (seen os s) o.lcso o.change) os
  unfolding own_content changed sent_metadata sent_back own_fields
  only_used_up =
      let new : changed SetMetadata (sent_back o) o ≡ o = ap (λ fs. with_fields fs o) (own_sent o) ∙ own_changes_nothing o there.object_ok in
      let itself = replaced_itself n os o (pack_unpack store os ready.store_sound).1 finds in
      ap (all_used_up (uses (seen os s) o.lcso o.change)) (ap (λ x. replaced x os) new ∙ itself)

  pub send_back : step (sent_back o) room store s ≡
      record {
        outcome = 0;
        room = put_in_front (done_response []) room;
        store = pack (all_used_up (uses (seen os s) o.lcso o.change) os);
        session = s;
      }
  unfolding sent_back own_fields flushed asks_flush
  send_back = writes_back.when may ∙ rw only_used_up

  -- in the store after it each counter that the expression uses up has gone up by one, once, and all other objects are as they were
  pub send_back_uses_up : (ps : List Object) × (unpack (step (sent_back o) room store s).store ≡ some ps) ×
      UsedUp (uses (seen os s) o.lcso o.change) os ps
  send_back_uses_up = (_, writes_back.objects_after may ∙ ap some only_used_up, grant_used_up os s o.lcso o.change)

  -- where the expression uses up no counter, nothing changes
  pub send_back_keeps : uses (seen os s) o.lcso o.change ≡ [] →
      step (sent_back o) room store s ≡ record { outcome = 0; room = put_in_front (done_response []) room; store = store; session = s }
  send_back_keeps unused = send_back ∙ rw (unused, none_used_up os, (pack_unpack store os ready.store_sound).0)

  -- in particular where it names none
  pub send_back_changes_nothing : expression_counters o.change ≡ [] →
      step (sent_back o) room store s ≡ record { outcome = 0; room = put_in_front (done_response []) room; store = store; session = s }
  send_back_changes_nothing unnamed = send_back_keeps (grant_uses_none (seen os s) o.lcso o.change unnamed)
