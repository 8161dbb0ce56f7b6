-- Demand 2 of one command: a write to a stored object makes its change exactly when the command is well formed, the stored change
-- condition holds, the content is allowed and fits and it is no plain write to a queue; a data read shows exactly the stored bytes, only when the
-- read condition holds. Beside that, the counters that the condition uses up step, and nothing else.
use Prim.Native.Nat.{ℕ, ◌+◌, ◌≤◌, ◌<◌}
use mathlib.Core.Bool.{Bool, true, false, not, ◌&&◌, false≢true}
use mathlib.Core.List.{List, []}
use mathlib.Core.Option.{some}
use mathlib.Core.Path.{◌≡◌, refl, sym, ap, subst, ◌∙◌}
use native.Mathlib.Omega.{arith}
use borrow.Author.Tests.{leb-true, le-leb, leb-false, le-ltb, lt-ltb, not-true, not-false}
use lib.Dec.{eqb, leb, ltb}
use lib.ListN.{length, get_or}
use lib.Seq.{ext_get_or}
use Rattle.rules.specs.declared.Session.{Session}
use Rattle.rules.specs.declared.Refusal.{Refusal}
use Rattle.rules.specs.declared.Refusal.TheVariants.{InvalidParam, InvalidData, BoundaryExceeded, InsufficientBuffer}
use Rattle.rules.specs.declared.Kind.TheVariants.{LifeCycle, Counter, Queue}
use Rattle.rules.specs.declared.Direction.TheVariants.{Up}
use Rattle.rules.specs.declared.Action.{Action}
use Rattle.rules.specs.declared.Action.TheVariants.{GetData, GetMetadata, Write, EraseAndWrite, SetMetadata, Count, Append, Acknowledge}
use Rattle.rules.specs.declared.Row.TheVariants.{OnObject}
use Rattle.rules.specs.Verdict.{Verdict, accepted}
use Rattle.std.specs.Prelude.{if◌then◌else◌}
use Rattle.rules.specs.Basic.{among}
use Rattle.rules.specs.Command.{row, object_number, offset, sent_data, sent_body, sent_number}
use Rattle.rules.specs.Response.{done_response, put_in_front}
use Rattle.rules.specs.Expression.{Expression, never}
use Rattle.rules.specs.Object.{Object, used, is, of_session, is_counter, direction, with_content}
use Rattle.rules.specs.Counter.{exhausted}
use Rattle.rules.specs.Queue.{fare_head, queue_in, present_in}
use Rattle.rules.specs.Layout.{objects_allowed, unpack, pack, find, replaced}
use Rattle.rules.specs.Metadata.{with_fields}
use Rattle.rules.specs.Chain.{◌refused◌or◌}
use Rattle.rules.specs.Access.{Seen, seen, named, Grant, grant, holds, all_used_up, asked, access, granted}
use Rattle.rules.specs.Operation.{shown, value_allowed, operation}
use Rattle.rules.specs.Refusals.{unsound, unusable, ruling_on, ruling, verdict}
use Rattle.rules.specs.Step.{After, replacing, objects_after, performed, answered, judged, flushed, step}
use Rattle.demands.specs.Demand.{is_done, Ready, well_formed, writes, content_allowed, changed, excepted, uses, UsedUp, MayWrite, after_write, WritesExactly, MayRead, Shows, bytes_shown, after_read, ReadsExactly}
use Rattle.laws.proofs.Tests.{and_left, and_right, or_parts, by_test}
use Rattle.laws.proofs.Inverse.{unpack_pack, pack_unpack}
use Rattle.laws.proofs.Verdicts.{passed, EarlyPassed, early_passed, early_accepts, LatePassed, late_passed, late_accepts, NinePassed, nine_passed, verdict_passed, verdict_accepts}
use Rattle.laws.proofs.Rows.{on_object}
use Rattle.laws.proofs.Fitting.{not_never}
use Rattle.laws.proofs.Named.{named_in_store, FoundThere, found_there}
use Rattle.laws.proofs.Grants.{flush_keeps, flush_grant}
use Rattle.laws.proofs.UsedUp.{found_replaced, found_used_up, found_not_used, none_used_up, grant_counter}
use Rattle.laws.proofs.Views.{early_alike, session_left}
use Rattle.laws.proofs.Keeps.{ruling_kept}
use Rattle.demands.proofs.Demand1.{step_judged, done_judged, not_done_kept}
use Rattle.laws.proofs.Puts.{shown_length, shown_there}

-- what an action asks of a stored object ------------------------------------------------------------------------------------

-- a write: which condition it asks, what content it takes and how it refuses other content, what it leaves
record Writing (a : Action) (c : List ℕ) (o : Object) (see : Seen) : Type 0 where
  refusal : Refusal
  asks : excepted a o ≡ false → access a o see ≡ grant see o.lcso o.change
  refuses_excepted : granted a o see ≡ true → excepted a o ≡ false
  judges : (operation a c o see).verdict ≡ (not (content_allowed a c o) refused refusal or accepted)
  silent : (operation a c o see).answer ≡ []
  puts : (operation a c o see).stores ≡ some (changed a c o)

-- the refusals of a count in one: 03 where the object is no counter, else 08
count_refusals : (counter front at_end : Bool) →
    (not counter refused InvalidParam or not front refused BoundaryExceeded or at_end refused BoundaryExceeded or accepted) ≡
    (not (counter && front && not at_end) refused (if counter then BoundaryExceeded else InvalidParam) or accepted)
unfolding ◌refused◌or◌
count_refusals true true true = refl
count_refusals true true false = refl
count_refusals true false at_end = refl
count_refusals false front at_end = refl

-- above it: not at most it
above : (m n : ℕ) → ltb m n ≡ not (leb n m)
above m n = by_test (leb n m) (λ t. rw (t, le-ltb m n (leb-true n m t))) (λ t. rw (t, lt-ltb m n (leb-false n m t)))

-- those of an append: 03 where the object is no queue, else 08 where the fare does not fit, else 0D
append_refusals : (queue last : Bool) (most needs : ℕ) →
    (not queue refused InvalidParam or ltb most needs refused BoundaryExceeded or last refused InsufficientBuffer or accepted) ≡
    (not (queue && leb needs most && not last) refused (if queue then if leb needs most then InsufficientBuffer else BoundaryExceeded else InvalidParam)
    or accepted)
unfolding ◌refused◌or◌
append_refusals queue last most needs = rw (above most needs) (by queue (leb needs most) last)
  where
    by : (queue fits last : Bool) →
        (not queue refused InvalidParam or not fits refused BoundaryExceeded or last refused InsufficientBuffer or accepted) ≡
        (not (queue && fits && not last) refused (if queue then if fits then InsufficientBuffer else BoundaryExceeded else InvalidParam) or accepted)
    by true true true = refl
    by true true false = refl
    by true false last = refl
    by false fits last = refl

-- those of an acknowledgement: 03 where the object is no queue, else 05
acknowledge_refusals : (queue present : Bool) →
    (not queue refused InvalidParam or not present refused InvalidData or accepted) ≡
    (not (queue && present) refused (if queue then InvalidData else InvalidParam) or accepted)
unfolding ◌refused◌or◌
acknowledge_refusals true true = refl
acknowledge_refusals true false = refl
acknowledge_refusals false present = refl

module _ (c : List ℕ) (o : Object) (see : Seen) (kind : of_session o.kind ≡ false) where
  -- any value may be written
  any_value : (state : ℕ) → value_allowed o state ≡ true
  unfolding value_allowed of_session
  any_value state = rw (or_parts (is LifeCycle o.kind) _ kind).0

  -- a plain write to a queue is never granted
  queue_excepted : holds see o.lcso (if is Queue o.kind then never else o.change) ≡ true → is Queue o.kind ≡ false
  queue_excepted = not_never (is Queue o.kind) see o.lcso o.change

  action_writes : (a : Action) → writes a ≡ true → Writing a c o see
  unfolding operation content_allowed changed excepted writes access asked ◌refused◌or◌
  action_writes GetData w = absurd (false≢true w)
  action_writes GetMetadata w = absurd (false≢true w)
  action_writes Write w =
      record {
        refusal = BoundaryExceeded;
        asks = λ x. rw x;
        refuses_excepted = queue_excepted;
        judges = rw (any_value (get_or (sent_data c) 0 0));
        silent = refl;
        puts = rw kind;
      }
  action_writes EraseAndWrite w =
      record {
        refusal = BoundaryExceeded;
        asks = λ x. rw x;
        refuses_excepted = queue_excepted;
        judges = rw (any_value (get_or (sent_data c) 0 0));
        silent = refl;
        puts = rw kind;
      }
  action_writes SetMetadata w =
      record { refusal = InvalidData; asks = λ x. rw kind; refuses_excepted = λ g. refl; judges = refl; silent = refl; puts = refl }
  action_writes Count w =
      let judged = count_refusals (is_counter o.kind) (eqb (offset c) 0) (exhausted (direction o.kind) o.content) in
      record { refusal = _; asks = λ x. refl; refuses_excepted = λ g. refl; judges = judged; silent = refl; puts = refl }
  action_writes Append w =
      let judged = append_refusals (is Queue o.kind) (eqb (queue_in o.content).next 0xFFFFFFFF) o.maximum (used o + fare_head + length (sent_body c)) in
      record { refusal = _; asks = λ x. refl; refuses_excepted = λ g. refl; judges = judged; silent = refl; puts = refl }
  action_writes Acknowledge w =
      let judged = acknowledge_refusals (is Queue o.kind) (present_in (queue_in o.content).fares (sent_number c)) in
      record { refusal = _; asks = λ x. refl; refuses_excepted = λ g. refl; judges = judged; silent = refl; puts = refl }

-- a write keeps number and kind
changed_keeps : (a : Action) (c : List ℕ) (o : Object) → ((changed a c o).number ≡ o.number) × ((changed a c o).kind ≡ o.kind)
unfolding changed with_content with_fields
changed_keeps GetData c o = (refl, refl)
changed_keeps GetMetadata c o = (refl, refl)
changed_keeps Write c o = (refl, refl)
changed_keeps EraseAndWrite c o = (refl, refl)
changed_keeps SetMetadata c o = (refl, refl)
changed_keeps Count c o = (refl, refl)
changed_keeps Append c o = (refl, refl)
changed_keeps Acknowledge c o = (refl, refl)

-- counters used up ---------------------------------------------------------------------------------------------------------

-- up counters that are there
counters_used_up : (ns : List ℕ) (os : List Object) →
    ((n : ℕ) → among ns n ≡ true → (o : Object) × (find n os ≡ some o) × (is (Counter Up) o.kind ≡ true)) → UsedUp ns os (all_used_up ns os)
counters_used_up ns os there =
    record {
      counted = λ n h. let (o, finds, up) = there n h in (o, finds, up, found_used_up ns n os o finds up h);
      others_kept = λ n h. found_not_used ns n os h;
    }

-- those of a grant, among the objects that it saw; and after one of these was replaced by another of its number and kind
module _ (os : List Object) (s : Session) (lcso : ℕ) (e : Expression) where
  pub grant_used_up : UsedUp (uses (seen os s) lcso e) os (all_used_up (uses (seen os s) lcso e) os)
  unfolding seen
  grant_used_up = counters_used_up _ os (grant_counter (seen os s) lcso e)

  grant_used_up_after : (o new : Object) → find new.number os ≡ some o → new.kind ≡ o.kind →
      UsedUp (uses (seen os s) lcso e) (replaced new os) (all_used_up (uses (seen os s) lcso e) (replaced new os))
  unfolding seen
  grant_used_up_after o new there kind =
      counters_used_up _ (replaced new os)
      (λ n h.
      let (p, finds, up) = grant_counter (seen os s) lcso e n h in
      let (q, found, same) = found_replaced o new os there kind n p finds in
      (q, found, ap (is (Counter Up)) same ∙ up))

-- the bytes that a data read shows -----------------------------------------------------------------------------------------

module _ (c content : List ℕ) where
  pub shown_shows : offset c ≤ length content → Shows c content (shown c content)
  shown_shows h = record { how_many = omega (arith, h, shown_length c content); which = shown_there c content }

  pub shows_alone : (out : List ℕ) → Shows c content out → out ≡ shown c content
  shows_alone out w =
      let many : length out ≡ length (shown c content) = omega (arith, w.how_many, shown_length c content) in
      ext_get_or 0 out (shown c content) many (λ i h. w.which i h ∙ sym (shown_there c content i (subst (λ n. i < n) many h)))

-- and the objects after it
objects_read : (c : List ℕ) (o : Object) (see : Seen) (os : List Object) → objects_after (ruling_on GetData c (some o) see) os ≡ after_read see o os
unfolding objects_after ruling_on replacing operation access asked
objects_read c o see os = refl

-- one command on a ready element -------------------------------------------------------------------------------------------

module _ (c room store : List ℕ) (s : Session) (os : List Object) where
  abbrev now : Session
  now = flushed c s

  abbrev see : Seen
  see = seen os (flushed c s)

  abbrev verdict_now : Verdict
  verdict_now = verdict true c (length room) (seen os (flushed c s))

  pub done_accepted : Ready room store s os → is_done (step c room store s) ≡ true → verdict_now ≡ accepted
  done_accepted ready h = rw ready.store_sound at (done_judged c room store s h).1

  allowed_objects : Ready room store s os → objects_allowed os ≡ true
  allowed_objects ready = (pack_unpack store os ready.store_sound).1

  -- an accepted action has its object
  pub object_named : (a : Action) → row c ≡ OnObject a → verdict_now ≡ accepted → NinePassed a c (named (object_number c) see) see (length room)
  unfolding ruling
  object_named a acts e = nine_passed a c (named (object_number c) see) see (length room) (rw acts at (verdict_passed true c (length room) see e).1)

  -- at the object that is named, of the session or of the store
  module _ (o : Object) (ready : Ready room store s os) (a : Action) (acts : row c ≡ OnObject a) (names_it : named (object_number c) see ≡ some o) where
    ruling_is : ruling (row c) c see ≡ ruling_on a c (some o) see
    unfolding ruling
    ruling_is = rw (acts, names_it)

    -- the steps 2 to 9 refuse it only where it is not well formed
    accepted_by : well_formed c ≡ true → LatePassed a c o see (length room) → verdict_now ≡ accepted
    unfolding unsound unusable well_formed seen
    accepted_by w l =
        let passed : EarlyPassed true c s =
        search (on_object c a acts, ready.lcsg_sound, ready.lcsa_sound, ready.not_terminated, ready.is_open, and_left, and_right, not-true) in
        let early = early_alike true c now s (flush_keeps c s) ∙ early_accepts true c s passed in
        verdict_accepts true c (length room) see early (rw ruling_is (late_accepts a c o see (length room) l))

    accepted_passed : verdict_now ≡ accepted → (well_formed c ≡ true) × LatePassed a c o see (length room)
    unfolding well_formed seen
    accepted_passed e =
        let (early, late) = verdict_passed true c (length room) see e in
        let p = early_passed true c now early in
        (rw (p.step_3, p.step_7), late_passed a c o see (length room) (rw ruling_is at late))

    performed_by : verdict_now ≡ accepted → step c room store s ≡ performed (ruling_on a c (some o) see) room os
    unfolding judged answered
    performed_by e = step_judged c room store s ready.room_to_answer ∙ rw (ready.store_sound, e, ruling_is)

    -- the store that it leaves is sound
    objects_left : verdict_now ≡ accepted → unpack (step c room store s).store ≡ some (objects_after (ruling_on a c (some o) see) os)
    unfolding performed
    objects_left e =
        let k = rw ruling_is at (ruling_kept c os now (length room) (allowed_objects ready) e) in
        rw (performed_by e) (unpack_pack (objects_after (ruling_on a c (some o) see) os) k.allowed)

  -- a stored object is the one that is named
  module _ (o : Object) (ready : Ready room store s os) (finds : find (object_number c) os ≡ some o) where
    there : FoundThere (object_number c) os o
    there = found_there (object_number c) os o (allowed_objects ready) finds

    stored_named : named (object_number c) see ≡ some o
    stored_named = named_in_store (object_number c) see there.outside_session ∙ (unfold seen in finds)

  -- writes ---------------------------------------------------------------------------------------------------------------

  module _ (o : Object) (ready : Ready room store s os) (a : Action) (acts : row c ≡ OnObject a) (w : writes a ≡ true)
      (finds : find (object_number c) os ≡ some o) where
    asks : Writing a c o see
    asks = action_writes c o see (there o ready finds).storable.not_of_session a w

    -- the flush changes nothing in what is granted
    grant_is : excepted a o ≡ false → access a o see ≡ grant (seen os s) o.lcso o.change
    grant_is x = asks.asks x ∙ flush_grant c s os o.lcso o.change

    may_accepted : MayWrite a c (seen os s) o → verdict_now ≡ accepted
    unfolding ◌refused◌or◌
    may_accepted m =
        let granted = ap (λ (g : Grant). g.granted) (grant_is m.not_excepted) ∙ m.change_condition_holds in
        accepted_by o ready a acts (stored_named o ready finds) m.command_well_formed
        (search (granted, asks.judges, asks.silent, m.content_allowed_and_fits, ready, arith))

    objects_written : excepted a o ≡ false → objects_after (ruling_on a c (some o) see) os ≡ after_write a c (seen os s) o os
    unfolding objects_after ruling_on replacing
    objects_written x = λ i. all_used_up (grant_is x i).counters (replacing (asks.puts i) os)

    written : excepted a o ≡ false → verdict_now ≡ accepted →
        step c room store s ≡
        record { outcome = 0; room = put_in_front (done_response []) room; store = pack (after_write a c (seen os s) o os); session = now }
    unfolding performed ruling_on seen
    written x e =
        performed_by o ready a acts (stored_named o ready finds) e ∙
        rw (objects_written x, asks.silent, session_left a c o see (there o ready finds).facts.outside_session)

    pub write_exactly_when : WritesExactly a c room store s os o (step c room store s)
    write_exactly_when =
        record {
          when = λ m. written m.not_excepted (may_accepted m);
          objects_after = λ m. objects_left o ready a acts (stored_named o ready finds) (may_accepted m) ∙ ap some (objects_written m.not_excepted);
          uses_up = λ m.
              let (number, kind) = changed_keeps a c o in
              let here = ap (λ n. find n os) (number ∙ (there o ready finds).stands.number) ∙ finds in
              grant_used_up_after os s o.lcso o.change o (changed a c o) here kind;
          only_when = λ h.
              let (formed, l) = accepted_passed o ready a acts (stored_named o ready finds) (done_accepted ready h) in
              let allowed = asks.refuses_excepted l.granted in
              let holding = sym (ap (λ (g : Grant). g.granted) (grant_is allowed)) ∙ l.granted in
              let fits = not-false _ (passed _ _ _ (sym asks.judges ∙ l.own)).0 in
              record { command_well_formed = formed; change_condition_holds = holding; content_allowed_and_fits = fits; not_excepted = allowed };
          else_kept = not_done_kept c room store s;
        }

  -- data reads -----------------------------------------------------------------------------------------------------------

  -- of the object that is named, of the session or of the store
  module _ (o : Object) (ready : Ready room store s os) (acts : row c ≡ OnObject GetData) (names_it : named (object_number c) see ≡ some o) where
    pub read_accepted : MayRead c (length room) see o → verdict_now ≡ accepted
    unfolding access asked operation ◌refused◌or◌
    read_accepted m =
        let within = le-leb (offset c) (used o) m.within_used in
        accepted_by o ready GetData acts names_it m.command_well_formed (search (m, within))

    pub accepted_read : verdict_now ≡ accepted → MayRead c (length room) see o
    unfolding access asked operation
    accepted_read e =
        let (formed, l) = accepted_passed o ready GetData acts names_it e in
        let within = leb-true (offset c) (used o) (not-false _ (passed _ _ _ l.own).0) in
        record { command_well_formed = formed; read_condition_holds = l.granted; within_used = within; answer_fits = l.fits }

    pub read_step : verdict_now ≡ accepted →
        step c room store s ≡ bytes_shown (shown c o.content) room (pack (after_read see o os)) (operation GetData c o see).session
    unfolding performed ruling_on operation
    read_step e = performed_by o ready GetData acts names_it e ∙ rw (objects_read c o see os)

  -- of a stored object
  module _ (o : Object) (ready : Ready room store s os) (acts : row c ≡ OnObject GetData) (finds : find (object_number c) os ≡ some o) where
    -- the flush changes nothing in what is granted
    read_grant : grant see o.lcso o.read ≡ grant (seen os s) o.lcso o.read
    read_grant = flush_grant c s os o.lcso o.read

    may_read : MayRead c (length room) (seen os s) o → verdict_now ≡ accepted
    may_read m =
        let holding = ap (λ (g : Grant). g.granted) read_grant ∙ m.read_condition_holds in
        read_accepted o ready acts (stored_named o ready finds) (search (m, holding))

    left : after_read see o os ≡ after_read (seen os s) o os
    left = ap (λ (g : Grant). all_used_up g.counters os) read_grant

    shown_step : verdict_now ≡ accepted → step c room store s ≡ bytes_shown (shown c o.content) room (pack (after_read (seen os s) o os)) now
    unfolding seen
    shown_step e =
        read_step o ready acts (stored_named o ready finds) e ∙
        (λ i. bytes_shown (shown c o.content) room (pack (left i)) (session_left GetData c o see (there o ready finds).facts.outside_session i))

    -- where none is used up, the packing is the store
    kept : uses (seen os s) o.lcso o.read ≡ [] → verdict_now ≡ accepted → step c room store s ≡ bytes_shown (shown c o.content) room store now
    kept unused e =
        let same = ap (λ ns. pack (all_used_up ns os)) unused ∙ ap pack (none_used_up os) ∙ (pack_unpack store os ready.store_sound).0 in
        shown_step e ∙ ap (λ b. bytes_shown (shown c o.content) room b now) same

    pub read_keeps : uses (seen os s) o.lcso o.read ≡ [] → MayRead c (length room) (seen os s) o →
        step c room store s ≡ bytes_shown (shown c o.content) room store now
    read_keeps unused m = kept unused (may_read m)

    pub read_exactly_when : ReadsExactly c room store s os o (step c room store s)
    read_exactly_when =
        record {
          when = λ m. shown_step (may_read m);
          objects_after = λ m.
              objects_left o ready GetData acts (stored_named o ready finds) (may_read m) ∙ ap some (objects_read c o see os ∙ left);
          uses_up = λ m. grant_used_up os s o.lcso o.read;
          shows = λ m. shown_shows c o.content m.within_used;
          nothing_else = shows_alone c o.content;
          only_when = λ h.
              let m = accepted_read o ready acts (stored_named o ready finds) (done_accepted ready h) in
              let holding = sym (ap (λ (g : Grant). g.granted) read_grant) ∙ m.read_condition_holds in
              search (m, holding);
          else_kept = not_done_kept c room store s;
          store_kept = λ unused.
              by_test (is_done (step c room store s)) (λ h. ap (λ (a : After). a.store) (kept unused (done_accepted ready h))) (not_done_kept c room store s);
        }
