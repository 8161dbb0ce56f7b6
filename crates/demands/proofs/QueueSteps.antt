-- What one command leaves of a stored queue: an append to it that is done leaves it with its fare, an acknowledgement that is done without the fares
-- up to its number, which was present, and any other command, done or not, leaves it as it was.
use Prim.Native.Nat.{ℕ}
use mathlib.Core.Bool.{Bool, true, false, ◌&&◌, false≢true, and-true, and-false}
use mathlib.Core.List.{List, [], ◌∷◌}
use mathlib.Core.Option.{none, some, map, none-ne-some}
use mathlib.Core.Path.{◌≡◌, refl, sym, ap, ◌∙◌}
use borrow.Author.Tests.{eqb-true, eqb-false, eq-eqb, ne_eqb, not-false}
use lib.Dec.{eqb}
use lib.ListN.{length}
use Rattle.mixing.specs.Runs.{All}
use Rattle.rules.specs.declared.Session.{Session}
use Rattle.rules.specs.declared.Kind.TheVariants.{Counter, Queue}
use Rattle.rules.specs.declared.Direction.TheVariants.{Up}
use Rattle.rules.specs.declared.Action.{Action}
use Rattle.rules.specs.declared.Action.TheVariants.{GetData, GetMetadata, Write, EraseAndWrite, SetMetadata, Count, Append, Acknowledge}
use Rattle.rules.specs.declared.Row.{Row}
use Rattle.rules.specs.declared.Row.TheVariants.{OnObject, OpenApplication, CloseApplication, Unknown}
use Rattle.rules.specs.Verdict.{accepted}
use Rattle.std.specs.Prelude.{if◌then◌else◌}
use Rattle.rules.specs.Basic.{all, or_else}
use Rattle.rules.specs.Command.{Line, table_line, command_table, no_line, line_in, line_of, cmd, param, row, is_unknown, object_number, sent_body, sent_number}
use Rattle.rules.specs.Response.{done_response, refused_response, put_in_front}
use Rattle.rules.specs.Object.{Object, is, is_counter, with_content}
use Rattle.rules.specs.Queue.{FareQueue, empty_queue, queue_allowed, queue_bytes, queue, queue_in, appended, present_in, acknowledged}
use Rattle.rules.specs.Layout.{objects_allowed, unpack, pack, find}
use Rattle.rules.specs.Metadata.{with_fields}
use Rattle.rules.specs.Access.{Seen, seen, named, used_up, asked, access, granted}
use Rattle.rules.specs.Operation.{setting_session, operation}
use Rattle.rules.specs.Refusals.{unknown_param, Ruling, ruling_on, ruling_of, ruling, verdict}
use Rattle.rules.specs.Step.{declined, objects_after, performed, flushed, unanswered, step}
use Rattle.demands.specs.Demand.{is_done}
use Rattle.demands.specs.Queues.{queue_of, stored_queue, appends, acknowledges}
use Rattle.laws.proofs.Tests.{if_by, by_test, and_left, and_right, or_left, at_place}
use Rattle.laws.proofs.Inverse.{unpack_pack, pack_unpack}
use Rattle.laws.proofs.Queues.{queue_of_bytes, bytes_of_queue}
use Rattle.laws.proofs.QueueChanges.{appended_allowed, acknowledged_allowed}
use Rattle.laws.proofs.Places.{found_stands}
use Rattle.laws.proofs.Verdicts.{passed, early_passed, LatePassed, late_passed, verdict_passed}
use Rattle.laws.proofs.Rows.{body_sent}
use Rattle.laws.proofs.Named.{named_in_store, FoundThere, found_there}
use Rattle.laws.proofs.Fitting.{not_never, queue_not_counter, next_below}
use Rattle.laws.proofs.UsedUp.{find_map, in_place_of}
use Rattle.laws.proofs.Keeps.{step_by, ruling_fits, ruling_kept}
use Rattle.demands.proofs.Cells.{own_change, object_after, after_number, objects_after_each}

-- the commands of queues ---------------------------------------------------------------------------------------------------

-- what holds of each line with its own Cmd and Param, and where there is none, holds of a Cmd and a Param and their line
line_tells : (P : ℕ → ℕ → Line → Type 0) (ls : List Line) (c p : ℕ) → All (λ l. P l.cmd l.param l) ls → P c p (no_line c p) →
    P c p (line_in ls c p)
unfolding line_in
line_tells P [] c p each nothing = nothing
line_tells P (l ∷ ls) c p each nothing =
    if_by (P c p) (eqb c l.cmd && eqb p l.param) l (line_in ls c p)
    (λ t.
    let same_cmd = eqb-true c l.cmd (and_left (eqb c l.cmd) _ t) in
    let same_param = eqb-true p l.param (and_right (eqb c l.cmd) _ t) in
    rw (same_cmd, same_param) each.0)
    (λ t. line_tells P ls c p each.1 nothing)

-- by its row, whether a command appends, and whether it acknowledges
abbrev Tells : Row → Bool → Bool → Type 0
Tells (OnObject Append) a k = (a ≡ true) × (k ≡ false)
Tells (OnObject Acknowledge) a k = (a ≡ false) × (k ≡ true)
Tells (OnObject GetData) a k = (a ≡ false) × (k ≡ false)
Tells (OnObject GetMetadata) a k = (a ≡ false) × (k ≡ false)
Tells (OnObject Write) a k = (a ≡ false) × (k ≡ false)
Tells (OnObject EraseAndWrite) a k = (a ≡ false) × (k ≡ false)
Tells (OnObject SetMetadata) a k = (a ≡ false) × (k ≡ false)
Tells (OnObject Count) a k = (a ≡ false) × (k ≡ false)
Tells OpenApplication a k = (a ≡ false) × (k ≡ false)
Tells CloseApplication a k = (a ≡ false) × (k ≡ false)
Tells Unknown a k = Unit

row_tells : (n : ℕ) (c : List ℕ) → eqb (object_number c) n ≡ true → Tells (row c) (appends n c) (acknowledges n c)
unfolding row line_of command_table table_line no_line appends acknowledges all
row_tells n c h =
    rw h
    (line_tells (λ c p l. Tells l.row (all (eqb c 0x02 ∷ eqb p 0x04 ∷ true ∷ [])) (all (eqb c 0x02 ∷ eqb p 0x05 ∷ true ∷ [])))
    command_table (cmd c) (param c) ((refl, refl), ((refl, refl), ((refl, refl), ((refl, refl), ((refl, refl), ((refl, refl), ((refl, refl), ((refl, refl), ((refl, refl), ((refl, refl), tt)))))))))) tt)

-- a command with another number does neither
elsewhere : (n : ℕ) (c : List ℕ) → eqb (object_number c) n ≡ false → (appends n c ≡ false) × (acknowledges n c ≡ false)
unfolding appends acknowledges all
elsewhere n c h = (rw h (by (eqb (cmd c) 0x02) (eqb (param c) 0x04)), rw h (by (eqb (cmd c) 0x02) (eqb (param c) 0x05)))
  where
    by : (a b : Bool) → a && (b && false) ≡ false
    by a b = ap (λ x. a && x) (and-false b) ∙ and-false a

-- the queue after a command that appends, or acknowledges
abbrev pub after_command : Bool → Bool → List ℕ → FareQueue → FareQueue
after_command a k c q = if a then appended (sent_body c) q else (if k then acknowledged (sent_number c) q else q)

-- a queue in a store -------------------------------------------------------------------------------------------------------

-- these objects hold it
pub record QueueIn (n : ℕ) (os : List Object) (q : FareQueue) : Type 0 where
  pub object : Object
  pub there : find n os ≡ some object
  pub kind : is Queue object.kind ≡ true
  pub content : queue object.content ≡ some q

pub record Holding (n : ℕ) (store : List ℕ) (q : FareQueue) : Type 0 where
  pub objects : List Object
  pub sound : unpack store ≡ some objects
  pub queue_in : QueueIn n objects q

pub holding : (n : ℕ) (store : List ℕ) (q : FareQueue) → stored_queue n store ≡ some q → Holding n store q
unfolding stored_queue queue_of find
holding n store q h =
    elim (unpack store) as (λ m. unpack store ≡ m → queue_of (find n (or_else m [])) ≡ some q → Holding n store q) [
      | none ↦ λ u e. absurd (none-ne-some q e)
      | some os ↦ λ u e. record { objects = os; sound = u; queue_in = in_objects os e }
    ] refl h
  where
    in_objects : (os : List Object) → queue_of (find n os) ≡ some q → QueueIn n os q
    in_objects os e =
        elim (find n os) as (λ m. find n os ≡ m → queue_of m ≡ some q → QueueIn n os q) [
          | none ↦ λ f e. absurd (none-ne-some q e)
          | some o ↦ λ f.
              if_by (λ m. m ≡ some q → QueueIn n os q) (is Queue o.kind) (queue o.content) none
              (λ t e. record { object = o; there = f; kind = t; content = e }) (λ t e. absurd (none-ne-some q e))
        ] refl e

pub allowed_there : {n : ℕ} {os : List Object} {q : FareQueue} → QueueIn n os q → queue_allowed q ≡ true
allowed_there {q = q} h = (bytes_of_queue h.object.content q h.content).1

-- a queue is no counter that is used up
not_used_up : (ns : List ℕ) (o : Object) → is Queue o.kind ≡ true → used_up ns o ≡ o
unfolding used_up is_counter
not_used_up ns o h = rw (or_left (is (Counter Up) o.kind) _ (queue_not_counter o.kind h))

-- a command that the steps 2 to 13 accept ------------------------------------------------------------------------------------

module _ (c : List ℕ) (os : List Object) (s : Session) (room : ℕ) (ok : objects_allowed os ≡ true) (v : verdict true c room (seen os s) ≡ accepted)
    (n : ℕ) (q : FareQueue) (h : QueueIn n os q) where
  abbrev see : Seen
  see = seen os s

  abbrev r : Ruling
  r = ruling (row c) c (seen os s)

  abbrev o : Object
  o = h.object

  -- where it stores no other object in its place, the queue stays
  stays : own_change r.does.stores o ≡ o → queue_of (some (object_after r o)) ≡ some q
  unfolding object_after queue_of
  stays e = rw (e, not_used_up r.counters o h.kind, h.kind) h.content

  -- and where it stores new, the queue in new
  becomes : (new : Object) (p : FareQueue) → r.does.stores ≡ some new → new.number ≡ o.number → is Queue new.kind ≡ true →
      queue new.content ≡ some p → queue_of (some (object_after r o)) ≡ some p
  unfolding object_after own_change in_place_of queue_of
  becomes new p stores number kind content =
      let own : own_change r.does.stores o ≡ new = rw (stores, eq-eqb o.number new.number (sym number)) in
      rw (own, not_used_up r.counters new kind, kind) content

  -- it names another object
  other_kept : eqb (object_number c) n ≡ false → own_change r.does.stores o ≡ o
  unfolding own_change in_place_of
  other_kept other =
      elim r.does.stores as (λ m. r.does.stores ≡ m → own_change m o ≡ o) [
        | none ↦ λ e. refl
        | some new ↦ λ e.
            let f = ruling_fits c os s room ok v new e in
            let number : new.number ≡ object_number c = f.fits.number ∙ f.stands.number in
            let own : o.number ≡ n = (found_stands n os o h.there).number in
            rw (ne_eqb o.number new.number (λ same. eqb-false (object_number c) n other (sym number ∙ sym same ∙ own)))
      ] refl

  -- it names the queue
  module _ (here : eqb (object_number c) n ≡ true) where
    found : FoundThere n os o
    found = found_there n os o ok h.there

    named_here : named (object_number c) see ≡ some o
    unfolding seen
    named_here = rw (eqb-true (object_number c) n here) (named_in_store n see found.outside_session ∙ h.there)

    queue_is : queue_in o.content ≡ q
    queue_is = ap (λ m. or_else m (empty_queue 0)) h.content

    -- an action on it: the steps 10 to 13, and what is stored
    module _ (a : Action) (acts : row c ≡ OnObject a) where
      ruling_is : r ≡ ruling_on a c (some o) see
      unfolding ruling
      ruling_is = rw (acts, named_here)

      late : LatePassed a c o see room
      late = late_passed a c o see room (rw ruling_is at (verdict_passed true c room see v).1)

      stores_is : r.does.stores ≡ (operation a c o see).stores
      unfolding ruling_on
      stores_is = ap (λ (x : Ruling). x.does.stores) ruling_is

    -- what is stored is laid out as the queue p
    laid_out : (p : FareQueue) → r.does.stores ≡ some (with_content (queue_bytes p) o) → queue_allowed p ≡ true →
        queue_of (some (object_after r o)) ≡ some p
    unfolding with_content
    laid_out p stores allowed = becomes (with_content (queue_bytes p) o) p stores refl h.kind (queue_of_bytes p allowed)

    appended_left : row c ≡ OnObject Append → queue_of (some (object_after r o)) ≡ some (appended (sent_body c) q)
    unfolding operation seen
    appended_left acts =
        let (kind, v11) = passed _ _ _ (late Append acts).own in
        let below = next_below o found.object_ok h.kind (passed _ _ _ (passed _ _ _ v11).1).0 in
        let body = body_sent true c s (verdict_passed true c room see v).0 acts in
        laid_out (appended (sent_body c) q) (rw queue_is at (stores_is Append acts)) (appended_allowed (sent_body c) q (allowed_there h) body (rw queue_is at below))

    acknowledged_left : row c ≡ OnObject Acknowledge → queue_of (some (object_after r o)) ≡ some (acknowledged (sent_number c) q)
    unfolding operation
    acknowledged_left acts =
        laid_out (acknowledged (sent_number c) q) (rw queue_is at (stores_is Acknowledge acts)) (acknowledged_allowed (sent_number c) q (allowed_there h))

    acknowledged_present : row c ≡ OnObject Acknowledge → present_in q.fares (sent_number c) ≡ true
    unfolding operation
    acknowledged_present acts =
        let present : present_in (queue_in o.content).fares (sent_number c) ≡ true =
        not-false _ (passed _ _ _ (passed _ _ _ (late Acknowledge acts).own).1).0 in
        rw queue_is at present

    -- no plain write is granted there, and no count accepted
    no_plain_write : granted Write o see ≡ true → ⊥
    unfolding access asked
    no_plain_write g = false≢true (sym (not_never (is Queue o.kind) see o.lcso o.change g) ∙ h.kind)

    no_count : row c ≡ OnObject Count → ⊥
    unfolding operation
    no_count acts = false≢true (sym (queue_not_counter o.kind h.kind) ∙ not-false _ (passed _ _ _ (late Count acts).own).0)

    row_left : (w : Row) → row c ≡ w → Tells w (appends n c) (acknowledges n c) →
        queue_of (some (object_after r o)) ≡ some (after_command (appends n c) (acknowledges n c) c q)
    unfolding own_change operation access asked with_fields ruling ruling_of setting_session unknown_param
    row_left (OnObject GetData) e t = rw (t.0, t.1) (stays (rw (stores_is GetData e)))
    row_left (OnObject GetMetadata) e t = rw (t.0, t.1) (stays (rw (stores_is GetMetadata e)))
    row_left (OnObject Write) e t = absurd (no_plain_write (late Write e).granted)
    row_left (OnObject EraseAndWrite) e t = absurd (no_plain_write (late EraseAndWrite e).granted)
    row_left (OnObject SetMetadata) e t = rw (t.0, t.1) (becomes _ q (stores_is SetMetadata e) refl h.kind h.content)
    row_left (OnObject Count) e t = absurd (no_count e)
    row_left (OnObject Append) e t = rw t.0 (appended_left e)
    row_left (OnObject Acknowledge) e t = rw (t.0, t.1) (acknowledged_left e)
    row_left OpenApplication e t = rw (t.0, t.1) (stays (rw e))
    row_left CloseApplication e t = rw (t.0, t.1) (stays (rw e))
    row_left Unknown e t = absurd (false≢true (sym (early_passed true c s (unfold seen in (verdict_passed true c room see v).0)).step_6 ∙ ap is_unknown e))

  -- so it leaves the queue as its bytes say
  pub accepted_left : queue_of (some (object_after r o)) ≡ some (after_command (appends n c) (acknowledges n c) c q)
  accepted_left =
      by_test (eqb (object_number c) n) (λ here. row_left here (row c) refl (row_tells n c here))
      (λ other. let (a, k) = elsewhere n c other in rw (a, k) (stays (other_kept other)))

  -- and what it acknowledges there was present
  pub accepted_present : acknowledges n c ≡ true → present_in q.fares (sent_number c) ≡ true
  unfolding acknowledges row line_of line_in command_table table_line
  accepted_present k =
      let is_set = eqb-true (cmd c) 0x02 (at_place _ k 0) in
      let is_param = eqb-true (param c) 0x05 (at_place _ k 1) in
      acknowledged_present (at_place _ k 2) (λ i. (line_in command_table (is_set i) (is_param i)).row)

-- any command --------------------------------------------------------------------------------------------------------------

-- a store with the queue q, after a command that was done or not
pub record QueueAfter (n : ℕ) (c : List ℕ) (done : Bool) (q : FareQueue) (store : List ℕ) : Type 0 where
  pub left : stored_queue n store ≡ some (after_command (appends n c && done) (acknowledges n c && done) c q)
  pub present : acknowledges n c && done ≡ true → present_in q.fares (sent_number c) ≡ true

-- not done: as it was
not_done_after : (n : ℕ) (c : List ℕ) (q : FareQueue) (store : List ℕ) → stored_queue n store ≡ some q → QueueAfter n c false q store
not_done_after n c q store h =
    let a = and-false (appends n c) in
    let k = and-false (acknowledges n c) in
    record { left = rw (a, k) h; present = λ t. absurd (false≢true (sym k ∙ t)) }

-- done
accepted_after : (n : ℕ) (c : List ℕ) (os : List Object) (s : Session) (room : ℕ) (q : FareQueue) → objects_allowed os ≡ true →
    verdict true c room (seen os s) ≡ accepted → QueueIn n os q → QueueAfter n c true q (pack (objects_after (ruling (row c) c (seen os s)) os))
unfolding stored_queue
accepted_after n c os s room q ok v h =
    let r = ruling (row c) c (seen os s) in
    let a = and-true (appends n c) in
    let k = and-true (acknowledges n c) in
    let reads = unpack_pack (objects_after r os) (ruling_kept c os s room ok v).allowed in
    let finds : find n (objects_after r os) ≡ some (object_after r h.object) =
    ap (find n) (objects_after_each r os) ∙ find_map (object_after r) (after_number r) n os ∙ ap (map (object_after r)) h.there in
    record {
      left = rw (reads, finds, a, k) (accepted_left c os s room ok v n q h);
      present = λ t. accepted_present c os s room ok v n q h (sym k ∙ t);
    }

pub step_queue : (n : ℕ) (c room store : List ℕ) (s : Session) (q : FareQueue) → stored_queue n store ≡ some q →
    QueueAfter n c (is_done (step c room store s)) q (step c room store s).store
unfolding unanswered declined performed is_done put_in_front refused_response done_response
step_queue n c room store s q e =
    let h = holding n store q e in
    let here = not_done_after n c q store e in
    step_by (λ a. QueueAfter n c (is_done a) q a.store) c room store s (λ l. here) (λ l r e. here)
    (λ l v. rw h.sound (accepted_after n c h.objects (flushed c s) (length room) q (pack_unpack store h.objects h.sound).1 (rw h.sound at v) h.queue_in))
