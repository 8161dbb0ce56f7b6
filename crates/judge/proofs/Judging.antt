-- Steps 10 to 13, action by action, at an object of the session and at a found record.
use Prim.Native.Nat.{ℕ, ◌+◌, ◌-◌, min}
use mathlib.Core.Path.{◌≡◌, refl, sym, ap, ◌∙◌}
use mathlib.Core.Bool.{Bool, true, false, not, ◌&&◌, false≢true}
use mathlib.Core.List.{List, []}
use native.Mathlib.Omega.{arith}
use mathlib.Core.Option.{none, some}
use borrow.Author.Tests.{eq-eqb, ne_eqb, eqb-true, not-false}
use lib.Dec.{eqb, leb}
use lib.ListN.{length, get_or}
use lib.Seq.{get_or-drop}
use Rattle.rules.specs.declared.Kind.{Kind}
use Rattle.rules.specs.declared.Kind.TheVariants.{Data, Counter, Queue, LifeCycle, Status}
use Rattle.rules.specs.declared.Direction.{Direction}
use Rattle.rules.specs.declared.Direction.TheVariants.{Up, Down}
use Rattle.rules.specs.declared.ObjectNumber.{ObjectNumber}
use Rattle.rules.specs.Verdict.{Verdict, accepted}
use Rattle.std.specs.Prelude.{Err, if◌then◌else◌}
use Rattle.rules.specs.declared.Refusal.{Refusal}
use Rattle.rules.specs.declared.Refusal.TheVariants.{InvalidObject, InvalidParam, AccessDenied, BoundaryExceeded, InvalidData}
use Rattle.rules.specs.declared.Action.{Action}
use Rattle.rules.specs.declared.Action.TheVariants.{GetData, GetMetadata, Write, EraseAndWrite, SetMetadata, Count, Append, Acknowledge}
use Rattle.rules.specs.Command.{offset, asked_length, sent_data, sent_metadata, sent_body, sent_number}
use Rattle.rules.specs.Expression.{may_become, always, never}
use Rattle.rules.specs.Object.{Object, used, kind_number, is, of_session, is_counter, counter_size, object_allowed}
use Rattle.rules.specs.Metadata.{metadata_allowed}
use Rattle.rules.specs.Factory.{fresh_session}
use Rattle.rules.specs.Session.{session_change, session_object}
use Rattle.rules.specs.Chain.{◌refused◌or◌, ◌and_then◌}
use Rattle.rules.specs.Access.{Seen, seen, Grant, grant, asked, access, granted}
use Rattle.rules.specs.Operation.{shown, write_fits, value_allowed, operation}
use Rattle.rules.specs.Refusals.{ruling_on, fitting, late}
use Rattle.laws.proofs.Tests.{or_parts, by_test}
use Rattle.laws.proofs.Fitting.{queue_stored}
use Rattle.laws.proofs.Puts.{shown_length}
use Rattle.laws.proofs.Views.{operation_alike}
use Rattle.record.specs.Places.{Stored}
use Rattle.laws.proofs.Calls.{stopped, gone_on}
use Rattle.laws.proofs.Facts.{storable, allowed}
use Rattle.std.specs.Prelude.{Option, Some, None}
use Rattle.access.specs.Told.{told}
use Rattle.judge.specs.Aims.{Aim}
use Rattle.judge.specs.declared.Target.TheVariants.{InSession, InStore}
use Rattle.judge.specs.Targets.{target_object, Placed}
use Rattle.judge.specs.Verdicts.{own_verdict, state_verdict, session_refused, session_verdict}

-- what the calls gave ---------------------------------------------------------------------------------------------------------

pub sent_within : (c d : List ℕ) (k m : ℕ) (q : Bool) → k ≡ offset c → d ≡ sent_data c → q ≡ leb (k + length d) m → q ≡ leb (offset c + length (sent_data c)) m
sent_within c d k m q ek ed eq = cc

no_counter_kind : (w : Kind) → ((v : Direction) → w ≡ Counter v → ⊥) → is_counter w ≡ false
unfolding is_counter is kind_number
no_counter_kind Data n = refl
no_counter_kind (Counter v) n = absurd (n v refl)
no_counter_kind Queue n = refl
no_counter_kind LifeCycle n = refl
no_counter_kind Status n = refl

-- a write to a counter, and to another object
module _ (o : Object) (c d : List ℕ) (k : ℕ) (ek : k ≡ offset c) (ed : d ≡ sent_data c) (w : Kind) (ew : o.kind ≡ w) where
  fits_counter : (v : Direction) → w ≡ Counter v → (eqb k 0 && eqb (length d) counter_size) ≡ write_fits o (offset c) (length (sent_data c))
  unfolding write_fits is_counter is kind_number
  fits_counter Up t = rw (ew, t, ← ek, ← ed)
  fits_counter Down t = rw (ew, t, ← ek, ← ed)

  pub counter_front : (v : Direction) → w ≡ Counter v → k ≡ 0 → eqb (length d) counter_size ≡ write_fits o (offset c) (length (sent_data c))
  counter_front v t h = rw (eq-eqb k 0 h) at (fits_counter v t)

  pub counter_past : (v : Direction) → w ≡ Counter v → (k ≡ 0 → ⊥) → eqb k 0 ≡ write_fits o (offset c) (length (sent_data c))
  counter_past v t h = rw (ne_eqb k 0 h) (rw (ne_eqb k 0 h) at (fits_counter v t))

  pub fits_other : (r : Bool) (m : ℕ) → ((v : Direction) → w ≡ Counter v → ⊥) → o.maximum ≡ m → r ≡ leb (k + length d) m → r ≡ write_fits o (offset c) (length (sent_data c))
  unfolding write_fits
  fits_other r m t em f = rw (ew, no_counter_kind w t, ← ek, ← ed, em) f

-- the front of an object
pub front_told : (c : List ℕ) (k : ℕ) → k ≡ offset c → not (eqb k 0) ≡ not (eqb (offset c) 0)
front_told c k e = cc

pub counter_told : (o : Object) (q : Bool) → q ≡ is_counter o.kind → not q ≡ false → is_counter o.kind ≡ true
counter_told o q e h = sym e ∙ not-false q h

pub becomes : (c : List ℕ) (byte : ℕ) (a : Bool) → a ≡ may_become byte (get_or c 8 0) → a ≡ may_become byte (get_or (sent_data c) 0 0)
unfolding sent_data
becomes c byte a ea = rw get_or-drop ea

pub content_told : (lcso stored : ℕ) (c d : List ℕ) (a : Bool) → stored ≡ lcso → d ≡ sent_metadata c → a ≡ metadata_allowed stored d →
    a ≡ metadata_allowed lcso (sent_metadata c)
content_told lcso stored c d a es ed ea = cc

pub fitting_told : (n m room : ℕ) (r : Verdict) → n ≡ m → r ≡ fitting n room → r ≡ fitting m room
fitting_told n m room r e f = rw (← e) f

-- a match's arm
pub no_life_cycle : (w : Kind) → (w ≡ LifeCycle → ⊥) → false ≡ is LifeCycle w
unfolding is kind_number
no_life_cycle Data n = refl
no_life_cycle (Counter Up) n = refl
no_life_cycle (Counter Down) n = refl
no_life_cycle Queue n = refl
no_life_cycle LifeCycle n = absurd (n refl)
no_life_cycle Status n = refl

pub a_life_cycle : (w : Kind) → w ≡ LifeCycle → true ≡ is LifeCycle w
unfolding is kind_number
a_life_cycle w e = rw e

pub session_by : (w v : Action) (c : List ℕ) (k : Kind) (byte room : ℕ) (r : Verdict) → w ≡ v → r ≡ session_verdict v c k byte room →
    r ≡ session_verdict w c k byte room
session_by w v c k byte room r e f = rw e f

pub session_get : (w : Action) (c : List ℕ) (k : Kind) (byte room : ℕ) (r : Verdict) → w ≡ GetData →
    ((o : Object) → used o ≡ 1 → r ≡ own_verdict GetData c o room) → r ≡ session_verdict w c k byte room
unfolding session_object
session_get w c k byte room r e f = rw e (f (session_object 0 k byte) refl)

-- an action's verdict, then step 13 ------------------------------------------------------------------------------------------

pub then_later : (t : Bool) (r : Refusal) (v w : Verdict) → ((t refused r or v) and_then w) ≡ (t refused r or (v and_then w))
unfolding ◌refused◌or◌ ◌and_then◌
then_later true r v w = refl
then_later false r v w = refl

-- a step of an action's verdict that was judged by itself
pub stopped_own : (t q : Bool) (k x : Refusal) (v w : Verdict) → q ≡ t → Err x ≡ (q refused k or accepted) → Err x ≡ ((t refused k or v) and_then w)
stopped_own t q k x v w c e = rw then_later (stopped t q k x (v and_then w) c e)

pub gone_on_own : (t q : Bool) (k : Refusal) (r v w : Verdict) → q ≡ t → accepted ≡ (q refused k or accepted) → r ≡ (v and_then w) →
    r ≡ ((t refused k or v) and_then w)
gone_on_own t q k r v w c e f = rw then_later (gone_on t q k r (v and_then w) c e f)

pub nothing_more : (r w : Verdict) → r ≡ w → r ≡ (accepted and_then w)
unfolding ◌and_then◌
nothing_more r w e = e

-- a stored object takes any value
pub any_value : (o : Object) (n : ℕ) (k : Refusal) (r v w : Verdict) → object_allowed o ≡ true → r ≡ (v and_then w) →
    r ≡ ((not (value_allowed o n) refused k or v) and_then w)
unfolding value_allowed of_session ◌refused◌or◌
any_value o n k r v w ok f = rw ((or_parts (is LifeCycle o.kind) _ (storable o.kind o.maximum o.content (allowed o ok).content).not_of_session).0) f

module _ (c : List ℕ) (o : Object) (see : Seen) (room : ℕ) where
  abbrev own : Action → Verdict
  own a = (operation a c o see).verdict and_then fitting (length (operation a c o see).answer) room

  -- access is judged first
  judged : (a : Action) → late (ruling_on a c (some o) see) room ≡ (not (granted a o see) refused AccessDenied or own a)
  unfolding late ruling_on
  judged a = then_later _ _ _ _

-- a get, by what the calls gave
pub get_judged : (c : List ℕ) (o : Object) (k n u room : ℕ) (r : Verdict) → k ≡ offset c → n ≡ asked_length c → used o ≡ u →
    r ≡ (not (leb k u) refused BoundaryExceeded or fitting (min u (k + n) - k) room) → r ≡ own_verdict GetData c o room
unfolding operation ◌and_then◌
get_judged c o k n u room r ek en eu f =
    let many : length (shown c o.content) ≡ min u (k + n) - k = omega (arith, ek, en, eu, shown_length c o.content) in
    rw (then_later, many, ← ek, eu) f

-- an append and an acknowledgement: what a queue said of them, as the rules do
module _ (c : List ℕ) (v : Verdict) (o : Object) where
  pub append_judged : (body : List ℕ) → body ≡ sent_body c →
      ((d : List ℕ) (see : Seen) → sent_body d ≡ body → v ≡ (operation Append d o see).verdict) → v ≡ (operation Append c o (seen [] fresh_session)).verdict
  append_judged body e h = h c (seen [] fresh_session) (sym e)

  pub acknowledge_judged : (n : ℕ) → n ≡ sent_number c →
      ((d : List ℕ) (see : Seen) → sent_number d ≡ n → v ≡ (operation Acknowledge d o see).verdict) →
      v ≡ (operation Acknowledge c o (seen [] fresh_session)).verdict
  acknowledge_judged n e h = h c (seen [] fresh_session) (sym e)

-- at an object of the session -----------------------------------------------------------------------------------------------

-- a life cycle is no counter and no queue
no_counter : (k : Kind) → is LifeCycle k ≡ true → is_counter k ≡ false
unfolding is is_counter kind_number
no_counter k h = rw (← eqb-true 0x10001 (kind_number k) h)

no_queue : (k : Kind) → is LifeCycle k ≡ true → is Queue k ≡ false
unfolding is kind_number
no_queue k h = rw (← eqb-true 0x10001 (kind_number k) h)

-- nor is another object of the session
session_no_queue : (k : Kind) → of_session k ≡ true → is Queue k ≡ false
session_no_queue k of = by_test (is Queue k) (λ q. absurd (false≢true (sym (queue_stored k q) ∙ of))) (λ q. q)

-- a write: of the kind, only whether it is a life cycle counts
state_judged : (c : List ℕ) (n byte : ℕ) (k : Kind) (see : Seen) (room : ℕ) → of_session k ≡ true →
    state_verdict c k byte room ≡ late (ruling_on Write c (some (session_object n k byte)) see) room
unfolding late ruling_on access asked session_object session_change grant operation write_fits value_allowed ◌refused◌or◌ ◌and_then◌
state_judged c n byte k see room of = by (is LifeCycle k) refl
  where
    by : (t : Bool) → is LifeCycle k ≡ t → state_verdict c k byte room ≡ late (ruling_on Write c (some (session_object n k byte)) see) room
    by true e = rw (e, no_counter k e, no_queue k e) (simp then_later)
    by false e = rw (e, session_no_queue k of)

-- a count, an append and an acknowledgement: 03 where change is always granted, 07 where it never is
refused_judged : (a : Action) (c : List ℕ) (n byte : ℕ) (k : Kind) (see : Seen) (room : ℕ) → asked a (session_object n k byte) ≡ session_change k →
    (is LifeCycle k ≡ true → (operation a c (session_object n k byte) see).verdict ≡ Err InvalidParam) →
    session_refused k ≡ late (ruling_on a c (some (session_object n k byte)) see) room
unfolding late ruling_on access session_change grant ◌refused◌or◌ ◌and_then◌
refused_judged a c n byte k see room q v = by (is LifeCycle k) refl
  where
    by : (t : Bool) → is LifeCycle k ≡ t → session_refused k ≡ late (ruling_on a c (some (session_object n k byte)) see) room
    by true e = rw (q, e, v e)
    by false e = rw (q, e)

always_or_never : (t : Bool) (see : Seen) (lcso : ℕ) → (grant see lcso (if t then always else never)).counters ≡ []
unfolding grant
always_or_never true see lcso = refl
always_or_never false see lcso = refl

-- no counter is used up: their expressions are always and never
pub session_uses_none : (a : Action) (n byte : ℕ) (k : Kind) (see : Seen) → of_session k ≡ true → (access a (session_object n k byte) see).counters ≡ []
unfolding access asked session_object session_change grant
session_uses_none GetData n byte k see of = refl
session_uses_none GetMetadata n byte k see of = rw of
session_uses_none Write n byte k see of = rw (session_no_queue k of) (always_or_never (is LifeCycle k) see _)
session_uses_none EraseAndWrite n byte k see of = rw (session_no_queue k of) (always_or_never (is LifeCycle k) see _)
session_uses_none SetMetadata n byte k see of = rw of
session_uses_none Count n byte k see of = always_or_never (is LifeCycle k) see _
session_uses_none Append n byte k see of = always_or_never (is LifeCycle k) see _
session_uses_none Acknowledge n byte k see of = always_or_never (is LifeCycle k) see _

module _ (c : List ℕ) (n byte : ℕ) (k : Kind) (see : Seen) (room : ℕ) (of : of_session k ≡ true) where
  pub session_judged : (a : Action) → session_verdict a c k byte room ≡ late (ruling_on a c (some (session_object n k byte)) see) room
  unfolding late ruling_on operation access asked session_object grant ◌refused◌or◌ ◌and_then◌
  session_judged GetData = sym (judged c (session_object n k byte) see room GetData)
  session_judged GetMetadata = rw of
  session_judged Write = state_judged c n byte k see room of
  session_judged EraseAndWrite = state_judged c n byte k see room of
  session_judged SetMetadata = rw of
  session_judged Count = refused_judged Count c n byte k see room refl (λ h. rw (no_counter k h))
  session_judged Append = refused_judged Append c n byte k see room refl (λ h. rw (no_queue k h))
  session_judged Acknowledge = refused_judged Acknowledge c n byte k see room refl (λ h. rw (no_queue k h))

-- at a found record ---------------------------------------------------------------------------------------------------------

-- what an action's own steps say does not depend on what is seen
own_alike : (a : Action) (c : List ℕ) (o : Object) (see : Seen) (room : ℕ) → own_verdict a c o room ≡ own c o see room a
own_alike a c o see room =
    let p = operation_alike a c o (seen [] fresh_session) see in
    λ i. p.verdict i and_then fitting (length (p.answer i)) room

pub own_by : (a v : Action) (c : List ℕ) (o : Object) (room : ℕ) (r : Verdict) → a ≡ v → r ≡ own_verdict v c o room → r ≡ own_verdict a c o room
own_by a v c o room r e f = rw e f

-- `judge_stored`; g is what `granted` answered
module _ (g : Option (List ℕ)) (a : Action) (c : List ℕ) (o : Object) (see : Seen) (e : told g ≡ access a o see) where
  pub stored_judged : (ns : List ℕ) (room : ℕ) (r : Verdict) → g ≡ Some ns → r ≡ own_verdict a c o room → r ≡ late (ruling_on a c (some o) see) room
  unfolding ◌refused◌or◌
  stored_judged ns room r h f =
      let w : granted a o see ≡ true = ap (λ (x : Grant). x.granted) (sym e) ∙ ap (λ x. (told x).granted) h in
      f ∙ own_alike a c o see room ∙ sym (judged c o see room a ∙ rw w)

  pub stored_counters : (ns : List ℕ) → g ≡ Some ns → ns ≡ (ruling_on a c (some o) see).counters
  unfolding ruling_on
  stored_counters ns h = ap (λ x. (told x).counters) (sym h) ∙ ap (λ (x : Grant). x.counters) e

  pub denied : (room : ℕ) (r : Verdict) → g ≡ None → r ≡ Err AccessDenied → r ≡ late (ruling_on a c (some o) see) room
  unfolding ◌refused◌or◌
  denied room r h f =
      let w : granted a o see ≡ false = ap (λ (x : Grant). x.granted) (sym e) ∙ ap (λ x. (told x).granted) h in
      f ∙ sym (judged c o see room a ∙ rw w)

  pub denied_counters : (ns : List ℕ) → g ≡ None → ns ≡ [] → ns ≡ (ruling_on a c (some o) see).counters
  unfolding ruling_on
  denied_counters ns h z = z ∙ ap (λ x. (told x).counters) (sym h) ∙ ap (λ (x : Grant). x.counters) e

-- at the target ------------------------------------------------------------------------------------------------------------------

module _ (a : Action) (c b : List ℕ) (see : Seen) (aim : Aim) where
  pub at_target : (v : Aim) (room : ℕ) (r : Verdict) → aim ≡ v →
      r ≡ late (ruling_on a c (target_object v b) see) room → r ≡ late (ruling_on a c (target_object aim b) see) room
  at_target v room r e f = rw e f

  pub counters_at : (v : Aim) (ns : List ℕ) → aim ≡ v →
      ns ≡ (ruling_on a c (target_object v b) see).counters → ns ≡ (ruling_on a c (target_object aim b) see).counters
  counters_at v ns e f = rw e f

  module _ (n : ObjectNumber) (k : Kind) (byte : ℕ) (t : Placed aim c b) (e : aim ≡ Some (InSession n k byte)) where
    pub at_session : (room : ℕ) (v r : Verdict) → v ≡ session_verdict a c k byte room → r ≡ v →
        r ≡ late (ruling_on a c (some (session_object n.0 k byte)) see) room
    at_session room v r f g = g ∙ f ∙ session_judged c n.0 byte k see room (rw e at t) a

    pub session_counters : (ns : List ℕ) → ns ≡ [] → ns ≡ (ruling_on a c (some (session_object n.0 k byte)) see).counters
    unfolding ruling_on
    session_counters ns z = z ∙ sym (session_uses_none a n.0 byte k see (rw e at t))

pub nothing_named : (a : Action) (c : List ℕ) (see : Seen) (room : ℕ) (r : Verdict) → r ≡ Err InvalidObject → r ≡ late (ruling_on a c none see) room
unfolding late ruling_on ◌and_then◌
nothing_named a c see room r e = e

pub record_stands : (c b : List ℕ) (aim : Aim) → Placed aim c b → (p : ℕ) → aim ≡ Some (InStore p) → Stored p b
record_stands c b aim t p e = (rw e at t).0
