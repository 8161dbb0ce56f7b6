-- From the parts to one command: the ways out of `perform`, `on_object`, `carry_out` and `execute`.
use Prim.Native.Nat.{ℕ, ◌<◌, ◌≤◌}
use mathlib.Core.Path.{◌≡◌, refl, sym, ap, ◌∙◌}
use mathlib.Core.Bool.{Bool, true, false, false≢true}
use mathlib.Core.List.{List, []}
use mathlib.Core.Option.{Option, none, some}
use native.Mathlib.Omega.{arith}
use borrow.Author.Tests.{leb-true, lt-ltb, le-ltb, ltb-false, not-false}
use lib.ListN.{length}
use Rattle.rules.specs.declared.ObjectNumber.{ObjectNumber}
use Rattle.rules.specs.declared.Kind.{Kind}
use Rattle.rules.specs.declared.Session.{Session}
use Rattle.rules.specs.declared.Refusal.{Refusal}
use Rattle.rules.specs.Verdict.{Verdict, accepted}
use Rattle.std.specs.Prelude.{Some, None, Err}
use Rattle.rules.specs.declared.Action.{Action}
use Rattle.rules.specs.declared.Action.TheVariants.{GetData, GetMetadata, Write, EraseAndWrite, SetMetadata, Count, Append, Acknowledge}
use Rattle.rules.specs.declared.Row.{Row}
use Rattle.rules.specs.declared.Row.TheVariants.{OnObject, OpenApplication, CloseApplication, Unknown}
use Rattle.rules.specs.Basic.{is_some, or_else}
use Rattle.rules.specs.Command.{row, object_number, offset}
use Rattle.rules.specs.Response.{code, done_response, refused_response, put_in_front}
use Rattle.rules.specs.Object.{Object, used, of_session, object_allowed}
use Rattle.rules.specs.Layout.{pack, unpack, replaced, found}
use Rattle.rules.specs.Factory.{fresh_session}
use Rattle.rules.specs.Session.{session_object, with_opened}
use Rattle.rules.specs.Chain.{◌and_then◌}
use Rattle.rules.specs.Access.{Seen, seen, seen_in, all_used_up, named, granted}
use Rattle.rules.specs.Operation.{operation, setting_session}
use Rattle.rules.specs.Refusals.{early, ruling_on, ruling_of, ruling, late, verdict}
use Rattle.rules.specs.Step.{raised, declined, replacing, objects_after, performed, answered, judged, flushed, unanswered, step}
use Rattle.laws.proofs.Tests.{some_else}
use Rattle.laws.proofs.Facts.{allowed}
use Rattle.laws.proofs.Inverse.{unpack_pack, pack_unpack}
use Rattle.laws.proofs.Places.{found_stands}
use Rattle.laws.proofs.Verdicts.{passed, both_accepted, fitting_passed, fitting_accepts, LatePassed, late_passed}
use Rattle.laws.proofs.Fitting.{write_within, next_below, operation_fitting, operation_outside}
use Rattle.laws.proofs.Views.{Alike, operation_alike, session_left}
use Rattle.laws.proofs.UsedUp.{none_used_up}
use Rattle.laws.proofs.Keeps.{replaced_fits}
use Rattle.record.specs.Places.{object_at, Stored}
use Rattle.record.proofs.Standing.{standing}
use Rattle.store.proofs.Placing.{finds_it, recorded_there}
use Rattle.command.specs.Table.{BodySent}
use Rattle.command.proofs.InForm.{in_form}
use Rattle.judge.specs.Aims.{Aim}
use Rattle.judge.specs.declared.Target.TheVariants.{InSession, InStore}
use Rattle.judge.specs.Targets.{target_object, Placed}
use Rattle.judge.specs.Verdicts.{session_verdict}
use Rattle.judge.proofs.Judging.{session_uses_none, session_judged}
use Rattle.act.specs.Acting.{session_does, record_does, InSessionMay, OnRecordMay, stored_at}
use Rattle.element.specs.declared.Answer.{Answer}
use Rattle.element.specs.Executed.{executed, Executes}

not_accepted : {r : Refusal} → Err r ≡ accepted → ⊥
not_accepted h = let z : ◌≡◌ {A = ℕ} 0 1 = cc in omega arith

-- what a value was told to be, of another that it is
pub told : {A : Type 0} {v w u : A} → v ≡ w → v ≡ u → w ≡ u
told e h = sym e ∙ h

-- a refusal's number
pub refused_by : (k : ℕ) (r : Refusal) (s t : Session) → k ≡ code r → t ≡ raised k s → t ≡ raised (code r) s
refused_by k r s t e f = f ∙ ap (λ n. raised n s) e

-- an accepted get or set ----------------------------------------------------------------------------------------------------------

-- what the verdict at an object of the session has told
session_told : (a : Action) (c : List ℕ) (k : Kind) (byte room : ℕ) → session_verdict a c k byte room ≡ accepted → InSessionMay a c byte room
unfolding operation session_object
session_told GetData c k byte room h = fitting_passed _ room (both_accepted _ _ h).1
session_told GetMetadata c k byte room h = absurd (not_accepted h)
session_told Write c k byte room h = fitting_passed 0 room (passed _ _ _ (passed _ _ _ (passed _ _ _ h).1).1).1
session_told EraseAndWrite c k byte room h = fitting_passed 0 room (passed _ _ _ (passed _ _ _ (passed _ _ _ h).1).1).1
session_told SetMetadata c k byte room h = absurd (not_accepted h)
session_told Count c k byte room h = absurd (not_accepted (passed _ _ _ h).1)
session_told Append c k byte room h = absurd (not_accepted (passed _ _ _ h).1)
session_told Acknowledge c k byte room h = absurd (not_accepted (passed _ _ _ h).1)

-- and at a found record
record_told : (a : Action) (c : List ℕ) (o : Object) (see : Seen) (room : ℕ) → object_allowed o ≡ true → BodySent a c → LatePassed a c o see room →
    OnRecordMay a c o room
unfolding operation
record_told GetData c o see room ok sent l =
    (leb-true (offset c) (used o) (not-false _ (passed _ _ _ l.own).0), l.fits)
record_told GetMetadata c o see room ok sent l = l.fits
record_told Write c o see room ok sent l = ((write_within o _ _ ok (not-false _ (passed _ _ _ l.own).0)).within, l.fits)
record_told EraseAndWrite c o see room ok sent l = ((write_within o _ _ ok (not-false _ (passed _ _ _ l.own).0)).within, l.fits)
record_told SetMetadata c o see room ok sent l = (not-false _ (passed _ _ _ l.own).0, l.fits)
record_told Count c o see room ok sent l = (not-false _ (passed _ _ _ l.own).0, l.fits)
record_told Append c o see room ok sent l =
    let (kind, v11) = passed _ _ _ l.own in
    let (room_left, v13) = passed _ _ _ v11 in
    let q = not-false _ kind in
    let number = next_below o ok q (passed _ _ _ v13).0 in
    (record { is_queue = q; allowed = sent refl; fits = ltb-false o.maximum _ room_left; number_left = number }, l.fits)
record_told Acknowledge c o see room ok sent l =
    let (kind, v12) = passed _ _ _ l.own in
    (record { is_queue = not-false _ kind; present = not-false _ (passed _ _ _ v12).0 }, l.fits)

-- what is done at an object of the session does not depend on its kind, nor on stored objects
session_alike : (a : Action) (c : List ℕ) (n byte room : ℕ) (k : Kind) (os : List Object) (s : Session) → InSessionMay a c byte room →
    ((session_does a c n byte s).session ≡ (operation a c (session_object n k byte) (seen os s)).session) ×
    ((session_does a c n byte s).answer ≡ (operation a c (session_object n k byte) (seen os s)).answer)
unfolding operation session_object seen
session_alike GetData c n byte room k os s m = (refl, refl)
session_alike GetMetadata c n byte room k os s m = absurd m
session_alike Write c n byte room k os s m = (refl, refl)
session_alike EraseAndWrite c n byte room k os s m = (refl, refl)
session_alike SetMetadata c n byte room k os s m = absurd m
session_alike Count c n byte room k os s m = absurd m
session_alike Append c n byte room k os s m = absurd m
session_alike Acknowledge c n byte room k os s m = absurd m

module _ (a : Action) (c b : List ℕ) (s : Session) (aim : Aim) (t : Placed aim c b) where
  abbrev os : List Object
  os = or_else (unpack b) []

  abbrev see : Seen
  see = seen_in b s

  -- the verdict was: accepted
  module _ (room : ℕ) (h : late (ruling_on a c (target_object aim b) (seen_in b s)) room ≡ accepted) where
    pub session_may : (n : ObjectNumber) (k : Kind) (byte : ℕ) → aim ≡ Some (InSession n k byte) → InSessionMay a c byte room
    unfolding target_object
    session_may n k byte e =
        let of : of_session k ≡ true = rw e at t in
        session_told a c k byte room (session_judged c n.0 byte k see room of a ∙ rw e at h)

    record_late : (p : ℕ) → aim ≡ Some (InStore p) → LatePassed a c (object_at p b) see room
    unfolding target_object
    record_late p e = late_passed a c (object_at p b) see room (rw e at h)

    pub record_may : (p : ℕ) → BodySent a c → aim ≡ Some (InStore p) → OnRecordMay a c (object_at p b) room
    record_may p sent e =
        let there : Stored p b × (found (object_number c) os ≡ Some p) = rw e at t in
        record_told a c (object_at p b) see room (standing p b there.0.stands).allowed sent (record_late p e)

    pub nothing_late : aim ≡ None → ⊥
    unfolding target_object late ruling_on ◌and_then◌
    nothing_late e = not_accepted (rw e at h)

  module _ (sound : is_some (unpack b) ≡ true) (sent : BodySent a c) where
    unpacked : unpack b ≡ some os
    unpacked = some_else (unpack b) [] sound

    -- where nothing is stored, the packing is the store
    packed : b ≡ pack (replacing none os)
    unfolding replacing
    packed = sym (pack_unpack b os unpacked).0

    module _ (room xs : List ℕ) (h : late (ruling_on a c (target_object aim b) (seen_in b s)) (length room) ≡ accepted) where
      -- at an object of the session nothing is stored
      nothing_stored : (n : ObjectNumber) (k : Kind) (byte : ℕ) → aim ≡ Some (InSession n k byte) → (m : Option Object) →
          (operation a c (session_object n.0 k byte) see).stores ≡ m → m ≡ none
      unfolding session_object target_object
      nothing_stored n k byte e none q = refl
      nothing_stored n k byte e (some new) q =
          let of : of_session k ≡ true = rw e at t in
          let l = late_passed a c (session_object n.0 k byte) see (length room) (rw e at h) in
          absurd (false≢true (told (operation_outside a c (session_object n.0 k byte) see new l.granted l.own q) of))

      pub session_done : (n : ObjectNumber) (k : Kind) (byte : ℕ) (r : Session) → aim ≡ Some (InSession n k byte) → r ≡ (session_does a c n.0 byte s).session →
          xs ≡ put_in_front (done_response (session_does a c n.0 byte s).answer) room →
          executed (record { outcome = 0; session = r }) xs b ≡ performed (ruling_on a c (target_object aim b) (seen_in b s)) room os
      unfolding performed objects_after target_object ruling_on
      session_done n k byte r e er ex =
          let (sessions, answers) = session_alike a c n.0 byte (length room) k os s (session_may (length room) h n k byte e) in
          let stores = nothing_stored n k byte e _ refl in
          let counters = session_uses_none a n.0 byte k see (rw e at t) in
          rw (e, er, ex, sessions, answers, stores, counters, none_used_up, ← packed)

      -- what is put at the place of a record is the packing of the changed objects
      same_store : (p : ℕ) → aim ≡ Some (InStore p) → (m : Option Object) → (operation a c (object_at p b) see).stores ≡ m → stored_at p m b ≡ pack (replacing m os)
      unfolding stored_at replacing
      same_store p e none q = packed
      same_store p e (some new) q =
          let there : Stored p b × (found (object_number c) os ≡ Some p) = rw e at t in
          let ok = (standing p b there.0.stands).allowed in
          let l = record_late (length room) h p e in
          let f = operation_fitting a c (object_at p b) see new ok sent l.granted l.own q in
          recorded_there (object_number c) p b os unpacked there.1 new f.allowed f.number f.maximum

      -- and those objects are read back from it
      still_sound : (p : ℕ) → aim ≡ Some (InStore p) → (m : Option Object) → (operation a c (object_at p b) see).stores ≡ m →
          unpack (pack (replacing m os)) ≡ some (replacing m os)
      unfolding replacing
      still_sound p e none q = rw (← packed) unpacked
      still_sound p e (some new) q =
          let there : Stored p b × (found (object_number c) os ≡ Some p) = rw e at t in
          let ok = (standing p b there.0.stands).allowed in
          let l = record_late (length room) h p e in
          let f = operation_fitting a c (object_at p b) see new ok sent l.granted l.own q in
          let st = found_stands (object_number c) os (object_at p b) (finds_it (object_number c) p b os unpacked there.1) in
          unpack_pack (replaced new os) (replaced_fits (object_number c) os (object_at p b) new (pack_unpack b os unpacked).1 st f).allowed

      -- the store that the act leaves: the objects with the command's own change
      module _ (p : ℕ) (b1 : List ℕ) (e : aim ≡ Some (InStore p)) (e1 : b1 ≡ stored_at p (record_does a c (object_at p b)).stores b) where
        alike : Alike (record_does a c (object_at p b)) (operation a c (object_at p b) see)
        alike = operation_alike a c (object_at p b) (seen [] fresh_session) see

        changed_store : b1 ≡ pack (replacing (operation a c (object_at p b) see).stores os)
        changed_store = rw (e1, alike.stores, same_store p e _ refl)

        changed_sound : unpack b1 ≡ some (replacing (operation a c (object_at p b) see).stores os)
        changed_sound = rw changed_store (still_sound p e _ refl)

        pub act_sound : is_some (unpack b1) ≡ true
        act_sound = rw changed_sound

        pub record_done : (ns : List ℕ) (b2 : List ℕ) → ns ≡ (ruling_on a c (target_object aim b) (seen_in b s)).counters →
            b2 ≡ pack (all_used_up ns (or_else (unpack b1) [])) →
            xs ≡ put_in_front (done_response (record_does a c (object_at p b)).answer) room →
            executed (record { outcome = 0; session = s }) xs b2 ≡ performed (ruling_on a c (target_object aim b) (seen_in b s)) room os
        unfolding performed objects_after target_object ruling_on seen
        record_done ns b2 en e2 ex =
            let there : Stored p b × (found (object_number c) os ≡ Some p) = rw e at t in
            let outside = (allowed (object_at p b) (standing p b there.0.stands).allowed).outside_session in
            rw (e2, en, ex, changed_sound, e, alike.answer, session_left a c (object_at p b) see outside)

-- `on_object`: the verdict of the steps 9 to 13 decides -----------------------------------------------------------------------------

module _ (c b room : List ℕ) (s : Session) (a : early (is_some (unpack b)) c s ≡ accepted) where
  pub accepted_sound : is_some (unpack b) ≡ true
  accepted_sound = (in_form (is_some (unpack b)) c s a).well_formed

  judged_by : (v : Verdict) → v ≡ late (ruling (row c) c (seen_in b s)) (length room) →
      answered v (ruling (row c) c (seen_in b s)) room b (or_else (unpack b) []) s ≡ judged c room b (unpack b) s
  unfolding judged verdict ◌and_then◌ seen
  judged_by v e = rw (a, e)

  -- at the object that is named
  module _ (w : Action) (acts : row c ≡ OnObject w) (aim : Aim) (ea : target_object aim b ≡ named (object_number c) (seen_in b s)) where
    ruling_is : ruling_on w c (target_object aim b) (seen_in b s) ≡ ruling (row c) c (seen_in b s)
    unfolding ruling
    ruling_is = rw (acts, ea)

    pub refused_late : (v : Verdict) (k : Refusal) (r : Answer) (xs : List ℕ) → v ≡ late (ruling_on w c (target_object aim b) (seen_in b s)) (length room) →
        v ≡ Err k → r.outcome ≡ 0 → r.session ≡ raised (code k) s → xs ≡ put_in_front refused_response room → executed r xs b ≡ judged c room b (unpack b) s
    unfolding answered declined
    refused_late v k r xs e q eo es ex = rw (eo, es, ex) (judged_by (Err k) (told q (rw ruling_is at e)))

    pub accepted_late : (v : Verdict) (r : Session) (xs b' : List ℕ) → v ≡ late (ruling_on w c (target_object aim b) (seen_in b s)) (length room) →
        v ≡ accepted →
        executed (record { outcome = 0; session = r }) xs b' ≡ performed (ruling_on w c (target_object aim b) (seen_in b s)) room (or_else (unpack b) []) →
        executed (record { outcome = 0; session = r }) xs b' ≡ judged c room b (unpack b) s
    unfolding answered
    accepted_late v r xs b' e q f = (rw ruling_is at f) ∙ judged_by accepted (told q (rw ruling_is at e))

  -- `carry_out`: a row that names no object
  module _ (four : 4 ≤ length room) (w : Row) (ew : w ≡ row c) (r : Answer) (xs : List ℕ) (eo : r.outcome ≡ 0)
      (ex : xs ≡ put_in_front (done_response []) room) where
    session_set : (s' : Session) → ruling (row c) c (seen_in b s) ≡ ruling_of s' → r.session ≡ s' → executed r xs b ≡ judged c room b (unpack b) s
    unfolding answered performed objects_after late ruling_of setting_session replacing ◌and_then◌
    session_set s' e es =
        let packed = (pack_unpack b (or_else (unpack b) []) (some_else (unpack b) [] accepted_sound)).0 in
        let stands : executed r xs b ≡ answered accepted (ruling (row c) c (seen_in b s)) room b (or_else (unpack b) []) s =
        rw (e, none_used_up, packed, eo, ex, es) in
        stands ∙ judged_by accepted (rw e (sym (fitting_accepts 0 (length room) four)))

    pub opened_set : (s' : Session) → w ≡ OpenApplication → s' ≡ with_opened true s → r.session ≡ s' → executed r xs b ≡ judged c room b (unpack b) s
    unfolding ruling seen
    opened_set s' e q es = session_set (with_opened true s) (rw (← ew, e)) (es ∙ q)

    pub closed_set : (s' : Session) → w ≡ CloseApplication → s' ≡ with_opened false s → r.session ≡ s' → executed r xs b ≡ judged c room b (unpack b) s
    unfolding ruling seen
    closed_set s' e q es = session_set (with_opened false s) (rw (← ew, e)) (es ∙ q)

    pub unknown_set : w ≡ Unknown → r.session ≡ s → executed r xs b ≡ judged c room b (unpack b) s
    unfolding ruling seen
    unknown_set e es = session_set s (rw (← ew, e)) es

-- `execute` ---------------------------------------------------------------------------------------------------------------------------

module _ (c room b : List ℕ) (s : Session) where
  pub too_small : length room < 4 → Executes c room b s (record { outcome = 1; session = s }) room b
  unfolding step unanswered
  too_small h = rw (lt-ltb (length room) 4 h)

  module _ (four : 4 ≤ length room) (f : Session) (ef : f ≡ flushed c s) where
    pub step_by : (r : Answer) (xs b' : List ℕ) → executed r xs b' ≡ judged c room b (unpack b) f → Executes c room b s r xs b'
    unfolding step
    step_by r xs b' e = e ∙ ap (judged c room b (unpack b)) ef ∙ sym (rw (le-ltb (length room) 4 four))

    pub early_refused : (t : Bool) (v : Verdict) (k : Refusal) (r : Answer) (xs : List ℕ) → t ≡ is_some (unpack b) → v ≡ early t c f → v ≡ Err k →
        r.outcome ≡ 0 → r.session ≡ raised (code k) f → xs ≡ put_in_front refused_response room → Executes c room b s r xs b
    unfolding declined judged verdict answered ◌and_then◌ seen
    early_refused t v k r xs et ev q eo es ex = step_by r xs b (rw (eo, es, ex, ← et, ← ev, q))

  pub early_passes : (f : Session) (t : Bool) (v : Verdict) → t ≡ is_some (unpack b) → v ≡ early t c f → v ≡ accepted → early (is_some (unpack b)) c f ≡ accepted
  early_passes f t v et ev q = ap (λ x. early x c f) (sym et) ∙ sym ev ∙ q
