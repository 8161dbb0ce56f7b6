-- A command ends unanswered, refused or performed (`step_by`). So it keeps a sound store sound, and store and room as long as they were.
use Prim.Native.Nat.{ℕ, ◌≤◌, ◌<◌}
use mathlib.Core.Bool.{true, false, false≢true}
use mathlib.Core.List.{List, [], ◌∷◌, ◌++◌, map, map-append}
use mathlib.Core.Option.{Option, none, some}
use mathlib.Core.Path.{◌≡◌, refl, sym, ap, ◌∙◌}
use native.Mathlib.Omega.{arith}
use borrow.Author.Tests.{ltb-true, ltb-false}
use lib.Dec.{ltb}
use lib.ListN.{length, length-append, length-drop, length-map}
use Rattle.rules.specs.declared.Session.{Session}
use Rattle.rules.specs.declared.Action.TheVariants.{Append}
use Rattle.rules.specs.declared.Row.{Row}
use Rattle.rules.specs.declared.Row.TheVariants.{OnObject, OpenApplication, CloseApplication, Unknown}
use Rattle.rules.specs.declared.Refusal.{Refusal}
use Rattle.rules.specs.Verdict.{Verdict, accepted}
use Rattle.std.specs.Prelude.{Ok, Err}
use Rattle.rules.specs.Basic.{is_some, or_else}
use Rattle.rules.specs.Command.{row, object_number, sent_body}
use Rattle.rules.specs.Queue.{body_allowed}
use Rattle.rules.specs.Response.{done_response, refused_response, put_in_front}
use Rattle.rules.specs.Object.{Object, object_allowed, all_allowed_with, all_allowed}
use Rattle.rules.specs.Layout.{size_with, size, objects_allowed_with, objects_allowed, unpack, replaced}
use Rattle.rules.specs.Access.{Seen, seen, named, used_up, all_used_up}
use Rattle.rules.specs.Operation.{setting_session, operation}
use Rattle.rules.specs.Refusals.{unsound, Ruling, ruling_on, ruling_of, ruling, late, verdict}
use Rattle.rules.specs.Step.{After, replacing, objects_after, performed, declined, answered, judged, flushed, unanswered, step}
use Rattle.laws.proofs.Tests.{if_by, and_left, and_right}
use Rattle.laws.proofs.Facts.{numbers, all_allowed_facts}
use Rattle.laws.proofs.Inverse.{unpack_pack, pack_unpack}
use Rattle.laws.proofs.Places.{Stands, replaced_at, pack_length}
use Rattle.laws.proofs.Verdicts.{answer_fits, nine_passed, early_passed, verdict_passed}
use Rattle.laws.proofs.Rows.{body_sent}
use Rattle.laws.proofs.Named.{in_store, found_there}
use Rattle.laws.proofs.Fitting.{Fitting, operation_fitting, operation_outside, used_up_fits}

-- the objects after ------------------------------------------------------------------------------------------------------

-- the objects of the store after an operation
pub record StillAllowed (os ps : List Object) : Type 0 where
  pub allowed : objects_allowed ps ≡ true
  pub size : size ps ≡ size os

-- objects with one of them replaced by one that fits: what is counted of them stays
module _ (o new : Object) (after : List Object) (f : Fitting o new) where
  swap_all : (before : List Object) → all_allowed (before ++ o ∷ after) ≡ true → all_allowed (before ++ new ∷ after) ≡ true
  unfolding all_allowed_with
  swap_all [] h = rw f.allowed (and_right (object_allowed o) _ h)
  swap_all (p ∷ before) h = rw (and_left (object_allowed p) _ h, swap_all before (and_right (object_allowed p) _ h))

  swap_size : (before : List Object) → size (before ++ new ∷ after) ≡ size (before ++ o ∷ after)
  unfolding size_with
  swap_size [] = rw f.maximum
  swap_size (p ∷ before) = rw (swap_size before)

  swapped : (before : List Object) → objects_allowed (before ++ o ∷ after) ≡ true → StillAllowed (before ++ o ∷ after) (before ++ new ∷ after)
  unfolding objects_allowed_with numbers
  swapped before h =
      let each = (all_allowed_facts (before ++ o ∷ after) h).each in
      let same : length (before ++ new ∷ after) ≡ length (before ++ o ∷ after) = simp length-append in
      let numbered : numbers (before ++ new ∷ after) ≡ numbers (before ++ o ∷ after) = simp (map-append, f.number) in
      record { allowed = rw (same, swap_size before, numbered, swap_all before each) (rw each at h); size = swap_size before }

pub replaced_fits : (n : ℕ) (os : List Object) (o new : Object) → objects_allowed os ≡ true → Stands n os o → Fitting o new → StillAllowed os (replaced new os)
replaced_fits n os o new h st f =
    let rises = rw st.split at (all_allowed_facts os h).rises in
    let k = swapped o new st.after f st.before (rw st.split at h) in
    rw st.split (rw (replaced_at st.before o st.after new f.number rises) k)

-- each in its place by one that fits
module _ (f : Object → Object) (fits : (o : Object) → object_allowed o ≡ true → Fitting o (f o)) where
  each_allowed : (os : List Object) → all_allowed os ≡ true → all_allowed (map f os) ≡ true
  unfolding all_allowed_with
  each_allowed [] h = refl
  each_allowed (o ∷ os) h = rw ((fits o (and_left (object_allowed o) _ h)).allowed, each_allowed os (and_right (object_allowed o) _ h))

  each_size : (os : List Object) → all_allowed os ≡ true → size (map f os) ≡ size os
  unfolding all_allowed_with size_with
  each_size [] h = refl
  each_size (o ∷ os) h = rw ((fits o (and_left (object_allowed o) _ h)).maximum, each_size os (and_right (object_allowed o) _ h))

  each_numbered : (os : List Object) → all_allowed os ≡ true → numbers (map f os) ≡ numbers os
  unfolding all_allowed_with numbers
  each_numbered [] h = refl
  each_numbered (o ∷ os) h = λ i. (fits o (and_left (object_allowed o) _ h)).number i ∷ each_numbered os (and_right (object_allowed o) _ h) i

  pub each_fits : (os : List Object) → objects_allowed os ≡ true → StillAllowed os (map f os)
  unfolding objects_allowed_with numbers
  each_fits os h =
      let each = (all_allowed_facts os h).each in
      record {
        allowed = rw (length-map os f, each_size os each, each_numbered os each, each_allowed os each) (rw each at h);
        size = each_size os each;
      }

-- what is stored fits in the place of an object of the store
pub record StoredFits (n : ℕ) (os : List Object) (new : Object) : Type 0 where
  pub object : Object
  pub stands : Stands n os object
  pub fits : Fitting object new

-- so does what a ruling stores that is accepted, of an append with a body that is allowed
row_fits : (r : Row) (c : List ℕ) (os : List Object) (s : Session) (room : ℕ) (new : Object) → objects_allowed os ≡ true →
    (r ≡ OnObject Append → body_allowed (sent_body c) ≡ true) →
    late (ruling r c (seen os s)) room ≡ accepted → (ruling r c (seen os s)).does.stores ≡ some new → StoredFits (object_number c) os new
unfolding ruling ruling_of setting_session
row_fits (OnObject a) c os s room new h b v e =
    let p = nine_passed a c (named (object_number c) (seen os s)) (seen os s) room v in
    let o = p.object in
    let stores : (operation a c o (seen os s)).stores ≡ some new = unfold ruling_on in (rw p.there at e) in
    let there = in_store (object_number c) (seen os s) o (operation_outside a c o (seen os s) new p.late.granted p.late.own stores) p.there in
    let f = found_there (object_number c) os o h (unfold seen in there) in
    let fits = operation_fitting a c o (seen os s) new f.object_ok (λ q. b (ap OnObject q)) p.late.granted p.late.own stores in
    record { object = o; stands = f.stands; fits = fits }
row_fits OpenApplication c os s room new h b v e = let z : ◌≡◌ {A = ℕ} 0 1 = cc in absurd (omega arith)
row_fits CloseApplication c os s room new h b v e = let z : ◌≡◌ {A = ℕ} 0 1 = cc in absurd (omega arith)
row_fits Unknown c os s room new h b v e = let z : ◌≡◌ {A = ℕ} 0 1 = cc in absurd (omega arith)

-- a command that the steps 2 to 13 accept, with these objects
module _ (c : List ℕ) (os : List Object) (s : Session) (room : ℕ) (h : objects_allowed os ≡ true) (v : verdict true c room (seen os s) ≡ accepted) where
  pub ruling_fits : (new : Object) → (ruling (row c) c (seen os s)).does.stores ≡ some new → StoredFits (object_number c) os new
  unfolding seen
  ruling_fits new e =
      let (early, late) = verdict_passed true c room (seen os s) v in
      row_fits (row c) c os s room new h (body_sent true c s early) late e

  -- so the objects with it in its place are allowed, and as large
  pub replaced_kept : StillAllowed os (replacing (ruling (row c) c (seen os s)).does.stores os)
  unfolding replacing
  replaced_kept =
      elim (ruling (row c) c (seen os s)).does.stores as (λ m. (ruling (row c) c (seen os s)).does.stores ≡ m → StillAllowed os (replacing m os)) [
        | none ↦ λ e. record { allowed = h; size = refl }
        | some new ↦ λ e.
            let f = ruling_fits new e in
            replaced_fits (object_number c) os f.object new h f.stands f.fits
      ] refl

  -- and so are those after the command
  pub ruling_kept : StillAllowed os (objects_after (ruling (row c) c (seen os s)) os)
  unfolding objects_after all_used_up
  ruling_kept =
      let changed = replaced_kept in
      let stepped = each_fits (used_up (ruling (row c) c (seen os s)).counters) (used_up_fits _) _ changed.allowed in
      record { allowed = stepped.allowed; size = stepped.size ∙ changed.size }

-- one command -----------------------------------------------------------------------------------------------------------

-- the ruling on a command with these objects, and what the steps 2 to 13 say of it
abbrev pub ruled : List ℕ → Option (List Object) → Session → Ruling
ruled c objects s = ruling (row c) c (seen (or_else objects []) s)

abbrev pub judgment : List ℕ → List ℕ → Option (List Object) → Session → Verdict
judgment c room objects s = verdict (is_some objects) c (length room) (seen (or_else objects []) s)

module _ (P : After → Type 0) (c room store : List ℕ) (s : Session) where
  abbrev now : Session
  now = flushed c s

  abbrev objects : Option (List Object)
  objects = unpack store

  -- what holds where no status fits, of every refusal, and of what an accepted command performs, holds of the step
  pub step_by : (length room < 4 → P (unanswered room store s)) →
      (4 ≤ length room → (r : Refusal) → judgment c room objects now ≡ Err r → P (declined r room store now)) →
      (4 ≤ length room → judgment c room objects now ≡ accepted → P (performed (ruled c objects now) room (or_else objects []))) →
      P (step c room store s)
  unfolding step judged answered
  step_by unanswerable refuses performs =
      if_by P (ltb (length room) 4) (unanswered room store s) (judged c room store objects now) (λ e. unanswerable (ltb-true (length room) 4 e))
      (λ e.
      elim (judgment c room objects now) as (λ v. judgment c room objects now ≡ v → P (answered v (ruled c objects now) room store (or_else objects []) now))
      [ Err r ↦ refuses (ltb-false (length room) 4 e) r | Ok _ ↦ performs (ltb-false (length room) 4 e) ] refl)

-- a store that is still sound, and as long as it was
pub record Sound (store after : List ℕ) : Type 0 where
  pub objects : List Object
  pub reads : unpack after ≡ some objects
  pub long : length after ≡ length store

-- a command keeps a sound store sound, and as long as it was
pub step_sound : (c room store : List ℕ) (os : List Object) (s : Session) → unpack store ≡ some os → Sound store (step c room store s).store
unfolding unanswered declined performed
step_sound c room store os s u =
    let here : Sound store store = record { objects = os; reads = u; long = refl } in
    step_by (λ a. Sound store a.store) c room store s (λ l. here) (λ l r e. here)
    (λ l e.
    let (packed, ok) = pack_unpack store os u in
    let k = ruling_kept c os (flushed c s) (length room) ok (rw u at e) in
    let long = pack_length _ (all_allowed_facts _ k.allowed).each ∙ k.size ∙ sym (pack_length os (all_allowed_facts os ok).each) ∙ ap length packed in
    rw u (record { objects = _; reads = unpack_pack _ k.allowed; long = long }))

-- a malformed store is refused, and stays as it is
pub malformed_refused : (c : List ℕ) (room : ℕ) (see : Seen) → verdict false c room see ≡ accepted → ⊥
malformed_refused c room see h =
    false≢true (sym (unfold unsound in (early_passed false c see.session (verdict_passed false c room see h).0).step_2))

pub step_malformed : (c room store : List ℕ) (s : Session) → unpack store ≡ none → (step c room store s).store ≡ store
unfolding unanswered declined
step_malformed c room store s u =
    step_by (λ a. a.store ≡ store) c room store s (λ l. refl) (λ l r e. refl) (λ l e. absurd (malformed_refused c (length room) _ (rw u at e)))

-- sound or not, the store is as long as it was
pub step_store_length : (c room store : List ℕ) (s : Session) → length (step c room store s).store ≡ length store
step_store_length c room store s =
    elim (unpack store) as (λ m. unpack store ≡ m → length (step c room store s).store ≡ length store)
    [ none ↦ λ u. ap length (step_malformed c room store s u) | some os ↦ λ u. (step_sound c room store os s u).long ] refl

-- the room ---------------------------------------------------------------------------------------------------------------

front_length : (response room : List ℕ) → length response ≤ length room → length (put_in_front response room) ≡ length room
unfolding put_in_front
front_length response room h = simp (length-append, length-drop) (omega arith)

-- a command keeps the room as long as it was
pub step_room_length : (c room store : List ℕ) (s : Session) → length (step c room store s).room ≡ length room
unfolding unanswered declined performed refused_response done_response
step_room_length c room store s =
    step_by (λ a. length a.room ≡ length room) c room store s (λ l. refl) (λ l r e. front_length refused_response room l)
    (λ l e. front_length (done_response (ruled c (unpack store) (flushed c s)).does.answer) room
    (omega (arith, answer_fits _ (length room) (verdict_passed (is_some (unpack store)) c (length room) _ e).1)))
