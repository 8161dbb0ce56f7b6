-- A command as demand 3 takes it looks at no object but the one that it names and the counters that the conditions of that object name, and stores
-- no other: it is local.
use Prim.Native.Nat.{ℕ, ◌≤◌}
use mathlib.Core.Bool.{Bool, true, false, false≢true}
use mathlib.Core.List.{List, [], ◌∷◌, ◌++◌}
use mathlib.Core.Logic.{◌⊎◌, inl, inr}
use mathlib.Core.Option.{Option, none, some}
use mathlib.Core.Path.{◌≡◌, refl, sym, ◌∙◌}
use native.Mathlib.Omega.{arith}
use borrow.Author.Tests.{eqb-true, le-leb}
use lib.Dec.{eqb}
use lib.ListN.{length}
use Rattle.mixing.specs.Cells.{Put, puts}
use Rattle.mixing.proofs.Frame.{Local, AllAt}
use Rattle.rules.specs.declared.Session.{Session}
use Rattle.rules.specs.declared.Kind.TheVariants.{Queue}
use Rattle.rules.specs.declared.Action.{Action}
use Rattle.rules.specs.declared.Action.TheVariants.{GetData, GetMetadata, Write, EraseAndWrite, SetMetadata, Count, Append, Acknowledge}
use Rattle.rules.specs.Verdict.{Verdict, accepted}
use Rattle.std.specs.Prelude.{Ok, Err, if◌then◌else◌}
use Rattle.rules.specs.Basic.{among}
use Rattle.rules.specs.Command.{row, object_number, object_of}
use Rattle.rules.specs.Expression.{Expression, always, never}
use Rattle.rules.specs.Object.{Object, in_session, of_session, is}
use Rattle.rules.specs.Layout.{objects_allowed, pack, unpack, find}
use Rattle.rules.specs.Chain.{◌and_then◌}
use Rattle.rules.specs.Access.{Seen, seen, expression_counters, asked, access}
use Rattle.rules.specs.Refusals.{unknown_param, early, Ruling, ruling_on, ruling, late, verdict}
use Rattle.rules.specs.Step.{objects_after}
use Rattle.rules.specs.Run.{Turn, reads_or_writes}
use Rattle.demands.specs.Demand.{Plain, object_counters}
use Rattle.laws.proofs.Tests.{if_by, by_test}
use Rattle.laws.proofs.Facts.{all_allowed_facts}
use Rattle.laws.proofs.Inverse.{unpack_pack, pack_unpack}
use Rattle.laws.proofs.Verdicts.{early_passed, verdict_passed}
use Rattle.laws.proofs.Rows.{Acts, acts, on_object, in_full}
use Rattle.laws.proofs.Named.{named_in_store}
use Rattle.laws.proofs.Grants.{among_left, among_right, grant_uses, SameStates, same_states}
use Rattle.laws.proofs.Keeps.{ruling_fits, ruling_kept}
use Rattle.laws.proofs.Views.{early_alike, RulingAlike, ruling_alike, late_alike}
use Rattle.demands.proofs.Numbered.{put, changes, changes_at, changes_alike, all_changed}
use Rattle.demands.proofs.Cells.{object_after, ruled, view, ruled_at, small, rules_machine, Foot, after_number, after_others, objects_after_each}

-- what an action asks of an object names no counter that the conditions of the object do not name
module _ (o : Object) (k : ℕ) where
  abbrev Named : Expression → Type 0
  Named e = among (expression_counters e) k ≡ true → among (object_counters o) k ≡ true

  nothing_named : (e : Expression) → expression_counters e ≡ [] → Named e
  unfolding among
  nothing_named e empty h = absurd (false≢true (rw empty at h))

  change_or_read : among (expression_counters o.change ++ expression_counters o.read) k ≡ true → among (object_counters o) k ≡ true
  unfolding object_counters
  change_or_read h = among_left (expression_counters o.change ++ expression_counters o.read) (expression_counters o.execute) k h

  change_named : Named o.change
  change_named h = change_or_read (among_left (expression_counters o.change) (expression_counters o.read) k h)

  read_named : Named o.read
  read_named h = change_or_read (among_right (expression_counters o.change) (expression_counters o.read) k h)

  never_or_change : (t : Bool) → Named (if t then never else o.change)
  unfolding expression_counters
  never_or_change t = if_by Named t never o.change (λ e. nothing_named never refl) (λ e. change_named)

  asked_named : (a : Action) → Named (asked a o)
  unfolding asked expression_counters
  asked_named GetData = read_named
  asked_named GetMetadata = if_by Named (of_session o.kind) never always (λ t. nothing_named never refl) (λ t. nothing_named always refl)
  asked_named Write = never_or_change (is Queue o.kind)
  asked_named EraseAndWrite = never_or_change (is Queue o.kind)
  asked_named SetMetadata = never_or_change (of_session o.kind)
  asked_named Count = change_named
  asked_named Append = change_named
  asked_named Acknowledge = change_named

-- the counters that a ruling uses up are named there
ruling_uses : (a : Action) (c : List ℕ) (m : Option Object) (see : Seen) (k : ℕ) → among (ruling_on a c m see).counters k ≡ true →
    (o : Object) × (m ≡ some o) × (among (object_counters o) k ≡ true)
unfolding ruling_on access among
ruling_uses a c none see k h = absurd (false≢true h)
ruling_uses a c (some o) see k h = (o, refl, asked_named o k a (grant_uses see o.lcso k (asked a o) h).0)

-- rulings that are alike, and find the same under the numbers that they store, come to the same
ruled_alike : (t : Turn) (n room : ℕ) (r q : Ruling) (f g : ℕ → Option Object) → RulingAlike r q →
    ((k : ℕ) → among (n ∷ r.counters) k ≡ true → f k ≡ g k) → ruled (late r room) t n r f ≡ ruled (late q room) t n q g
unfolding ruled object_after
ruled_alike t n room r q f g a same =
    rw (late_alike r q room a)
    (elim (late q room) as (λ v. ruled v t n r f ≡ ruled v t n q g)
    [ Err x ↦ refl | Ok _ ↦ rw (changes_alike (object_after r) (n ∷ r.counters) f g same, a.does.answer, a.does.stores, a.counters) ])

module _ (t : Turn) (plain : Plain t) where
  abbrev c : List ℕ
  c = t.command

  abbrev n : ℕ
  n = object_number t.command

  abbrev room : ℕ
  room = length t.room

  -- one that the steps 2 to 8 accept -------------------------------------------------------------------------------------------

  -- it gets or sets, and names an object that is not the session's
  pub record Aimed : Type 0 where
    pub gets_or_sets : Acts c
    pub names : object_of c ≡ some n
    pub outside_session : in_session n ≡ false

  pub aimed : (sound : Bool) (s : Session) → early sound c s ≡ accepted → Aimed
  unfolding reads_or_writes unknown_param object_of
  aimed sound s h =
      let a = acts c plain.is_read_or_write (early_passed sound c s h).step_6 in
      let l : 6 ≤ length c = omega (arith, (on_object c a.action a.is).takes_object, in_full sound c s h) in
      let names : object_of c ≡ some n = rw (le-leb 6 (length c) l) in
      record { gets_or_sets = a; names = names; outside_session = plain.outside_session n names }

  -- its ruling, by the object that it names
  pub ruling_at : (sound : Bool) (s : Session) (e : early sound c s ≡ accepted) (see : Seen) →
      ruling (row c) c see ≡ ruling_on (aimed sound s e).gets_or_sets.action c (see.stored n) see
  unfolding ruling
  ruling_at sound s e see = let a = aimed sound s e in rw (a.gets_or_sets.is, named_in_store n see a.outside_session)

  -- the numbers that it stores are of its footprint
  in_foot : (sound : Bool) (s : Session) (e : early sound c s ≡ accepted) (see : Seen) (k : ℕ) →
      among (n ∷ (ruling_on (aimed sound s e).gets_or_sets.action c (see.stored n) see).counters) k ≡ true → Foot t see.stored k
  unfolding among
  in_foot sound s e see k h =
      let a = aimed sound s e in
      record {
        number = n;
        names = a.names;
        which =
            by_test (eqb k n) (λ y. inl (eqb-true k n y)) (λ y. inr (ruling_uses a.gets_or_sets.action c (see.stored n) see k (rw y at h)));
      }

  -- two views with the same life cycles, and with the same objects under the numbers of its footprint, are ruled alike
  pub ruled_same : (small sound : Bool) (see other : Seen) → SameStates see.session other.session →
      ((k : ℕ) → Foot t see.stored k → see.stored k ≡ other.stored k) → ruled_at small t sound see ≡ ruled_at small t sound other
  unfolding ruled_at verdict ◌and_then◌
  ruled_same true sound see other v same = refl
  ruled_same false sound see other v same = rw (early_alike sound c see.session other.session v) (by (early sound c other.session) refl)
    where
      by : (w : Verdict) → early sound c other.session ≡ w →
          ruled (w and_then late (ruling (row c) c see) room) t n (ruling (row c) c see) see.stored ≡
          ruled (w and_then late (ruling (row c) c other) room) t n (ruling (row c) c other) other.stored
      by (Err r) e = unfold ruled in refl
      by (Ok _) e =
          let at = ruling_at sound other.session e in
          let a = aimed sound other.session e in
          let act = a.gets_or_sets.action in
          let own : see.stored n ≡ other.stored n = same n (record { number = n; names = a.names; which = inl refl }) in
          let named : (o : Object) → see.stored n ≡ some o → (k : ℕ) → among (expression_counters (asked act o)) k ≡ true → see.stored k ≡ other.stored k =
          λ o f k h. same k (record { number = n; names = a.names; which = inr (o, f, asked_named o k act h) }) in
          let alike = ruling_alike act c (see.stored n) see other v named in
          rw (at see, at other, ← own)
          (ruled_alike t n room _ _ see.stored other.stored alike (λ k h. same k (in_foot sound other.session e see k h)))

  -- what is stored --------------------------------------------------------------------------------------------------------------

  -- what holds of no stores, and of those of an accepted command, holds of the stores
  stores_by : (P : List (Put ℕ Object) → Type 0) (see : Seen) → P [] →
      (let r = ruling (row c) c see in verdict true c room see ≡ accepted → P (changes (object_after r) (n ∷ r.counters) see.stored)) →
      P (ruled_at (small t) t true see).stores
  unfolding ruled_at ruled
  stores_by P see nothing Some_Stored =
      elim (small t) as (λ b. P (ruled_at b t true see).stores) [
        | true ↦ nothing
        | false ↦
            elim (verdict true c room see) as (λ v. verdict true c room see ≡ v → P (ruled v t n (ruling (row c) c see) see.stored).stores)
            [ Err r ↦ λ e. nothing | Ok _ ↦ Some_Stored ] refl
      ]

  -- with what is stored, the objects are those after the command
  pub stored_is : (os : List Object) (x : Session) → objects_allowed os ≡ true → verdict true c room (seen os x) ≡ accepted →
      let r = ruling (row c) c (seen os x) in
      puts put (changes (object_after r) (n ∷ r.counters) (λ k. find k os)) os ≡ objects_after r os
  stored_is os x ok v =
      let r = ruling (row c) c (seen os x) in
      let number : (new : Object) → r.does.stores ≡ some new → new.number ≡ n =
      λ new st. let f = ruling_fits c os x room ok v new st in f.fits.number ∙ f.stands.number in
      all_changed (object_after r) (after_number r) (n ∷ r.counters) (after_others n r number) os (all_allowed_facts os ok).rises ∙
      sym (objects_after_each r os)

  -- the footprint depends on the object named alone
  foot_stable : (f g : ℕ → Option Object) → ((k : ℕ) → Foot t f k → f k ≡ g k) → (k : ℕ) → Foot t g k → Foot t f k
  foot_stable f g h k p = record { number = p.number; names = p.names; which = go p.which }
    where
      own : f p.number ≡ g p.number
      own = h p.number (record { number = p.number; names = p.names; which = inl refl })

      go : (k ≡ p.number) ⊎ ((o : Object) × (g p.number ≡ some o) × (among (object_counters o) k ≡ true)) →
          (k ≡ p.number) ⊎ ((o : Object) × (f p.number ≡ some o) × (among (object_counters o) k ≡ true))
      go (inl e) = inl e
      go (inr w) = inr (w.0, own ∙ w.1, w.2)

  pub local : Local rules_machine Foot t
  unfolding rules_machine
  local =
      record {
        reads = λ x f g h. ruled_same (small t) true (view x f) (view x g) (same_states x) h;
        stable = foot_stable;
        writes = λ x f.
            stores_by (AllAt (Foot t f)) (view x f) tt
            (λ v.
            let e = (verdict_passed true c room (view x f) v).0 in
            changes_at (Foot t f) _ _ f (λ k h. in_foot true x e (view x f) k (rw (ruling_at true x e (view x f)) at h)));
        sound = λ x b os u.
            let ok = (pack_unpack b os u).1 in
            unfold seen in
            stores_by (λ ps. unpack (pack (puts put ps os)) ≡ some (puts put ps os)) (seen os x) (unpack_pack os ok)
            (λ v. rw (stored_is os x ok v) (unpack_pack _ (ruling_kept c os x room ok v).allowed));
      }
