-- A command that sets no metadata leaves every condition as it is. So the counters that are named during a run of such commands are named before it.
use Prim.Native.Nat.{ℕ}
use mathlib.Core.Bool.{true, false, ◌&&◌, false≢true}
use mathlib.Core.List.{List, [], ◌∷◌, map}
use mathlib.Core.Logic.{inl, inr}
use mathlib.Core.Option.{Option, none, some, none-ne-some, some-injective}
use mathlib.Core.Path.{◌≡◌, refl, sym, ap, ◌∙◌}
use borrow.Author.Tests.{eqb-true}
use lib.Dec.{eqb}
use lib.ListN.{length}
use Rattle.mixing.specs.Runs.{All}
use Rattle.rules.specs.declared.Session.{Session}
use Rattle.rules.specs.declared.Kind.TheVariants.{Counter}
use Rattle.rules.specs.declared.Direction.TheVariants.{Up}
use Rattle.rules.specs.declared.Action.{Action}
use Rattle.rules.specs.declared.Action.TheVariants.{GetData, GetMetadata, Write, EraseAndWrite, SetMetadata, Count, Append, Acknowledge}
use Rattle.rules.specs.declared.Row.TheVariants.{OnObject}
use Rattle.rules.specs.Verdict.{accepted}
use Rattle.rules.specs.Basic.{among, or_else}
use Rattle.rules.specs.Command.{row, object_number}
use Rattle.rules.specs.Object.{Object, is, of_session, with_content}
use Rattle.rules.specs.Layout.{objects_allowed, pack, unpack, find}
use Rattle.rules.specs.Access.{Seen, seen, one_up, used_up}
use Rattle.rules.specs.Operation.{operation}
use Rattle.rules.specs.Refusals.{ruling_on, ruling, verdict}
use Rattle.rules.specs.Step.{declined, objects_after, performed, flushed, unanswered}
use Rattle.rules.specs.Run.{Turn, Kept, left}
use Rattle.demands.specs.Demand.{Plain, object_counters, ConditionOn, During, sets_metadata}
use Rattle.laws.proofs.Tests.{if_by}
use Rattle.laws.proofs.Inverse.{unpack_pack, pack_unpack}
use Rattle.laws.proofs.UsedUp.{in_place_of}
use Rattle.laws.proofs.Places.{found_stands}
use Rattle.laws.proofs.Verdicts.{verdict_passed}
use Rattle.laws.proofs.Keeps.{ruling_fits, ruling_kept, ruled, judgment, step_by, malformed_refused}
use Rattle.demands.proofs.Numbered.{found_changed}
use Rattle.demands.proofs.Cells.{own_change, object_after, after_number, objects_after_each}
use Rattle.demands.proofs.Plain.{aimed, ruling_at}

-- other data: the same conditions
operation_keeps : (a : Action) (c : List ℕ) (o : Object) (see : Seen) (new : Object) → sets_metadata (OnObject a) ≡ false →
    (operation a c o see).stores ≡ some new → object_counters new ≡ object_counters o
unfolding operation sets_metadata object_counters with_content
operation_keeps GetData c o see new h e = absurd (none-ne-some new e)
operation_keeps GetMetadata c o see new h e = absurd (none-ne-some new e)
operation_keeps Write c o see new h e =
    if_by (λ m. m ≡ some new → object_counters new ≡ object_counters o) (of_session o.kind) none (some (with_content _ o))
    (λ t e. absurd (none-ne-some new e)) (λ t e. ap object_counters (sym (some-injective _ _ e))) e
operation_keeps EraseAndWrite c o see new h e =
    if_by (λ m. m ≡ some new → object_counters new ≡ object_counters o) (of_session o.kind) none (some (with_content _ o))
    (λ t e. absurd (none-ne-some new e)) (λ t e. ap object_counters (sym (some-injective _ _ e))) e
operation_keeps SetMetadata c o see new h e = absurd (false≢true (sym h))
operation_keeps Count c o see new h e = ap object_counters (sym (some-injective _ _ e))
operation_keeps Append c o see new h e = ap object_counters (sym (some-injective _ _ e))
operation_keeps Acknowledge c o see new h e = ap object_counters (sym (some-injective _ _ e))

step_keeps : (ns : List ℕ) (o : Object) → object_counters (used_up ns o) ≡ object_counters o
unfolding used_up one_up object_counters with_content
step_keeps ns o =
    if_by (λ p. object_counters p ≡ object_counters o) (is (Counter Up) o.kind && among ns o.number) (one_up o) o (λ t. refl) (λ t. refl)

module _ (t : Turn) (plain : Plain t) (no_metadata : sets_metadata (row t.command) ≡ false) where
  abbrev c : List ℕ
  c = t.command

  abbrev n : ℕ
  n = object_number t.command

  abbrev room : ℕ
  room = length t.room

  -- an object after the command has the conditions that it had
  object_keeps : (os : List Object) (x : Session) → objects_allowed os ≡ true → verdict true c room (seen os x) ≡ accepted →
      (k : ℕ) (o : Object) → find k os ≡ some o → object_counters (object_after (ruling (row c) c (seen os x)) o) ≡ object_counters o
  unfolding object_after own_change in_place_of ruling_on seen
  object_keeps os x ok v k o found =
      let see = seen os x in
      let r = ruling (row c) c see in
      let e = (verdict_passed true c room see v).0 in
      let a = aimed t plain true x e in
      let own : (m : Option Object) → r.does.stores ≡ m → object_counters (own_change m o) ≡ object_counters o =
      λ m. elim m as (λ m. r.does.stores ≡ m → object_counters (own_change m o) ≡ object_counters o) [
        | none ↦ λ st. refl
        | some new ↦ λ st.
            if_by (λ p. object_counters p ≡ object_counters o) (eqb o.number new.number) new o
            (λ y.
            let f = ruling_fits c os x room ok v new st in
            let here : k ≡ n = sym (found_stands k os o found).number ∙ eqb-true o.number new.number y ∙ f.fits.number ∙ f.stands.number in
            let there : find n os ≡ some o = ap (λ j. find j os) (sym here) ∙ found in
            let by : (ruling_on a.gets_or_sets.action c (find n os) see).does.stores ≡ some new = rw (ruling_at t plain true x e see) at st in
            operation_keeps a.gets_or_sets.action c o see new (ap sets_metadata (sym a.gets_or_sets.is) ∙ no_metadata) (rw there at by))
            (λ y. refl)
      ] in
      step_keeps r.counters (own_change r.does.stores o) ∙ own r.does.stores refl

  module _ (xs : List Turn) (k : Kept) (m : ℕ) where
    abbrev Before : Type 0
    Before = ConditionOn xs k.store m

    accepted_keeps : (os : List Object) (x : Session) → unpack k.store ≡ some os → verdict true c room (seen os x) ≡ accepted →
        ConditionOn xs (pack (objects_after (ruling (row c) c (seen os x)) os)) m → Before
    accepted_keeps os x u v on =
        let r = ruling (row c) c (seen os x) in
        let ok = (pack_unpack k.store os u).1 in
        let kept = ruling_kept c os x room ok v in
        let objects : on.objects ≡ map (object_after r) os =
        some-injective _ _ (sym on.store_sound ∙ unpack_pack _ kept.allowed) ∙ objects_after_each r os in
        let (o, found, after) = found_changed (object_after r) (after_number r) on.number os on.object (rw objects at on.there) in
        let counters : object_counters on.object ≡ object_counters o = ap object_counters (sym after) ∙ object_keeps os x ok v on.number o found in
        record {
          objects = os;
          store_sound = u;
          number = on.number;
          list_names = on.list_names;
          object = o;
          there = found;
          condition_names = rw counters at on.condition_names;
        }

    -- a condition that an object has after the command it has before it
    condition_before : ConditionOn xs (left t k).store m → Before
    unfolding left unanswered declined performed
    condition_before =
        step_by (λ a. ConditionOn xs a.store m → Before) c t.room k.store k.session (λ l on. on) (λ l r e on. on)
        (λ l e.
        elim (unpack k.store) as (λ objects. unpack k.store ≡ objects → judgment c t.room objects (flushed c k.session) ≡ accepted →
        ConditionOn xs (performed (ruled c objects (flushed c k.session)) t.room (or_else objects [])).store m → Before) [
          | none ↦ λ u v. absurd (malformed_refused c room _ v)
          | some os ↦ λ u v. accepted_keeps os (flushed c k.session) u v
        ] refl e)

-- so, of a list that sets no metadata, the counters named during its run are named before it
pub during_before : (xs ts : List Turn) (k : Kept) (n : ℕ) → All Plain ts → All (λ t. sets_metadata (row t.command) ≡ false) ts →
    During xs ts k n → ConditionOn xs k.store n
during_before xs [] k n plain no_metadata h = h
during_before xs (t ∷ ts) k n plain no_metadata (inl h) = h
during_before xs (t ∷ ts) k n plain no_metadata (inr h) =
    condition_before t plain.0 no_metadata.0 xs k n (during_before xs ts (left t k) n plain.1 no_metadata.1 h)
