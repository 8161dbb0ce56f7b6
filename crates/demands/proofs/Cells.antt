-- The rules as a machine of cells, the objects under their numbers: what the theory of mixes speaks of.
use Prim.Native.Nat.{ℕ, max}
use mathlib.Core.Bool.{Bool, true, false}
use mathlib.Core.List.{List, [], ◌∷◌, map}
use mathlib.Core.Logic.{◌⊎◌}
use mathlib.Core.Option.{Option, none, some}
use mathlib.Core.Path.{◌≡◌, refl, ap, ◌∙◌}
use native.Mathlib.Omega.{arith}
use lib.Dec.{eqb, ltb}
use lib.ListN.{length}
use Rattle.mixing.specs.Cells.{Ruling, Machine}
use Rattle.mixing.proofs.Frame.{Lawful}
use Rattle.rules.specs.declared.Session.{Session}
use Rattle.rules.specs.Verdict.{Verdict, accepted}
use Rattle.std.specs.Prelude.{Ok, Err}
use Rattle.rules.specs.Basic.{among}
use Rattle.rules.specs.Command.{row, object_number, object_of}
use Rattle.rules.specs.Response.{code, done_response, refused_response, put_in_front}
use Rattle.rules.specs.Object.{Object}
use Rattle.rules.specs.Layout.{pack, unpack, find, replaced}
use Rattle.rules.specs.Session.{with_error}
use Rattle.rules.specs.Access.{Seen, used_up, all_used_up}
use Rattle.rules.specs.Refusals as refusals
use Rattle.rules.specs.Step.{raised, replacing, objects_after}
use Rattle.rules.specs.Run.{Turn, Reply}
use Rattle.demands.specs.Demand.{object_counters}
use Rattle.laws.proofs.Tests.{or_parts}
use Rattle.laws.proofs.Inverse.{pack_unpack}
use Rattle.laws.proofs.UsedUp.{in_place_of, in_place_number, used_up_number, not_used}
use Rattle.demands.proofs.Numbered.{put, put_other, puts_swap, changes}

unfoldable pub response : List ℕ → Turn → Reply
response b t = record { outcome = 0; room = put_in_front b t.room }

-- one object after a command: its own change, in the place of the object that has the number of what is stored; then its step where it is used up
unfoldable pub own_change : Option Object → Object → Object
own_change none o = o
own_change (some new) o = in_place_of new o

unfoldable pub object_after : refusals.Ruling → Object → Object
object_after r o = used_up r.counters (own_change r.does.stores o)

-- what comes of a verdict; n: the object named. Under its number and those of the counters used up, what f finds there is put back changed
unfoldable pub ruled : Verdict → Turn → ℕ → refusals.Ruling → (ℕ → Option Object) → Ruling ℕ Object Reply
ruled (Err x) t n r f = record { told = response refused_response t; code = code x; stores = [] }
ruled (Ok _) t n r f =
    record { told = response (done_response r.does.answer) t; code = 0; stores = changes (object_after r) (n ∷ r.counters) f }

abbrev pub view : Session → (ℕ → Option Object) → Seen
view x f = record { session = x; stored = f }

-- step 1, then the verdict, by what is seen, where the store is sound or not
unfoldable pub ruled_at : Bool → Turn → Bool → Seen → Ruling ℕ Object Reply
ruled_at true t sound see = record { told = record { outcome = 1; room = t.room }; code = 0; stores = [] }
ruled_at false t sound see =
    let c = t.command in
    ruled (refusals.verdict sound c (length t.room) see) t (object_number c) (refusals.ruling (row c) c see) see.stored

abbrev pub small : Turn → Bool
small t = ltb (length t.room) 4

unfoldable pub rules_machine : Machine ℕ Object (List Object) (List ℕ) Session Session Turn Reply
rules_machine =
    record {
      find = find;
      put = put;
      unpack = unpack;
      pack = pack;
      view = with_error 0;
      raise = raised;
      bad = λ t x. ruled_at (small t) t false (view x (λ n. none));
      judge = λ t x f. ruled_at (small t) t true (view x f);
    }

pub lawful : Lawful rules_machine
unfolding rules_machine raised with_error
lawful =
    record {
      find_other = put_other;
      put_comm = puts_swap;
      pack_unpack = λ b os u. (pack_unpack b os u).0;
      view_raise = λ n s. refl;
      raise_comm = λ n k s. let e : max (max s.error k) n ≡ max (max s.error n) k = omega arith in rw e;
    }

-- a command's footprint is the object that it names, and the counters that the conditions of that object name
pub record Foot (t : Turn) (f : ℕ → Option Object) (k : ℕ) : Type 0 where
  pub number : ℕ
  pub names : object_of t.command ≡ some number
  pub which : (k ≡ number) ⊎ ((o : Object) × (f number ≡ some o) × (among (object_counters o) k ≡ true))

-- all objects after a command ----------------------------------------------------------------------------------------------

pub after_number : (r : refusals.Ruling) (o : Object) → (object_after r o).number ≡ o.number
unfolding object_after own_change
after_number r o = used_up_number r.counters _ ∙ own r.does.stores
  where
    own : (m : Option Object) → (own_change m o).number ≡ o.number
    own none = refl
    own (some new) = in_place_number new o

-- an object that is neither the one stored nor a counter used up stays
pub after_others : (n : ℕ) (r : refusals.Ruling) → ((new : Object) → r.does.stores ≡ some new → new.number ≡ n) →
    (o : Object) → among (n ∷ r.counters) o.number ≡ false → object_after r o ≡ o
unfolding object_after own_change in_place_of among
after_others n r stored o h =
    let (other, unused) = or_parts (eqb o.number n) _ h in
    let own : own_change r.does.stores o ≡ o =
    elim r.does.stores as (λ m. r.does.stores ≡ m → own_change m o ≡ o)
    [ none ↦ λ e. refl | some new ↦ λ e. rw (stored new e, other) ] refl in
    rw own (not_used r.counters o unused)

map_twice : {A B C : Type 0} (f : B → C) (g : A → B) (xs : List A) → map f (map g xs) ≡ map (λ x. f (g x)) xs
map_twice f g [] = refl
map_twice f g (x ∷ xs) = ap (λ l. f (g x) ∷ l) (map_twice f g xs)

-- what a command makes of all objects it makes of each
pub objects_after_each : (r : refusals.Ruling) (os : List Object) → objects_after r os ≡ map (object_after r) os
unfolding objects_after all_used_up replacing replaced object_after own_change in_place_of
objects_after_each r os =
    elim r.does.stores as (λ m. map (used_up r.counters) (replacing m os) ≡ map (λ o. used_up r.counters (own_change m o)) os)
    [ none ↦ refl | some new ↦ map_twice (used_up r.counters) (own_change (some new)) os ]
