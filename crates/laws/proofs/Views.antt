-- What an action looks at and leaves: of the session it looks at the life cycles alone, of the store at its object and the counters that its
-- expression names; it changes the session only through the session's objects.
use Prim.Native.Nat.{ℕ}
use mathlib.Core.Bool.{Bool, true, false, not}
use mathlib.Core.List.{List}
use mathlib.Core.Option.{Option, none, some}
use mathlib.Core.Path.{◌≡◌, refl}
use lib.ListN.{length}
use Rattle.rules.specs.declared.Session.{Session}
use Rattle.rules.specs.declared.Action.{Action}
use Rattle.rules.specs.declared.Action.TheVariants.{GetData, GetMetadata, Write, EraseAndWrite, SetMetadata, Count, Append, Acknowledge}
use Rattle.rules.specs.declared.Refusal.TheVariants.{AccessDenied}
use Rattle.rules.specs.Object.{Object, in_session}
use Rattle.rules.specs.Chain.{◌refused◌or◌, ◌and_then◌}
use Rattle.rules.specs.Basic.{among}
use Rattle.rules.specs.Access.{Seen, expression_counters, asked, access}
use Rattle.rules.specs.Operation.{Operation, setting_session, operation}
use Rattle.rules.specs.Refusals.{unsound, unusable, early, Ruling, ruling_on, fitting, late}
use Rattle.laws.proofs.Named.{state_outside, not_error_object}
use Rattle.laws.proofs.Grants.{SameStates, grant_alike}

-- two that see the same life cycles -----------------------------------------------------------------------------------------

pub early_alike : (sound : Bool) (c : List ℕ) (s x : Session) → SameStates s x → early sound c s ≡ early sound c x
unfolding early unsound unusable
early_alike sound c s x v = rw (v.opened, v.lcsg, v.lcsa)

-- operations, seen through all but the session that they leave
pub record Alike (p q : Operation) : Type 0 where
  pub verdict : p.verdict ≡ q.verdict
  pub answer : p.answer ≡ q.answer
  pub stores : p.stores ≡ q.stores

pub operation_alike : (a : Action) (c : List ℕ) (o : Object) (see other : Seen) → Alike (operation a c o see) (operation a c o other)
unfolding operation
operation_alike GetData c o see other = search
operation_alike GetMetadata c o see other = search
operation_alike Write c o see other = search
operation_alike EraseAndWrite c o see other = search
operation_alike SetMetadata c o see other = search
operation_alike Count c o see other = search
operation_alike Append c o see other = search
operation_alike Acknowledge c o see other = search

-- rulings: what they say, what they do and what they use up
pub record RulingAlike (r q : Ruling) : Type 0 where
  pub verdict : r.verdict ≡ q.verdict
  pub does : Alike r.does q.does
  pub counters : r.counters ≡ q.counters

pub ruling_alike : (a : Action) (c : List ℕ) (m : Option Object) (see other : Seen) → SameStates see.session other.session →
    ((o : Object) → m ≡ some o → (n : ℕ) → among (expression_counters (asked a o)) n ≡ true → see.stored n ≡ other.stored n) →
    RulingAlike (ruling_on a c m see) (ruling_on a c m other)
unfolding ruling_on setting_session access
ruling_alike a c none see other v same = search
ruling_alike a c (some o) see other v same =
    let p = operation_alike a c o see other in
    let g = grant_alike see other v.lcsg v.lcsa o.lcso (asked a o) (same o refl) in
    record { verdict = λ i. not (g i).granted refused AccessDenied or p.verdict i; does = p; counters = λ i. (g i).counters }

pub late_alike : (r q : Ruling) (room : ℕ) → RulingAlike r q → late r room ≡ late q room
unfolding late
late_alike r q room a = λ i. a.verdict i and_then fitting (length (a.does.answer i)) room

-- what is left ------------------------------------------------------------------------------------------------------------------

-- an action on an object outside the session leaves the session
pub session_left : (a : Action) (c : List ℕ) (o : Object) (see : Seen) → in_session o.number ≡ false → (operation a c o see).session ≡ see.session
unfolding operation
session_left GetData c o see h = rw (not_error_object o.number h)
session_left GetMetadata c o see h = refl
session_left Write c o see h = state_outside o.number _ see.session h
session_left EraseAndWrite c o see h = state_outside o.number _ see.session h
session_left SetMetadata c o see h = refl
session_left Count c o see h = refl
session_left Append c o see h = refl
session_left Acknowledge c o see h = refl

pub ruling_left : (a : Action) (c : List ℕ) (m : Option Object) (see : Seen) → ((o : Object) → m ≡ some o → in_session o.number ≡ false) →
    (ruling_on a c m see).does.session ≡ see.session
unfolding ruling_on setting_session
ruling_left a c none see h = refl
ruling_left a c (some o) see h = session_left a c o see (h o refl)
