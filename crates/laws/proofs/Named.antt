-- The object that a command names, of the session or of the store.
use Prim.Native.Nat.{ℕ}
use mathlib.Core.Bool.{true, false, false≢true}
use mathlib.Core.List.{List, [], ◌∷◌, ◌++◌}
use mathlib.Core.Option.{none, some}
use mathlib.Core.Path.{◌≡◌, refl, sym, ap, ◌∙◌}
use native.Mathlib.Omega.{arith}
use lib.Dec.{eqb}
use Rattle.mixing.specs.Runs.{All}
use Rattle.rules.specs.declared.Session.{Session}
use Rattle.rules.specs.Basic.{among, first_of}
use Rattle.rules.specs.Object.{Object, in_session, of_session, is, kind_number, object_allowed, all_allowed_with, all_allowed}
use Rattle.rules.specs.Layout.{objects_allowed, find}
use Rattle.rules.specs.Session.{with_state, session_object, session_objects}
use Rattle.rules.specs.Access.{Seen, named}
use Rattle.laws.proofs.Tests.{if_by, and_left, and_right, or_parts, or_left, or_right}
use Rattle.laws.proofs.Facts.{Storable, storable, numbers, Allowed, allowed, all_allowed_facts}
use Rattle.laws.proofs.Places.{Stands, found_stands}

-- the session's objects --------------------------------------------------------------------------------------------------

-- what holds of every object holds of the one found
pub every_found : (P : Object → Type 0) (n : ℕ) (os : List Object) (o : Object) → All P os → find n os ≡ some o → P o
unfolding find
every_found P n [] o each e = let z : ◌≡◌ {A = ℕ} 0 1 = cc in absurd (omega arith)
every_found P n (p ∷ os) o each e =
    if_by (λ m. m ≡ some o → P o) (eqb n p.number) (some p) (find n os)
    (λ t e. let q : p ≡ o = cc in rw q at each.0) (λ t. every_found P n os o each.1) e

-- a number that none of them has is not found
pub absent : (n : ℕ) (os : List Object) → among (numbers os) n ≡ false → find n os ≡ none
unfolding find among numbers
absent n [] h = refl
absent n (p ∷ os) h = let (here, later) = or_parts (eqb n p.number) _ h in rw here (absent n os later)

-- a number outside the session names an object of the store
pub named_in_store : (n : ℕ) (see : Seen) → in_session n ≡ false → named n see ≡ see.stored n
unfolding named in_session numbers session_objects session_object
named_in_store n see h = rw (absent n (session_objects see.session) h)

-- an object that is not of the session's kinds was found in the store
pub in_store : (n : ℕ) (see : Seen) (o : Object) → of_session o.kind ≡ false → named n see ≡ some o → see.stored n ≡ some o
unfolding named session_objects session_object of_session is kind_number
in_store n see o k =
    let of = session_objects see.session in
    elim (find n of) as (λ m. find n of ≡ m → first_of m (see.stored n) ≡ some o → see.stored n ≡ some o) [
      | none ↦ λ e h. h
      | some p ↦ λ e h.
          let q : p ≡ o = cc in
          absurd (false≢true (sym k ∙ every_found (λ x. of_session x.kind ≡ true) n of o (refl, (refl, (refl, tt))) (e ∙ ap some q)))
    ] refl

-- a number outside the session is none of its three
outside : (n : ℕ) → in_session n ≡ false → (eqb n 0xE0C0 ≡ false) × (eqb n 0xF1C0 ≡ false) × (eqb n 0xF1C2 ≡ false)
unfolding in_session among
outside n h = (search or_left, search (or_left, or_right), search (or_left, or_right))

-- writing to an object outside the session leaves the session
pub state_outside : (n state : ℕ) (s : Session) → in_session n ≡ false → with_state n state s ≡ s
unfolding with_state
state_outside n state s h = let o = outside n h in rw (o.0, o.1)

pub not_error_object : (n : ℕ) → in_session n ≡ false → eqb n 0xF1C2 ≡ false
not_error_object n h = (outside n h).2

-- stored objects -------------------------------------------------------------------------------------------------------------

-- an object found among allowed ones is allowed
pub middle_allowed : (before : List Object) (o : Object) (after : List Object) → all_allowed (before ++ o ∷ after) ≡ true → object_allowed o ≡ true
unfolding all_allowed_with
middle_allowed [] o after h = and_left (object_allowed o) (all_allowed after) h
middle_allowed (p ∷ before) o after h = middle_allowed before o after (and_right (object_allowed p) (all_allowed (before ++ o ∷ after)) h)

-- what is known of an object that was found in a store
pub record FoundThere (n : ℕ) (os : List Object) (o : Object) : Type 0 where
  pub stands : Stands n os o
  pub object_ok : object_allowed o ≡ true
  pub facts : Allowed o
  pub outside_session : in_session n ≡ false
  pub storable : Storable o.kind

pub found_there : (n : ℕ) (os : List Object) (o : Object) → objects_allowed os ≡ true → find n os ≡ some o → FoundThere n os o
found_there n os o h e =
    let st = found_stands n os o e in
    let ok = middle_allowed st.before o st.after (rw st.split at (all_allowed_facts os h).each) in
    let a = allowed o ok in
    let outside_session : in_session n ≡ false = rw st.number at a.outside_session in
    let storable = storable o.kind o.maximum o.content a.content in
    search
