-- The objects after counters were used up: each object is found at its number as before, a used-up counter one up, every other as it was.
use Prim.Native.Nat.{ℕ}
use mathlib.Core.Bool.{Bool, true, false, ◌&&◌, false≢true, and-false}
use mathlib.Core.List.{List, [], ◌∷◌, map}
use mathlib.Core.Option
use mathlib.Core.Option.{Option, none, some}
use mathlib.Core.Path.{◌≡◌, refl, sym, ap, ◌∙◌}
use borrow.Author.Tests.{eqb-true, eq-eqb}
use lib.Dec.{eqb}
use Rattle.rules.specs.declared.Kind.TheVariants.{Counter}
use Rattle.rules.specs.declared.Direction.TheVariants.{Up}
use Rattle.std.specs.Prelude.{if◌then◌else◌}
use Rattle.rules.specs.Basic.{among}
use Rattle.rules.specs.Expression.{Expression}
use Rattle.rules.specs.Object.{Object, is, with_content}
use Rattle.rules.specs.Layout.{find, replaced}
use Rattle.rules.specs.Access.{Seen, usable, expression_counters, grant, one_up, used_up, all_used_up}
use Rattle.laws.proofs.Tests.{if_by, and_left}
use Rattle.laws.proofs.Places.{found_stands}
use Rattle.laws.proofs.Grants.{grant_uses}

-- finding among changed objects ------------------------------------------------------------------------------------------

-- where each object keeps its number, it is found as before, and changed
pub find_map : (f : Object → Object) → ((o : Object) → (f o).number ≡ o.number) → (n : ℕ) (os : List Object) →
    find n (map f os) ≡ Option.map f (find n os)
unfolding find
find_map f keeps n [] = refl
find_map f keeps n (o ∷ os) = (λ i. if eqb n (keeps o i) then some (f o) else find_map f keeps n os i) ∙ by (eqb n o.number)
  where
    by : (t : Bool) → (if t then some (f o) else Option.map f (find n os)) ≡ Option.map f (if t then some o else find n os)
    by true = refl
    by false = refl

-- the object that stands where p stood, after the one of its number was replaced by new
unfoldable pub in_place_of : Object → Object → Object
in_place_of new p = if eqb p.number new.number then new else p

pub in_place_number : (new p : Object) → (in_place_of new p).number ≡ p.number
unfolding in_place_of
in_place_number new p = if_by (λ q. q.number ≡ p.number) (eqb p.number new.number) new p (λ t. sym (eqb-true _ _ t)) (λ t. refl)

pub find_replaced : (new : Object) (n : ℕ) (os : List Object) → find n (replaced new os) ≡ Option.map (in_place_of new) (find n os)
unfolding replaced in_place_of
find_replaced new = find_map (in_place_of new) (in_place_number new)

-- by one of its kind: each is found as before, and of its kind
pub found_replaced : (o new : Object) (os : List Object) → find new.number os ≡ some o → new.kind ≡ o.kind →
    (n : ℕ) (p : Object) → find n os ≡ some p → (q : Object) × (find n (replaced new os) ≡ some q) × (q.kind ≡ p.kind)
unfolding in_place_of
found_replaced o new os there kind n p finds = (
  in_place_of new p,
  (find_replaced new n os ∙ ap (Option.map (in_place_of new)) finds),
  if_by (λ q. q.kind ≡ p.kind) (eqb p.number new.number) new p
      (λ t.
      let number = sym (found_stands n os p finds).number ∙ eqb-true p.number new.number t in
      let same : o ≡ p = let h = sym there ∙ ap (λ k. find k os) (sym number) ∙ finds in cc in
      kind ∙ ap (λ (x : Object). x.kind) same)
      (λ t. refl),
)

-- counters used up -------------------------------------------------------------------------------------------------------

module _ (ns : List ℕ) where
  pub used_up_number : (o : Object) → (used_up ns o).number ≡ o.number
  unfolding used_up one_up with_content
  used_up_number o = if_by (λ p. p.number ≡ o.number) (is (Counter Up) o.kind && among ns o.number) (one_up o) o (λ t. refl) (λ t. refl)

  pub used_up_kind : (o : Object) → (used_up ns o).kind ≡ o.kind
  unfolding used_up one_up with_content
  used_up_kind o = if_by (λ p. p.kind ≡ o.kind) (is (Counter Up) o.kind && among ns o.number) (one_up o) o (λ t. refl) (λ t. refl)

  pub find_used_up : (n : ℕ) (os : List Object) → find n (all_used_up ns os) ≡ Option.map (used_up ns) (find n os)
  unfolding all_used_up
  find_used_up = find_map (used_up ns) used_up_number

  -- an up counter among them goes up by one
  pub one_used : (o : Object) → is (Counter Up) o.kind ≡ true → among ns o.number ≡ true → used_up ns o ≡ one_up o
  unfolding used_up
  one_used o up h = rw (up, h)

  pub found_used_up : (n : ℕ) (os : List Object) (o : Object) → find n os ≡ some o → is (Counter Up) o.kind ≡ true → among ns n ≡ true →
      find n (all_used_up ns os) ≡ some (one_up o)
  found_used_up n os o finds up h =
      find_used_up n os ∙ ap (Option.map (used_up ns)) finds ∙ ap some (one_used o up (ap (among ns) (found_stands n os o finds).number ∙ h))

  -- an object that is none of them is as it was
  pub not_used : (o : Object) → among ns o.number ≡ false → used_up ns o ≡ o
  unfolding used_up
  not_used o h = rw (h, and-false (is (Counter Up) o.kind))

  pub found_not_used : (n : ℕ) (os : List Object) → among ns n ≡ false → find n (all_used_up ns os) ≡ find n os
  found_not_used n os h =
      find_used_up n os ∙
      elim (find n os) as (λ m. find n os ≡ m → Option.map (used_up ns) m ≡ m)
      [ none ↦ λ e. refl | some o ↦ λ e. ap some (not_used o (ap (among ns) (found_stands n os o e).number ∙ h)) ] refl

-- where none is used up, nothing changes
pub none_used_up : (os : List Object) → all_used_up [] os ≡ os
unfolding all_used_up among
none_used_up [] = refl
none_used_up (o ∷ os) = λ i. not_used [] o refl i ∷ none_used_up os i

-- what a grant uses up ---------------------------------------------------------------------------------------------------

-- what can be used is there, an up counter
pub usable_counter : (m : Option Object) → usable m ≡ true → (o : Object) × (m ≡ some o) × (is (Counter Up) o.kind ≡ true)
unfolding usable
usable_counter none h = absurd (false≢true h)
usable_counter (some o) h = (o, refl, and_left (is (Counter Up) o.kind) _ h)

-- so is each counter that a grant uses up
pub grant_counter : (see : Seen) (lcso : ℕ) (e : Expression) (n : ℕ) → among (grant see lcso e).counters n ≡ true →
    (o : Object) × (see.stored n ≡ some o) × (is (Counter Up) o.kind ≡ true)
grant_counter see lcso e n h = usable_counter (see.stored n) (grant_uses see lcso n e h).1

-- an expression that names no counter uses up none
pub grant_uses_none : (see : Seen) (lcso : ℕ) (e : Expression) → expression_counters e ≡ [] → (grant see lcso e).counters ≡ []
unfolding among
grant_uses_none see lcso e h =
    empty (grant see lcso e).counters (λ n k. absurd (false≢true (sym (ap (λ ns. among ns n) h) ∙ (grant_uses see lcso n e k).0)))
  where
    empty : (ns : List ℕ) → ((n : ℕ) → among ns n ≡ true → ⊥) → ns ≡ []
    empty [] without = refl
    empty (n ∷ ns) without = absurd (without n (rw (eq-eqb n n refl)))
