-- Counters used up one after the other, each once; and one counter alone.
use Prim.Native.Nat.{ℕ}
use mathlib.Core.Bool.{Bool, true, false, ◌&&◌, ◌||◌, false≢true, or-false}
use mathlib.Core.List.{List, [], ◌∷◌, ◌++◌, map}
use mathlib.Core.Option.{none, some}
use mathlib.Core.Path.{◌≡◌, refl, sym, ap, ◌∙◌}
use native.Mathlib.Omega.{arith}
use borrow.Author.Tests.{eqb-true, eq-eqb, ne_eqb}
use lib.Dec.{eqb}
use Rattle.rules.specs.declared.Kind.TheVariants.{Counter}
use Rattle.rules.specs.declared.Direction.TheVariants.{Up}
use Rattle.std.specs.Prelude.{if◌then◌else◌}
use Rattle.rules.specs.Basic.{among}
use Rattle.rules.specs.Object.{Object, is}
use Rattle.rules.specs.Layout.{objects_allowed, pack, unpack, find, replaced}
use Rattle.rules.specs.Access.{one_up, used_up, all_used_up}
use Rattle.laws.proofs.Tests.{by_test}
use Rattle.laws.proofs.Inverse.{unpack_pack}
use Rattle.laws.proofs.Places.{found_stands, replaced_itself}
use Rattle.laws.proofs.Grants.{among_append}
use Rattle.laws.proofs.Fitting.{used_up_fits}
use Rattle.laws.proofs.UsedUp.{used_up_number, used_up_kind, one_used, not_used}
use Rattle.laws.proofs.Keeps.{each_fits}

-- a store in which counters are used up is sound
pub used_up_packed : (ns : List ℕ) (os : List Object) → objects_allowed os ≡ true → unpack (pack (all_used_up ns os)) ≡ some (all_used_up ns os)
unfolding all_used_up
used_up_packed ns os h = unpack_pack (map (used_up ns) os) (each_fits (used_up ns) (used_up_fits ns) os h).allowed

-- one object --------------------------------------------------------------------------------------------------------------

module _ (ns : List ℕ) (o : Object) where
  -- by its kind (u: a counter up) and its number (a: one of ns)
  used_up_by : (u a : Bool) → is (Counter Up) o.kind ≡ u → among ns o.number ≡ a → used_up ns o ≡ (if u && a then one_up o else o)
  unfolding used_up
  used_up_by u a eu ea = rw (eu, ea)

  -- no counter up
  pub no_counter_kept : is (Counter Up) o.kind ≡ false → used_up ns o ≡ o
  no_counter_kept h = used_up_by false (among ns o.number) h refl

-- another number than this one
other_kept : (n : ℕ) (o : Object) → (o.number ≡ n → ⊥) → used_up (n ∷ []) o ≡ o
unfolding among
other_kept n o h = not_used (n ∷ []) o (rw (ne_eqb o.number n h))

-- all objects -------------------------------------------------------------------------------------------------------------

-- a number that none of them has
pub absent_kept : (n : ℕ) (os : List Object) → find n os ≡ none → all_used_up (n ∷ []) os ≡ os
unfolding all_used_up find
absent_kept n [] h = refl
absent_kept n (o ∷ os) h =
    by_test (eqb n o.number)
    (λ t. let z : some o ≡ none = rw t at h in let z : ◌≡◌ {A = ℕ} 0 1 = cc in absurd (omega arith))
    (λ t. let apart : o.number ≡ n → ⊥ = λ e. false≢true (sym t ∙ eq-eqb n o.number (sym e)) in
    λ i. other_kept n o apart i ∷ absent_kept n os (rw t at h) i)

-- o, wherever its number stands
in_place : (o : Object) (os : List Object) → all_used_up (o.number ∷ []) (replaced o os) ≡ replaced (used_up (o.number ∷ []) o) os
unfolding all_used_up replaced
in_place o [] = refl
in_place o (p ∷ os) = λ i. here i ∷ in_place o os i
  where
    new : Object
    new = used_up (o.number ∷ []) o

    go : (t : Bool) → eqb p.number o.number ≡ t → used_up (o.number ∷ []) (if t then o else p) ≡ (if t then new else p)
    go true e = refl
    go false e = other_kept o.number p (λ q. false≢true (sym e ∙ eq-eqb p.number o.number q))

    here : used_up (o.number ∷ []) (if eqb p.number o.number then o else p) ≡ (if eqb p.number new.number then new else p)
    here = go (eqb p.number o.number) refl ∙ ap (λ m. if eqb p.number m then new else p) (sym (used_up_number (o.number ∷ []) o))

-- the number of one of them: it alone is used up
pub one_used_up : (n : ℕ) (os : List Object) (o : Object) → objects_allowed os ≡ true → find n os ≡ some o →
    all_used_up (n ∷ []) os ≡ replaced (used_up (n ∷ []) o) os
one_used_up n os o h e =
    let number = (found_stands n os o e).number in
    rw (← number) (ap (all_used_up (o.number ∷ [])) (sym (replaced_itself n os o h e)) ∙ in_place o os)

-- where it is a counter up, it goes up by one
pub found_steps : (n : ℕ) (os : List Object) (o : Object) → find n os ≡ some o → is (Counter Up) o.kind ≡ true → used_up (n ∷ []) o ≡ one_up o
unfolding among
found_steps n os o e h = one_used (n ∷ []) o h (rw (eq-eqb o.number n (found_stands n os o e).number))

-- one number more: its counter steps where it is not among those before ---------------------------------------------------

module _ (ns : List ℕ) (n : ℕ) where
  -- n, where it is not among ns
  abbrev new : List ℕ
  new = if among ns n then [] else n ∷ []

  -- of an object x: is it a counter up (u), is its number among ns (a), is it n (e); is n among ns (t)
  once : {A : Type 0} (f : A → A) (x : A) (u a t e : Bool) → (e ≡ true → a ≡ t) →
      (if u && (if t then false else e) then f (if u && a then f x else x) else (if u && a then f x else x)) ≡ (if u && (a || e) then f x else x)
  once f x false a t e h = refl
  once f x true true true e h = refl
  once f x true true false true h = absurd (false≢true (sym (h refl)))
  once f x true true false false h = refl
  once f x true false true true h = absurd (false≢true (h refl))
  once f x true false true false h = refl
  once f x true false false e h = refl

  among_new : (m : ℕ) → among new m ≡ (if among ns n then false else eqb m n)
  unfolding among
  among_new m = go (among ns n)
    where
      go : (t : Bool) → among (if t then [] else n ∷ []) m ≡ (if t then false else eqb m n)
      go true = refl
      go false = or-false (eqb m n)

  among_more : (m : ℕ) → among (ns ++ n ∷ []) m ≡ (among ns m || eqb m n)
  unfolding among
  among_more m = among_append ns (n ∷ []) m ∙ rw or-false

  one_more : (o : Object) → used_up new (used_up ns o) ≡ used_up (ns ++ n ∷ []) o
  one_more o =
      let u = is (Counter Up) o.kind in
      let a = among ns o.number in
      let t = among ns n in
      let e = eqb o.number n in
      let y : Bool = if t then false else e in
      let p = used_up ns o in
      used_up_by new p u y (ap (is (Counter Up)) (used_up_kind ns o)) (ap (among new) (used_up_number ns o) ∙ among_new o.number) ∙
      ap (λ x. if u && y then one_up x else x) (used_up_by ns o u a refl refl) ∙
      once one_up o u a t e (λ h. ap (among ns) (eqb-true o.number n h)) ∙
      sym (used_up_by (ns ++ n ∷ []) o u (a || e) refl (among_more o.number))

  pub all_one_more : (os : List Object) → all_used_up new (all_used_up ns os) ≡ all_used_up (ns ++ n ∷ []) os
  unfolding all_used_up
  all_one_more [] = refl
  all_one_more (o ∷ os) = λ i. one_more o i ∷ all_one_more os i
