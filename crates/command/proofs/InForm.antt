-- What callers learn of a command that passed the steps 2 to 8.
use Prim.Native.Nat.{ℕ, ◌+◌, ◌-◌, ◌≤◌}
use mathlib.Core.Path.{◌≡◌, ap, ◌∙◌}
use mathlib.Core.List.{List}
use mathlib.Core.Bool.{Bool, not, ◌||◌}
use native.Mathlib.Omega.{arith}
use borrow.Author.Tests.{ltb-false, not-false}
use lib.Dec.{T, ltb, leb, leb→le}
use lib.ListN.{length}
use Rattle.rules.specs.declared.Action.{Action}
use Rattle.rules.specs.declared.Row.TheVariants.{OnObject}
use Rattle.rules.specs.declared.Session.{Session}
use Rattle.rules.specs.Verdict.{accepted}
use Rattle.rules.specs.declared.Sizes.{Sizes}
use Rattle.rules.specs.Command.{row, in_length}
use Rattle.rules.specs.Expression.{is_state}
use Rattle.rules.specs.Refusals.{early, unsound, ill_sized, unknown_param}
use Rattle.laws.proofs.Tests.{or_parts}
use Rattle.laws.proofs.Verdicts.{early_passed}
use Rattle.laws.proofs.Rows.{on_object, in_full, sized, body_sent}
use Rattle.command.specs.Table.{action_sizes, InFull, BodySent}
use Rattle.command.specs.InForm.{InForm}
use Rattle.command.proofs.Table.{sizes_alike}

module _ (sound : Bool) (c : List ℕ) (s : Session) where
  pub in_form : early sound c s ≡ accepted → InForm sound c s
  unfolding unsound ill_sized unknown_param
  in_form h =
      let p = early_passed sound c s h in
      let states = or_parts (not sound || not (is_state s.lcsg)) _ p.step_2 in
      let sizes = or_parts (ltb (length c) 4 || ltb 1557 (length c)) _ p.step_3 in
      let first_two = or_parts (not sound) _ states.0 in
      let bounds = or_parts (ltb (length c) 4) _ sizes.0 in
      let told : in_length c ≡ length c - 4 = omega (arith, sized c p.step_3) in
      search (not-false, ltb-false)

  pub row_long : early sound c s ≡ accepted → 2 ≤ length c
  row_long h = let f = in_form h in omega arith

  -- a command has the bytes that its action asks at least
  pub action_in_full : (a : Action) → early sound c s ≡ accepted → row c ≡ OnObject a → InFull a c
  action_in_full a h e = omega (arith, in_full sound c s h, ap (λ (z : Sizes). z.least) (rw e at (sizes_alike c)))

  -- and of an append, a body that is allowed
  pub action_body : (a : Action) → early sound c s ≡ accepted → row c ≡ OnObject a → BodySent a c
  action_body a h e p = body_sent sound c s h (e ∙ ap OnObject p)

  -- the object's number is there
  pub object_long : (a : Action) → early sound c s ≡ accepted → row c ≡ OnObject a → 6 ≤ length c
  object_long a h e = omega (arith, in_full sound c s h, (on_object c a e).takes_object)

-- the bounds that the parts of a command ask for
pub long_enough : (a v : Action) → a ≡ v → (c : List ℕ) (k : ℕ) → InFull a c → T (leb k ((action_sizes v).least + 4)) → k ≤ length c
long_enough a v e c k h l = let n : (action_sizes v).least + 4 ≤ length c = rw e at h in omega (arith, leb→le k _ l)

pub ruleset parts_there = (long_enough, tt)
