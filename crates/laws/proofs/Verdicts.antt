-- What it means that a command is accepted: each step's test, one by one, and back.
use Prim.Native.Nat.{ℕ, ◌+◌, ◌≤◌}
use mathlib.Core.Bool.{Bool, true, false}
use mathlib.Core.List.{List}
use mathlib.Core.Option.{Option, none, some}
use mathlib.Core.Path.{◌≡◌, refl}
use native.Mathlib.Omega.{arith}
use borrow.Author.Tests.{ltb-false, le-ltb, not-false}
use lib.ListN.{length}
use Rattle.rules.specs.declared.Session.{Session}
use Rattle.rules.specs.declared.Action.{Action}
use Rattle.rules.specs.declared.Refusal.{Refusal}
use Rattle.rules.specs.Verdict.{Verdict, accepted}
use Rattle.std.specs.Prelude.{Ok, Err}
use Rattle.rules.specs.Command.{row}
use Rattle.rules.specs.Object.{Object}
use Rattle.rules.specs.Chain.{◌refused◌or◌, ◌and_then◌}
use Rattle.rules.specs.Access.{Seen, granted}
use Rattle.rules.specs.Operation.{operation}
use Rattle.rules.specs.Refusals.{unsound, ill_sized, unknown_cmd, unusable, unknown_param, wrong_length, wrong_content, early, Ruling, ruling_on, ruling, fitting, late, verdict}

-- one step passed
pub passed : (t : Bool) (r : Refusal) (later : Verdict) → (t refused r or later) ≡ accepted → (t ≡ false) × (later ≡ accepted)
unfolding ◌refused◌or◌
passed true r later h = let z : ◌≡◌ {A = ℕ} 0 1 = cc in absurd (omega arith)
passed false r later h = (refl, h)

pub passed_now : (t : Bool) (r : Refusal) (later : Verdict) → (t refused r or later) ≡ accepted → t ≡ false
passed_now t r later h = (passed t r later h).0

pub passed_later : (t : Bool) (r : Refusal) (later : Verdict) → (t refused r or later) ≡ accepted → later ≡ accepted
passed_later t r later h = (passed t r later h).1

pub both_accepted : (v w : Verdict) → (v and_then w) ≡ accepted → (v ≡ accepted) × (w ≡ accepted)
unfolding ◌and_then◌
both_accepted (Err r) w h = let z : ◌≡◌ {A = ℕ} 0 1 = cc in absurd (omega arith)
both_accepted (Ok _) w h = (refl, h)

-- steps 2 to 8
pub record EarlyPassed (sound : Bool) (c : List ℕ) (s : Session) : Type 0 where
  pub step_2 : unsound sound s ≡ false
  pub step_3 : ill_sized c ≡ false
  pub step_4 : unknown_cmd c ≡ false
  pub step_5 : unusable c s ≡ false
  pub step_6 : unknown_param c ≡ false
  pub step_7 : wrong_length c ≡ false
  pub step_8 : wrong_content c ≡ false

pub early_passed : (sound : Bool) (c : List ℕ) (s : Session) → early sound c s ≡ accepted → EarlyPassed sound c s
unfolding early
early_passed sound c s h = search (passed_now, passed_later) depth 8

pub early_accepts : (sound : Bool) (c : List ℕ) (s : Session) → EarlyPassed sound c s → early sound c s ≡ accepted
unfolding early ◌refused◌or◌
early_accepts sound c s p = rw (p.step_2, p.step_3, p.step_4, p.step_5, p.step_6, p.step_7, p.step_8)

-- step 13
pub fitting_passed : (n room : ℕ) → fitting n room ≡ accepted → 4 + n ≤ room
unfolding fitting
fitting_passed n room h = ltb-false room (4 + n) (passed _ _ _ h).0

pub fitting_accepts : (n room : ℕ) → 4 + n ≤ room → fitting n room ≡ accepted
unfolding fitting ◌refused◌or◌
fitting_accepts n room h = rw (le-ltb room (4 + n) h)

pub answer_fits : (r : Ruling) (room : ℕ) → late r room ≡ accepted → 4 + length r.does.answer ≤ room
unfolding late
answer_fits r room h = fitting_passed _ room (both_accepted _ _ h).1

-- steps 10 to 13 at an object
pub record LatePassed (a : Action) (c : List ℕ) (o : Object) (see : Seen) (room : ℕ) : Type 0 where
  pub granted : granted a o see ≡ true
  pub own : (operation a c o see).verdict ≡ accepted
  pub fits : 4 + length (operation a c o see).answer ≤ room

pub late_passed : (a : Action) (c : List ℕ) (o : Object) (see : Seen) (room : ℕ) → late (ruling_on a c (some o) see) room ≡ accepted →
    LatePassed a c o see room
unfolding late ruling_on
late_passed a c o see room h =
    let b = both_accepted _ _ h in
    let p10 = passed _ _ _ b.0 in
    record { granted = not-false _ p10.0; own = p10.1; fits = answer_fits (ruling_on a c (some o) see) room h }

pub late_accepts : (a : Action) (c : List ℕ) (o : Object) (see : Seen) (room : ℕ) → LatePassed a c o see room →
    late (ruling_on a c (some o) see) room ≡ accepted
unfolding late ruling_on ◌refused◌or◌ ◌and_then◌
late_accepts a c o see room p = rw (p.granted, p.own) (fitting_accepts _ room p.fits)

-- steps 9 to 13: an object is named
pub record NinePassed (a : Action) (c : List ℕ) (named : Option Object) (see : Seen) (room : ℕ) : Type 0 where
  pub object : Object
  pub there : named ≡ some object
  pub late : LatePassed a c object see room

pub nine_passed : (a : Action) (c : List ℕ) (named : Option Object) (see : Seen) (room : ℕ) → late (ruling_on a c named see) room ≡ accepted →
    NinePassed a c named see room
nine_passed a c none see room h = let z : ◌≡◌ {A = ℕ} 0 1 = unfold late ruling_on ◌and_then◌ in let e = h in cc in absurd (omega arith)
nine_passed a c (some o) see room h = record { object = o; there = refl; late = late_passed a c o see room h }

-- all of them
pub verdict_passed : (sound : Bool) (c : List ℕ) (room : ℕ) (see : Seen) → verdict sound c room see ≡ accepted →
    (early sound c see.session ≡ accepted) × (late (ruling (row c) c see) room ≡ accepted)
unfolding verdict
verdict_passed sound c room see h = both_accepted _ _ h

pub verdict_accepts : (sound : Bool) (c : List ℕ) (room : ℕ) (see : Seen) → early sound c see.session ≡ accepted →
    late (ruling (row c) c see) room ≡ accepted → verdict sound c room see ≡ accepted
unfolding verdict ◌and_then◌
verdict_accepts sound c room see e l = rw (e, l)
