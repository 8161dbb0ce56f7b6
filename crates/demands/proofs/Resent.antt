-- No step looks at the last error: a refused command that is sent again with another last error is refused with the same number.
use Prim.Native.Nat.{ℕ, ◌≤◌, max}
use mathlib.Core.Bool.{Bool, true, false}
use mathlib.Core.List.{List, []}
use mathlib.Core.Option.{Option, none, some}
use mathlib.Core.Path.{◌≡◌, refl, ap, ◌∙◌}
use native.Mathlib.Omega.{arith}
use lib.Dec.{eqb}
use lib.ListN.{length}
use Rattle.rules.specs.declared.Session.{Session}
use Rattle.rules.specs.declared.Kind.TheVariants.{LifeCycle, Status}
use Rattle.rules.specs.declared.Refusal.{Refusal}
use Rattle.rules.specs.declared.Action.{Action}
use Rattle.rules.specs.declared.Action.TheVariants.{GetData, GetMetadata, Write, EraseAndWrite, SetMetadata, Count, Append, Acknowledge}
use Rattle.rules.specs.declared.Row.{Row}
use Rattle.rules.specs.declared.Row.TheVariants.{OnObject, OpenApplication, CloseApplication, Unknown}
use Rattle.rules.specs.Verdict.{Verdict}
use Rattle.std.specs.Prelude.{Err, if◌then◌else◌}
use Rattle.rules.specs.Basic.{or_else, is_some, first_of}
use Rattle.rules.specs.Command.{row, asks_flush, object_number}
use Rattle.rules.specs.Response.{code}
use Rattle.rules.specs.Object.{Object, of_session, is_counter, is, kind_number}
use Rattle.rules.specs.Layout.{unpack, find}
use Rattle.rules.specs.Session.{session_change, session_object, session_objects, with_error}
use Rattle.rules.specs.Chain.{◌refused◌or◌, ◌and_then◌}
use Rattle.rules.specs.Access.{Seen, seen, named, grant, asked, access}
use Rattle.rules.specs.Operation.{setting_session, operation}
use Rattle.rules.specs.Refusals.{ruling_on, ruling_of, ruling, late, verdict}
use Rattle.rules.specs.Step.{After, raised, declined, answered, judged, flushed, step}
use Rattle.laws.proofs.Tests.{if_by}
use Rattle.laws.proofs.Puts.{shown_length}
use Rattle.laws.proofs.Grants.{error_aside}
use Rattle.laws.proofs.Views.{early_alike, ruling_alike, late_alike}
use Rattle.demands.proofs.Demand1.{step_judged}
use Rattle.laws.proofs.Keeps.{judgment}

-- the byte that F1C2 holds decides nothing
module _ (c : List ℕ) (see : Seen) (room n m : ℕ) where
  abbrev byte_late : Action → ℕ → Verdict
  byte_late a b = late (ruling_on a c (some (session_object 0xF1C2 Status b)) see) room

  error_same : (a : Action) → byte_late a n ≡ byte_late a m
  unfolding late ruling_on access asked operation session_object session_change of_session is_counter is kind_number grant ◌refused◌or◌ ◌and_then◌
  error_same GetData = simp shown_length
  error_same GetMetadata = refl
  error_same Write = refl
  error_same EraseAndWrite = refl
  error_same SetMetadata = refl
  error_same Count = refl
  error_same Append = refl
  error_same Acknowledge = refl

module _ (c : List ℕ) (room : ℕ) (n : ℕ) (s : Session) (os : List Object) where
  abbrev after : Seen
  after = seen os (with_error n s)

  abbrev before : Seen
  before = seen os s

  -- the object named, of which only F1C2 is another
  named_same : (a : Action) →
      late (ruling_on a c (named (object_number c) after) before) room ≡ late (ruling_on a c (named (object_number c) before) before) room
  unfolding named session_objects session_object find with_error seen
  named_same a = by (eqb (object_number c) 0xE0C0) (eqb (object_number c) 0xF1C0) (eqb (object_number c) 0xF1C2)
    where
      at : Bool → Bool → Bool → ℕ → Option Object
      at g a e byte =
          first_of (if g then some (session_object 0xE0C0 LifeCycle s.lcsg) else (if a then some (session_object 0xF1C0 LifeCycle s.lcsa) else
          (if e then some (session_object 0xF1C2 Status byte) else none))) (find (object_number c) os)

      by : (g b e : Bool) → late (ruling_on a c (at g b e n) before) room ≡ late (ruling_on a c (at g b e s.error) before) room
      by true b e = refl
      by false true e = refl
      by false false true = error_same c before room n s.error a
      by false false false = refl

  row_same : (r : Row) → late (ruling r c after) room ≡ late (ruling r c before) room
  unfolding ruling ruling_of setting_session late seen
  row_same (OnObject a) = late_alike _ _ room (ruling_alike a c (named (object_number c) after) after before (error_aside n s) (λ o e m h. refl)) ∙ named_same a
  row_same OpenApplication = refl
  row_same CloseApplication = refl
  row_same Unknown = refl

  -- the verdict is the same at every last error
  pub verdict_alike : (sound : Bool) → verdict sound c room (seen os (with_error n s)) ≡ verdict sound c room (seen os s)
  unfolding verdict seen
  verdict_alike sound = λ i. early_alike sound c (with_error n s) s (error_aside n s) i and_then row_same (row c) i

-- a refused command, carried out again with a last error of 0, is refused again, with its number as the last error
module _ (c room store : List ℕ) (s : Session) (r : Refusal) (fits : 4 ≤ length room) (no : judgment c room (unpack store) (flushed c s) ≡ Err r) where
  flushed_same : flushed c (with_error 0 s) ≡ with_error 0 s
  unfolding flushed with_error
  flushed_same = if_by (λ x. x ≡ with_error 0 s) (asks_flush c) _ _ (λ t. refl) (λ t. refl)

  verdict_same : judgment c room (unpack store) (with_error 0 s) ≡ judgment c room (unpack store) (flushed c s)
  unfolding flushed
  verdict_same =
      if_by (λ x. judgment c room (unpack store) (with_error 0 s) ≡ judgment c room (unpack store) x) (asks_flush c) (with_error 0 s) s
      (λ t. refl) (λ t. verdict_alike c (length room) 0 s (or_else (unpack store) []) (is_some (unpack store)))

  pub refused_again : step c room store (with_error 0 s) ≡ declined r room store (with_error 0 s)
  unfolding judged answered
  refused_again = rw (step_judged c room store (with_error 0 s) fits, flushed_same, verdict_same, no)

  pub its_number : (step c room store (with_error 0 s)).session.error ≡ code r
  unfolding declined raised with_error
  its_number = let zero_max : max 0 (code r) ≡ code r = omega arith in ap (λ (a : After). a.session.error) refused_again ∙ zero_max
