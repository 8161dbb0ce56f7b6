-- The numbers of the session's objects, then the store.
use mathlib.Core.Path.{◌≡◌, refl}
use native.Mathlib.Omega.{arith}
use Rattle.rules.specs.Layout.{find}
use Rattle.rules.specs.Object.{of_session, is, kind_number}
use Rattle.rules.specs.Session.{session_object, session_objects}
use Rattle.store.proofs.Ways.{sound_leads}
use Rattle.judge.proofs.Targets.{session_named, found_named, found_stored, found_there, nothing_named}
use Rattle.judge.proofs.find_target.Goals as goal

pub returns-in-57536 : goal.returns-in-57536
unfolding of_session is kind_number
returns-in-57536 c = (session_named _ _ _ _ _ _ 0xE0C0 (search) (search) (unfold find session_objects session_object in refl), refl)

pub returns-in-61888 : goal.returns-in-61888
unfolding of_session is kind_number
returns-in-61888 c = (session_named _ _ _ _ _ _ 0xF1C0 (search) (search) (unfold find session_objects session_object in refl), refl)

pub returns-in-61890 : goal.returns-in-61890
unfolding of_session is kind_number
returns-in-61890 c = (session_named _ _ _ _ _ _ 0xF1C2 (search) (search) (unfold find session_objects session_object in refl), refl)

pub find_record-requires : goal.find_record-requires
find_record-requires c = search sound_leads

pub returns-in_err-at-in_default : goal.returns-in_err-at-in_default
returns-in_err-at-in_default c =
    rw c.from_residual.ensures (
      nothing_named _ _ _ _ c.object_number-number.ensures c.requires.1 (λ h. absurd (omega arith)) (λ h. absurd (omega arith)) (λ h. absurd (omega arith)) _
          c.find_record.ensures c.in_err-at-in_default.was,
      tt,
    )

pub returns-in_ok-at-in_default : goal.returns-in_ok-at-in_default
returns-in_ok-at-in_default c =
    let g : c.object_number-number.result.0 ≡ 0xE0C0 → ⊥ = λ h. absurd (omega arith) in
    let a : c.object_number-number.result.0 ≡ 0xF1C0 → ⊥ = λ h. absurd (omega arith) in
    let l : c.object_number-number.result.0 ≡ 0xF1C2 → ⊥ = λ h. absurd (omega arith) in
    let w = c.in_ok-at-in_default.was in
    (search found_named, (search found_stored, search found_there))
