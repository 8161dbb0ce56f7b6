-- Demand 1 of one command: there is an answer; a refusal has a number of the list and changes only the response and the last error;
-- with no room for a status nothing changes at all.
use Prim.Native.Nat.{ℕ, ◌≤◌, ◌<◌}
use mathlib.Core.Bool.{true, false, false≢true}
use mathlib.Core.List.{List}
use mathlib.Core.Path.{◌≡◌, refl, sym}
use borrow.Author.Tests.{lt-ltb, le-ltb}
use lib.ListN.{length}
use Rattle.rules.specs.declared.Session.{Session}
use Rattle.rules.specs.declared.Refusal.{Refusal}
use Rattle.rules.specs.declared.Refusal.TheVariants.{InvalidObject, InvalidParam, InvalidLength, InvalidData, InternalError, AccessDenied, BoundaryExceeded, InvalidCommand, NotAvailable, InsufficientBuffer}
use Rattle.rules.specs.Verdict.{accepted}
use Rattle.rules.specs.Basic.{among}
use Rattle.rules.specs.Response.{code, done_response, refused_response, put_in_front}
use Rattle.rules.specs.Layout.{unpack}
use Rattle.rules.specs.Step.{declined, performed, judged, flushed, unanswered, step}
use Rattle.demands.specs.Demand.{is_done, is_refused, listed, RefusedWith, SomeRefusal, Answered, no_room, refused, done}
use Rattle.laws.proofs.Keeps.{step_by, judgment}

-- every refusal's number is in the list
pub code_listed : (r : Refusal) → listed (code r) ≡ true
unfolding listed among
code_listed InvalidObject = refl
code_listed InvalidParam = refl
code_listed InvalidLength = refl
code_listed InvalidData = refl
code_listed InternalError = refl
code_listed AccessDenied = refl
code_listed BoundaryExceeded = refl
code_listed InvalidCommand = refl
code_listed NotAvailable = refl
code_listed InsufficientBuffer = refl

declined_is : (r : Refusal) (c room store : List ℕ) (s : Session) → RefusedWith r c room store s (declined r room store (flushed c s))
unfolding declined
declined_is r c room store s = search code_listed

-- a command with room for a status is judged
pub step_judged : (c room store : List ℕ) (s : Session) → 4 ≤ length room → step c room store s ≡ judged c room store (unpack store) (flushed c s)
unfolding step
step_judged c room store s h = rw (le-ltb (length room) 4 h)

-- whatever bytes come in as command, store or session, there is an answer
pub every_command_answered : (c room store : List ℕ) (s : Session) → Answered c room store s (step c room store s)
unfolding unanswered declined performed is_done is_refused put_in_front refused_response done_response
every_command_answered c room store s =
    step_by (Answered c room store s) c room store s (λ l. no_room l refl) (λ l r e. refused l r (declined_is r c room store s) refl) (λ l e. done l refl)

-- with no room for even a status, nothing changes at all
pub no_room_changes_nothing : (c room store : List ℕ) (s : Session) → length room < 4 →
    step c room store s ≡ record { outcome = 1; room = room; store = store; session = s }
unfolding step unanswered
no_room_changes_nothing c room store s h = rw (lt-ltb (length room) 4 h)

-- what is done had room for a status and was accepted
pub done_judged : (c room store : List ℕ) (s : Session) → is_done (step c room store s) ≡ true →
    (4 ≤ length room) × (judgment c room (unpack store) (flushed c s) ≡ accepted)
unfolding unanswered declined is_done put_in_front refused_response
done_judged c room store s =
    step_by (λ a. is_done a ≡ true → (4 ≤ length room) × (judgment c room (unpack store) (flushed c s) ≡ accepted)) c room store s
    (λ l h. absurd (false≢true h)) (λ l r e h. absurd (false≢true h)) (λ l e h. (l, e))

-- what is not done stores nothing
pub not_done_kept : (c room store : List ℕ) (s : Session) → is_done (step c room store s) ≡ false → (step c room store s).store ≡ store
unfolding unanswered declined performed is_done put_in_front done_response
not_done_kept c room store s =
    step_by (λ a. is_done a ≡ false → a.store ≡ store) c room store s (λ l h. refl) (λ l r e h. refl) (λ l e h. absurd (false≢true (sym h)))

-- what is seen as refused is a refusal with a number of the list that changes only the response and the last error
pub refusal_changes_last_error_only : (c room store : List ℕ) (s : Session) → is_refused (step c room store s) ≡ true →
    SomeRefusal c room store s (step c room store s)
unfolding unanswered performed is_refused put_in_front done_response
refusal_changes_last_error_only c room store s =
    step_by (λ a. is_refused a ≡ true → SomeRefusal c room store s a) c room store s
    (λ l h. absurd (false≢true h)) (λ l r e h. record { refusal = r; with = declined_is r c room store s }) (λ l e h. absurd (false≢true h))
