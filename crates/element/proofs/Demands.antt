-- The demands on one command, of `execute` itself: they follow from its contract and the laws of the rules. A call is told by what it was
-- lent (command, room, store, session) and what it left (answer, room, store).
use Prim.Native.Nat.{ℕ, ◌<◌}
use mathlib.Core.Bool.{true}
use mathlib.Core.List.{List}
use mathlib.Core.Option.{some}
use mathlib.Core.Path.{◌≡◌, sym, subst, ◌∙◌}
use lib.ListN.{length}
use Rattle.rules.specs.declared.Session.{Session}
use Rattle.rules.specs.declared.Action.{Action}
use Rattle.rules.specs.declared.Action.TheVariants.{GetData}
use Rattle.rules.specs.declared.Row.TheVariants.{OnObject}
use Rattle.rules.specs.Command.{row, object_number}
use Rattle.rules.specs.Object.{Object}
use Rattle.rules.specs.Layout.{find}
use Rattle.rules.specs.Step.{After, flushed}
use Rattle.demands.specs.Demand.{is_done, is_refused, SomeRefusal, Answered, Ready, writes, WritesExactly, ReadsExactly, byte_shown, MayReadByte, bytes_shown, after_byte, Shown}
use Rattle.demands.proofs.Demand1.{every_command_answered, no_room_changes_nothing, refusal_changes_last_error_only}
use Rattle.demands.proofs.Demand2.{write_exactly_when, read_exactly_when}
use Rattle.demands.proofs.Shown.{read_only_when, byte_read_when}
use Rattle.element.specs.declared.Answer.{Answer}
use Rattle.element.specs.Executed.{executed, Executes}

module _ (c room store : List ℕ) (s : Session) (r : Answer) (room' store' : List ℕ) (call : Executes c room store s r room' store') where
  -- demand 1: whatever bytes come in, there is an answer: no room for a status and nothing changed, refused, or done
  pub execute_answers : Answered c room store s (executed r room' store')
  execute_answers = subst (λ (a : After). Answered c room store s a) (sym call) (every_command_answered c room store s)

  -- demand 1: a refusal changes only the response and the last error
  pub execute_refusal : is_refused (executed r room' store') ≡ true → SomeRefusal c room store s (executed r room' store')
  execute_refusal h =
      subst (λ (a : After). is_refused a ≡ true → SomeRefusal c room store s a) (sym call) (refusal_changes_last_error_only c room store s) h

  -- demand 1: with no room for even a status, nothing changes at all
  pub execute_no_room : length room < 4 → executed r room' store' ≡ record { outcome = 1; room = room; store = store; session = s }
  execute_no_room h = call ∙ no_room_changes_nothing c room store s h

  -- demand 2: a data read that is done shows exactly the stored bytes, the read condition holding, with nothing assumed of store and session
  pub execute_shows : row c ≡ OnObject GetData → is_done (executed r room' store') ≡ true → Shown c room store s (executed r room' store')
  execute_shows g = subst (λ (a : After). is_done a ≡ true → Shown c room store s a) (sym call) (read_only_when c room store s g)

  -- demand 2: the byte of an object of the session is shown whenever it may be
  pub execute_shows_byte : (os : List Object) (byte : ℕ) → Ready room store s os → row c ≡ OnObject GetData → MayReadByte c (length room) (flushed c s) byte →
      executed r room' store' ≡ bytes_shown (byte_shown c byte) room store (after_byte c (flushed c s))
  execute_shows_byte os byte ready g m = call ∙ byte_read_when c room store s os byte ready g m

  module _ (os : List Object) (o : Object) (ready : Ready room store s os) (finds : find (object_number c) os ≡ some o) where
    -- demand 2: a write to a stored object makes its change exactly when it may
    pub execute_writes : (a : Action) → row c ≡ OnObject a → writes a ≡ true → WritesExactly a c room store s os o (executed r room' store')
    execute_writes a g w = subst (λ (x : After). WritesExactly a c room store s os o x) (sym call) (write_exactly_when c room store s os o ready a g w finds)

    -- demand 2: a data read shows exactly the stored bytes, and only when the read condition holds
    pub execute_reads : row c ≡ OnObject GetData → ReadsExactly c room store s os o (executed r room' store')
    execute_reads g = subst (λ (a : After). ReadsExactly c room store s os o a) (sym call) (read_exactly_when c room store s os o ready g finds)
