-- What a call of `execute` leaves, as the rules' `step` gives it.
use Rattle.std.specs.Prelude.{ℕ, List, ◌≡◌}
use Rattle.rules.specs.declared.Session.{Session}
use Rattle.rules.specs.Step.{After, step}
use Rattle.element.specs.declared.Answer.{Answer}

-- the answer of a call, with the room and the store as the call leaves them
abbrev pub executed : Answer → List ℕ → List ℕ → After
executed r room store = record { outcome = r.outcome; room = room; store = store; session = r.session }

-- what a call of `execute` leaves, by the rules: the one statement that its contract, runs and the demands cite
abbrev pub Executes : (c room store : List ℕ) (s : Session) (r : Answer) (room' store' : List ℕ) → Type 0
Executes c room store s r room' store' = executed r room' store' ≡ step c room store s
