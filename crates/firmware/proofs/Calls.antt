-- What a host in C sees is a call of the library: with the session that its four bytes tell, the demands on `execute` and on `run` are demands on
-- `element_execute` and `element_run`.
use Prim.Native.Nat.{ℕ}
use mathlib.Core.Path.{◌≡◌, ap}
use mathlib.Core.Bool.{true}
use mathlib.Core.List.{List}
use Rattle.rules.specs.Step.{After}
use Rattle.element.specs.Executed.{Executes}
use Rattle.runs.specs.Lists.{Lent, Returned, returned}
use Rattle.runs.specs.Demand.{IsRun, library_run}
use Rattle.firmware.specs.declared.HostSession.{HostSession}
use Rattle.firmware.specs.Host.{session_of, HostAfter, left, HostExecutes}
use Rattle.firmware.specs.Lists.{ListLeft, laid_well, list_left, list_in_bytes, HostRuns}
use Rattle.firmware.proofs.Bytes.{told_again}

abbrev after : HostAfter → After
after l = record { outcome = l.outcome; room = l.room; store = l.store; session = session_of l.session }

-- a call of `element_execute` meets the contract of `execute`
pub call_by_rules : (command room store : List ℕ) (b : HostSession) (outcome : ℕ) (room' store' : List ℕ) (b' : HostSession)
    → HostExecutes command room store b (left outcome room' store' b')
    → Executes command room store (session_of b) (record { outcome = outcome; session = session_of b' }) room' store'
call_by_rules command room store b outcome room' store' b' e = rw told_again at (ap after e)

abbrev given_back : ListLeft → Returned
given_back l = returned l.rooms l.outcomes l.store (session_of l.session)

-- a call of `element_run` on a list that is laid out well answers 0 and meets the contract of `run`
pub run_by_rules : (l : Lent) (b : HostSession) (outcome : ℕ) (rooms' outcomes' store' : List ℕ) (b' : HostSession) → laid_well l ≡ true
    → HostRuns l b (list_left outcome rooms' outcomes' store' b')
    → (outcome ≡ 0) × IsRun (library_run l (returned rooms' outcomes' store' (session_of b')))
unfolding list_in_bytes
run_by_rules l b outcome rooms' outcomes' store' b' well e =
    let f = rw well at e in
    (ap (λ (x : ListLeft). x.outcome) f, rw told_again at (ap given_back f))
