-- A fare queue over runs of the library: what the demands say of it over runs of the rules.
use Prim.Native.Nat.{ℕ}
use mathlib.Core.Bool.{true}
use mathlib.Core.List.{List, ◌∷◌, ◌++◌}
use mathlib.Core.Option.{some}
use mathlib.Core.Path.{◌≡◌}
use lib.ListN.{length}
use Rattle.rules.specs.Queue.{FareQueue}
use Rattle.rules.specs.Run.{Turn, Reply, Kept, Ran}
use Rattle.demands.specs.Queues.{stored_queue, appends, answered_00, QueueKept, NeverLost}
use Rattle.demands.proofs.Queues.{queue_kept, never_lost}
use Rattle.runs.specs.Lists.{Given}
use Rattle.runs.specs.Demand.{LibraryRun, IsRun, ran, Calls}
use Rattle.runs.proofs.Demand3.{run_is_calls, calls_by_rules}

-- of any host that calls `execute` itself
pub calls_queue : {ts : List Turn} {k : Kept} {a : Ran} (n : ℕ) (q : FareQueue) → Calls ts k a → stored_queue n k.store ≡ some q → QueueKept n q ts a
calls_queue {ts} {k} n q m h = rw (calls_by_rules m) (queue_kept n q ts k h)

-- and of the library's `run`, which makes such calls
pub runs_queue : (n : ℕ) (q : FareQueue) (u : LibraryRun) → IsRun u → {ts : List Turn} {k : Kept} → Given ts k u.lent →
    stored_queue n k.store ≡ some q → QueueKept n q ts (ran u)
runs_queue n q u is g h = calls_queue n q (run_is_calls u is g) h

-- the fare of an append t that was answered 00, behind ts and before us in the run, is there at the end, or a command of us acknowledged it
pub calls_never_lost : (n : ℕ) (q : FareQueue) (ts : List Turn) (t : Turn) (us : List Turn) {k : Kept} {a : Ran} → Calls (ts ++ (t ∷ us)) k a →
    stored_queue n k.store ≡ some q → (rs : List Reply) (r : Reply) (ss : List Reply) → length rs ≡ length ts → a.replies ≡ rs ++ (r ∷ ss) →
    appends n t.command ≡ true → answered_00 r ≡ true → NeverLost n q ts t us rs ss a.kept.store
calls_never_lost n q ts t us {k} m h rs r ss l e append done =
    let by = calls_by_rules m in
    rw by (never_lost n q ts t us k rs r ss h l (rw by at e) append done)

pub runs_never_lost : (n : ℕ) (q : FareQueue) (ts : List Turn) (t : Turn) (us : List Turn) (u : LibraryRun) → IsRun u → {k : Kept} →
    Given (ts ++ (t ∷ us)) k u.lent → stored_queue n k.store ≡ some q → (rs : List Reply) (r : Reply) (ss : List Reply) →
    length rs ≡ length ts → (ran u).replies ≡ rs ++ (r ∷ ss) → appends n t.command ≡ true → answered_00 r ≡ true →
    NeverLost n q ts t us rs ss (ran u).kept.store
runs_never_lost n q ts t us u is g h rs r ss l e append done = calls_never_lost n q ts t us (run_is_calls u is g) h rs r ss l e append done
