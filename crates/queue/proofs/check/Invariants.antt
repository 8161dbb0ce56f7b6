use Prim.Native.Nat.{◌≤◌, ◌<◌}
use lib.ListN.{length, drop}
use Rattle.rules.specs.Basic.{is_some}
use Rattle.rules.specs.Queue.{queue}
use Rattle.queue.proofs.Checking.{Left}
use Rattle.queue.proofs.check.Given as goal

abbrev pub invariant-loop-number : goal.invariant-loop-number
invariant-loop-number l =
    (l.at ≤ length l.content) × (l.next < l.number → l.at < length l.content) × Left (is_some (queue l.content)) l.number l.next (drop l.at l.content)
