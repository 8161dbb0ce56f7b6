-- What is left to judge is whether the fares from `at` on are numbered from `number` up to just below `next`.
use native.Mathlib.Omega.{arith}
use Rattle.queue.proofs.Checking.{too_short, past_first, from_start, no_fare, size_inside, stays, go_on, at_end}
use Rattle.queue.proofs.check.Goals as goal

pub returns-then-content-lt-FARES : goal.returns-then-content-lt-FARES
returns-then-content-lt-FARES c = search too_short

pub loop-number-init : goal.loop-number-init
loop-number-init c = (omega arith, search past_first, search from_start)

pub returns-then-not-fare_ok : goal.returns-then-not-fare_ok
returns-then-not-fare_ok c = search no_fare

pub little_endian_at-requires : goal.little_endian_at-requires
little_endian_at-requires c = search size_inside

pub loop-number-preserved : goal.loop-number-preserved
loop-number-preserved c = (search stays, (λ h. absurd (omega arith)), search go_on)

pub returns : goal.returns
returns c = search at_end
