-- What is still to be fed from where the loop stands gives what the whole piece gives.
use Prim.Native.Nat.{◌≤◌, ◌+◌}
use mathlib.Core.Path.{refl}
use native.Mathlib.Omega.{arith}
use lib.ListN.{length}
use borrow.Author.Rules.{rules}
use Rattle.dock.specs.Held.{feeding}
use Rattle.dock.proofs.Feeding.{taken_within, left_less, feed_on, feed_whole, feed_end}
use Rattle.dock.proofs.Stream.feed.Goals as goal

pub loop-taken-init : goal.loop-taken-init
unfolding feeding
loop-taken-init c = (omega arith, search rules, refl)

pub overflow_add-taken : goal.overflow_add-taken
overflow_add-taken c =
    let inside : c.loop-taken.taken + c.take_part-part.result.taken ≤ length c.args.piece.now = search taken_within in
    omega (arith, inside)

pub loop-taken-smaller : goal.loop-taken-smaller
loop-taken-smaller c = search left_less

pub loop-taken-preserved : goal.loop-taken-preserved
loop-taken-preserved c = (search taken_within, c.take_part-part.array_long, search feed_on)

pub returns-in-loop-taken : goal.returns-in-loop-taken
returns-in-loop-taken c = search feed_whole

pub returns : goal.returns
returns c = search feed_end
