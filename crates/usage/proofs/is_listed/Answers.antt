-- What is left to look through are the numbers from the place on.
use Rattle.usage.proofs.Steps.{listed_here, listed_on, listed_end}
use Rattle.usage.proofs.is_listed.Goals as goal

pub returns-then-listed-number : goal.returns-then-listed-number
returns-then-listed-number c = listed_here _ _ _ _ c.loop-listed.invariant c.loop-listed-test.true c.if-listed-number.true

pub loop-listed-preserved : goal.loop-listed-preserved
loop-listed-preserved c = listed_on _ _ _ _ c.loop-listed.invariant c.loop-listed-test.true c.if-listed-number.false

pub returns : goal.returns
returns c = listed_end _ _ _ _ c.loop-listed.invariant c.loop-listed-test.false
