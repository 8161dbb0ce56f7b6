-- One step of the chain.
use Rattle.rules.specs.Chain.{◌refused◌or◌}
use Rattle.rules.proofs.refuse_if.Goals as goal

pub returns-then-applies : goal.returns-then-applies
unfolding ◌refused◌or◌
returns-then-applies c = rw c.if-applies.true

pub returns : goal.returns
unfolding ◌refused◌or◌
returns c = rw c.if-applies.false
