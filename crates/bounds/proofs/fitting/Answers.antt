-- `bounds::fitting` meets its contract.
use Rattle.rules.specs.Refusals.{fitting}
use Rattle.bounds.proofs.fitting.Goals as goal

pub returns : goal.returns
unfolding fitting
returns c = cc
