-- What is left, then zeros.
use Rattle.queue.proofs.Results.{kept_is, drop_by}
use Rattle.queue.proofs.drop_front.Goals as goal

pub returns : goal.returns
returns c = λ n f. (search kept_is, search drop_by)
