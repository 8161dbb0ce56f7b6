-- The bytes are those of the object's values.
use Rattle.answer.proofs.Answering.{sizes_put}
use Rattle.answer.proofs.put_sizes.Goals as goal

pub returns : goal.returns
returns c = search sizes_put
