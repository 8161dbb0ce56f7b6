-- The sum of the answer's parts.
use Rattle.answer.proofs.Answering.{answer_sized}
use Rattle.answer.proofs.answer_size.Goals as goal

pub returns : goal.returns
returns c = search answer_sized
