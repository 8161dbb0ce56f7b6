-- Each part is put behind those before it.
use Rattle.answer.proofs.Answering.{answer_put}
use Rattle.answer.proofs.write_answer.Goals as goal

pub returns : goal.returns
returns c = search answer_put
