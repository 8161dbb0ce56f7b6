-- `answer`: what is put right behind the head.
use Rattle.response.proofs.Begun.{head_then}
use Rattle.response.proofs.answer.Goals as goal

pub returns : goal.returns
returns c = search head_then
