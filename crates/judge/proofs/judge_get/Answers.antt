-- What a get of data reads of the object is what is in use.
use Rattle.judge.proofs.Judging.{get_judged}
use Rattle.judge.proofs.judge_get.Goals as goal

pub returns : goal.returns
returns c o e = search get_judged
