-- The two puts are one.
use Rattle.answer.proofs.Answering.{field_put}
use borrow.Author.Rules.{rules}
use Rattle.answer.proofs.put_field.Goals as goal

pub returns : goal.returns
returns c = (search field_put, search rules)
