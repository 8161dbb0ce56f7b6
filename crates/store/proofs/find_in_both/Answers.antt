-- `store::find_in_both` meets its contract.
use borrow.Author.Rules.{rules}
use Rattle.store.proofs.Ways.{same_find}
use Rattle.store.proofs.find_in_both.Goals as goal

pub returns : goal.returns
returns c = (search rules, search rules, search same_find)
