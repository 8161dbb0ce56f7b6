-- Present from the first number up to just below the next.
use Rattle.queue.proofs.Checking.{below_first, from_first}
use Rattle.queue.proofs.Search.{head_long}
use Rattle.queue.proofs.is_present.Goals as goal

pub first_number-requires : goal.first_number-requires
first_number-requires c = search head_long

pub returns-then-first_number-number : goal.returns-then-first_number-number
returns-then-first_number-number c = search from_first

pub returns-else-first_number-number : goal.returns-else-first_number-number
returns-else-first_number-number c = search below_first
