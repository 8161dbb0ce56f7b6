-- The end that was found is where `drop_front` begins to keep.
use borrow.Author.Rules.{rules}
use Rattle.queue.proofs.Results.{part_long, not_absent, end_found, end_past_head, end_within}
use Rattle.queue.proofs.acknowledge.Goals as goal

pub slice_bounds-fare_end-end-2 : goal.slice_bounds-fare_end-end-2
slice_bounds-fare_end-end-2 c = search (part_long, rules)

pub returns-in_default : goal.returns-in_default
returns-in_default c = absurd (search not_absent)

pub drop_front-requires : goal.drop_front-requires
drop_front-requires c = (search rules, search end_past_head, search end_within)

pub returns : goal.returns
returns c = c.drop_front.ensures _ (search end_found)
