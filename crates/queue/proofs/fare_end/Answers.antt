-- What is left to search is the fares from `at` on.
use Rattle.queue.proofs.Search.{start, size_in, number_in, falls, found_here, go_on, search_end}
use Rattle.queue.proofs.fare_end.Goals as goal

pub loop-at-init : goal.loop-at-init
loop-at-init c = search start

pub little_endian_at-requires : goal.little_endian_at-requires
little_endian_at-requires c = search size_in

pub little_endian_4_at-requires : goal.little_endian_4_at-requires
little_endian_4_at-requires c = search number_in

pub returns-then-little_endian_4_at-number : goal.returns-then-little_endian_4_at-number
returns-then-little_endian_4_at-number c = search found_here

pub loop-at-smaller : goal.loop-at-smaller
loop-at-smaller c = search falls

pub loop-at-preserved : goal.loop-at-preserved
loop-at-preserved c = search go_on

pub returns : goal.returns
returns c = search search_end
