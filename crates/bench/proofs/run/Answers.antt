-- `run`: the count lies within the output, and what is written is the whole text.
use Rattle.listing.proofs.Texts.{size_within, size_count}
use Rattle.listing.proofs.Whole.{whole_text}
use Rattle.bench.proofs.run.Goals as goal

pub slice_bounds-write_printed-end-2 : goal.slice_bounds-write_printed-end-2
slice_bounds-write_printed-end-2 c = search size_within

pub slice_bounds-write_printed-end-3 : goal.slice_bounds-write_printed-end-3
slice_bounds-write_printed-end-3 c = search size_count

pub write_printed-requires : goal.write_printed-requires
write_printed-requires c = search whole_text
