-- `put_cut`: the text in ASCII.
use Rattle.listing.proofs.Lines.{cut_put}
use Rattle.listing.proofs.Output.put_cut.Goals as goal

pub returns : goal.returns
returns c = (search cut_put, cc)
