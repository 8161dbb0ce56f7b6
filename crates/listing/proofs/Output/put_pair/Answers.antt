-- `put_pair`: two digits, one after the other.
use Rattle.listing.proofs.Digits.{pair_put}
use Rattle.listing.proofs.Output.put_pair.Goals as goal

pub returns : goal.returns
returns c = (search pair_put, cc)
