-- `put_response`: the room's front, as far as the response goes.
use Rattle.listing.proofs.Lines.{response_put}
use Rattle.listing.proofs.Output.put_response.Goals as goal

pub returns : goal.returns
returns c = (search response_put, cc)
