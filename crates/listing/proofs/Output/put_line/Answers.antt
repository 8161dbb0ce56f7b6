-- `put_line`: outcome, a space, the response, 0A.
use Rattle.listing.proofs.Lines.{outcome_small, line_put, line_store, line_session}
use Rattle.listing.proofs.Output.put_line.Goals as goal

pub digit-requires : goal.digit-requires
digit-requires c = search outcome_small

pub returns : goal.returns
returns c = record { line = (search line_put, cc); left = (search line_store, search line_session) }
