-- `command::wrong_length` meets its contract.
use Rattle.command.proofs.Steps.{length_told}
use Rattle.command.proofs.wrong_length.Goals as goal

pub returns : goal.returns
returns c = search length_told
