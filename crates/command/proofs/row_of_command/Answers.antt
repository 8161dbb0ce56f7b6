-- `command::row_of_command` meets its contract.
use Rattle.command.proofs.Parts.{row_by}
use Rattle.command.proofs.row_of_command.Goals as goal

pub returns : goal.returns
returns c = search row_by
