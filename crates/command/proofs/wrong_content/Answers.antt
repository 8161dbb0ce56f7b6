-- Only an open has content of its own to be wrong.
use Rattle.rules.specs.Command.{identifier}
use Rattle.rules.specs.Hex.{hex, ascii, digits, pairs}
use Rattle.command.proofs.Steps.{opens_with, no_content}
use Rattle.command.proofs.wrong_content.Goals as goal

pub returns-in-OpenApplication : goal.returns-in-OpenApplication
unfolding identifier hex ascii digits pairs
returns-in-OpenApplication c = opens_with c.args.command.now _ _ _ c.row_of_command.ensures c.in-OpenApplication.is c.ne.ensures c.as_slice.ensures

pub returns-in_default : goal.returns-in_default
returns-in_default c = no_content c.args.command.now _ c.row_of_command.ensures c.in_default.not-OpenApplication
