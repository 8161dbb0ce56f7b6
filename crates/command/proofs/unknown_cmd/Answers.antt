-- `command::unknown_cmd` meets its contract.
use Rattle.rules.specs.Refusals.{unknown_cmd}
use Rattle.command.proofs.unknown_cmd.Goals as goal

pub returns : goal.returns
unfolding unknown_cmd
returns c = cc
