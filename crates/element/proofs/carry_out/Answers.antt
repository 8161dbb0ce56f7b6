-- `element::carry_out` meets its contract.
use Rattle.element.proofs.Whole.{told, opened_set, closed_set, unknown_set}
use Rattle.command.proofs.InForm.{row_long}
use borrow.Author.Rules.{rules}
use Rattle.element.proofs.carry_out.Goals as goal

pub row_of_command-requires : goal.row_of_command-requires
row_of_command-requires c = search row_long

pub on_object-requires : goal.on_object-requires
on_object-requires c = (search rules, search told, search rules)

pub returns-in-OpenApplication : goal.returns-in-OpenApplication
returns-in-OpenApplication c = search opened_set

pub returns-in-CloseApplication : goal.returns-in-CloseApplication
returns-in-CloseApplication c = search closed_set

pub returns-in-Unknown : goal.returns-in-Unknown
returns-in-Unknown c = search unknown_set
