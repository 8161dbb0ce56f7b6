-- What each call leaves is the object with this field.
use borrow.Author.Rules.{rules}
use Rattle.content.proofs.Storing.{state_there, state_sound, expression_sound, state_stored, expression_stored}
use Rattle.content.proofs.store_field.Goals as goal

pub bounds-field-0 : goal.bounds-field-0
bounds-field-0 c = search state_there

pub set_lcso-requires : goal.set_lcso-requires
set_lcso-requires c = (search rules, search state_sound)

pub returns-in-192 : goal.returns-in-192
returns-in-192 c = search state_stored

pub set_expression-requires : goal.set_expression-requires
set_expression-requires c = (search rules, search expression_sound)

pub returns-in_default : goal.returns-in_default
returns-in_default c = search expression_stored
