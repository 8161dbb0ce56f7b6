-- The field's bytes are those of the slot's.
use Rattle.answer.proofs.Answering.{value_small, room_for, expression_put, place_behind}
use Rattle.answer.proofs.put_expression.Goals as goal

pub put_field-requires : goal.put_field-requires
put_field-requires c = (search room_for, search value_small)

pub returns : goal.returns
returns c = (search expression_put, search place_behind)
