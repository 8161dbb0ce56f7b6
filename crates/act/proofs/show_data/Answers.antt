-- `act::show_data` meets its contract.
use Rattle.act.proofs.Doing.{shown_within, shown_fits, shown_small, data_answered}
use Rattle.act.proofs.show_data.Goals as goal

pub data-requires : goal.data-requires
data-requires c = shown_within _ c.args.object.now _ _ _ _ c.offset-from.ensures c.asked_length-asked.ensures c.used.ensures.value c.shown_length-count.ensures c.requires.1

pub answer-requires : goal.answer-requires
answer-requires c = (
  shown_fits _ c.args.object.now _ _ _ _ c.offset-from.ensures c.asked_length-asked.ensures c.used.ensures.value c.shown_length-count.ensures _
      c.data.ensures.bytes _ c.requires.2,
  shown_small _ c.args.object.now _ _ _ _ c.offset-from.ensures c.asked_length-asked.ensures c.used.ensures.value c.shown_length-count.ensures _
      c.data.ensures.bytes c.used.ensures.small,
)

pub returns : goal.returns
returns c =
    data_answered _ c.args.object.now _ _ _ _ c.offset-from.ensures c.asked_length-asked.ensures c.used.ensures.value c.shown_length-count.ensures _
    c.data.ensures.bytes _ _ c.answer.ensures
