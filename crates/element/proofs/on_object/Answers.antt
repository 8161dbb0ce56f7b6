-- `element::on_object` meets its contract.
use Rattle.element.proofs.Whole.{told, accepted_sound, refused_late, accepted_late}
use Rattle.command.proofs.InForm.{action_in_full, action_body, object_long}
use borrow.Author.Rules.{rules}
use Rattle.element.proofs.on_object.Goals as goal

pub find_target-aim-requires : goal.find_target-aim-requires
find_target-aim-requires c = (search object_long, search accepted_sound)

pub judge_target-judgment-requires : goal.judge_target-judgment-requires
judge_target-judgment-requires c = (search action_in_full, search accepted_sound, search rules)

pub perform-requires : goal.perform-requires
perform-requires c = (search action_in_full, search action_body, search accepted_sound, search rules, told c.judge_target-judgment.ensures.0 (search rules), search rules)

pub returns-in-Err : goal.returns-in-Err
returns-in-Err c = search refused_late

pub returns-in-Ok : goal.returns-in-Ok
returns-in-Ok c = search accepted_late
