-- The queue's verdict, then the room.
use Rattle.rules.specs.Operation.{operation}
use Rattle.laws.proofs.Calls.{stopped_then, gone_on_then, handed_out}
use Rattle.judge.proofs.Judging.{acknowledge_judged}
use Rattle.judge.proofs.judge_acknowledge.Goals as goal

pub returns-in_err-judge_acknowledge : goal.returns-in_err-judge_acknowledge
returns-in_err-judge_acknowledge c =
    handed_out _ _ _ c.from_residual.ensures.1
    (stopped_then _ _ _ (acknowledge_judged c.args.command.now _ c.args.object.now _ c.sent_number.ensures c.in_err-judge_acknowledge.ensures))

pub returns : goal.returns
unfolding operation
returns c = gone_on_then _ _ _ (acknowledge_judged c.args.command.now _ c.args.object.now _ c.sent_number.ensures c.in_ok-judge_acknowledge.ensures) c.fitting.ensures
