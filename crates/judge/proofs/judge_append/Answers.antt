-- The queue's verdict, then the room.
use Rattle.rules.specs.Operation.{operation}
use Rattle.laws.proofs.Calls.{stopped_then, gone_on_then, handed_out}
use Rattle.judge.proofs.Judging.{append_judged}
use Rattle.judge.proofs.judge_append.Goals as goal

pub returns-in_err-judge_append : goal.returns-in_err-judge_append
returns-in_err-judge_append c =
    handed_out _ _ _ c.from_residual.ensures.1
    (stopped_then _ _ _ (append_judged c.args.command.now _ c.args.object.now _ c.sent_body.ensures c.in_err-judge_append.ensures))

pub returns : goal.returns
unfolding operation
returns c = gone_on_then _ _ _ (append_judged c.args.command.now _ c.args.object.now _ c.sent_body.ensures c.in_ok-judge_append.ensures) c.fitting.ensures
