-- The kind, the boundary, the state that comes.
use mathlib.Core.Bool.{not}
use mathlib.Core.Path.{ap}
use Rattle.laws.proofs.Calls.{stopped, gone_on, handed_out}
use Rattle.judge.proofs.Judging.{sent_within, becomes}
use Rattle.judge.proofs.judge_state.Goals as goal

pub returns-in_err-refuse_if : goal.returns-in_err-refuse_if
returns-in_err-refuse_if c = handed_out _ _ _ c.from_residual.ensures.1 (stopped _ _ _ _ _ (ap not c.is_life_cycle.ensures) c.in_err-refuse_if.ensures)

pub returns-in_err-refuse_if-2 : goal.returns-in_err-refuse_if-2
returns-in_err-refuse_if-2 c =
    let within = sent_within _ _ _ _ _ c.offset.ensures c.sent_data-data.ensures c.fits-within.ensures in
    handed_out _ _ _ c.from_residual-in_err-refuse_if-2.ensures.1
    (gone_on _ _ _ _ _ (ap not c.is_life_cycle.ensures) c.in_ok-refuse_if.ensures
    (stopped _ _ _ _ _ (ap not within) c.in_err-refuse_if-2.ensures))

pub returns-in_err-refuse_if-3 : goal.returns-in_err-refuse_if-3
returns-in_err-refuse_if-3 c =
    let within = sent_within _ _ _ _ _ c.offset.ensures c.sent_data-data.ensures c.fits-within.ensures in
    handed_out _ _ _ c.from_residual-in_err-refuse_if-3.ensures.1
    (gone_on _ _ _ _ _ (ap not c.is_life_cycle.ensures) c.in_ok-refuse_if.ensures
    (gone_on _ _ _ _ _ (ap not within) c.in_ok-refuse_if-2.ensures
    (stopped _ _ _ _ _ (ap not (becomes c.args.command.now _ _ c.may_become-becomes.ensures)) c.in_err-refuse_if-3.ensures)))

pub returns : goal.returns
returns c =
    let within = sent_within _ _ _ _ _ c.offset.ensures c.sent_data-data.ensures c.fits-within.ensures in
    gone_on _ _ _ _ _ (ap not c.is_life_cycle.ensures) c.in_ok-refuse_if.ensures
    (gone_on _ _ _ _ _ (ap not within) c.in_ok-refuse_if-2.ensures
    (gone_on _ _ _ _ _ (ap not (becomes c.args.command.now _ _ c.may_become-becomes.ensures)) c.in_ok-refuse_if-3.ensures
    c.fitting.ensures))
