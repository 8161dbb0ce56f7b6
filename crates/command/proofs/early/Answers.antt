-- Each step refuses, or the later ones decide.
use Rattle.rules.specs.Refusals.{early}
use Rattle.laws.proofs.Calls.{stopped, passed_by, gone_on, handed_out}
use Rattle.command.proofs.Steps.{sized}
use Rattle.command.proofs.early.Goals as goal

pub returns-in_err-refuse_if : goal.returns-in_err-refuse_if
unfolding early
returns-in_err-refuse_if c =
    handed_out _ _ _ c.from_residual.ensures.1
    (stopped _ _ _ _ _ c.unsound.ensures c.in_err-refuse_if.ensures)

pub returns-in_err-refuse_if-2 : goal.returns-in_err-refuse_if-2
unfolding early
returns-in_err-refuse_if-2 c =
    handed_out _ _ _ c.from_residual-in_err-refuse_if-2.ensures.1
    (gone_on _ _ _ _ _ c.unsound.ensures c.in_ok-refuse_if.ensures (stopped _ _ _ _ _ c.ill_sized.ensures c.in_err-refuse_if-2.ensures))

pub returns-in_err-refuse_if-3 : goal.returns-in_err-refuse_if-3
unfolding early
returns-in_err-refuse_if-3 c =
    handed_out _ _ _ c.from_residual-in_err-refuse_if-3.ensures.1
    (gone_on _ _ _ _ _ c.unsound.ensures c.in_ok-refuse_if.ensures (gone_on _ _ _ _ _ c.ill_sized.ensures c.in_ok-refuse_if-2.ensures (stopped _ _ _ _ _ c.unknown_cmd.ensures c.in_err-refuse_if-3.ensures)))

pub returns-in_err-refuse_if-4 : goal.returns-in_err-refuse_if-4
unfolding early
returns-in_err-refuse_if-4 c =
    handed_out _ _ _ c.from_residual-in_err-refuse_if-4.ensures.1
    (gone_on _ _ _ _ _ c.unsound.ensures c.in_ok-refuse_if.ensures (gone_on _ _ _ _ _ c.ill_sized.ensures c.in_ok-refuse_if-2.ensures (gone_on _ _ _ _ _ c.unknown_cmd.ensures c.in_ok-refuse_if-3.ensures (stopped _ _ _ _ _ c.unusable.ensures c.in_err-refuse_if-4.ensures))))

pub returns-in_err-refuse_if-5 : goal.returns-in_err-refuse_if-5
unfolding early
returns-in_err-refuse_if-5 c =
    handed_out _ _ _ c.from_residual-in_err-refuse_if-5.ensures.1
    (gone_on _ _ _ _ _ c.unsound.ensures c.in_ok-refuse_if.ensures (gone_on _ _ _ _ _ c.ill_sized.ensures c.in_ok-refuse_if-2.ensures (gone_on _ _ _ _ _ c.unknown_cmd.ensures c.in_ok-refuse_if-3.ensures (gone_on _ _ _ _ _ c.unusable.ensures c.in_ok-refuse_if-4.ensures (stopped _ _ _ _ _ c.unknown_param.ensures c.in_err-refuse_if-5.ensures)))))

pub returns-in_err-refuse_if-6 : goal.returns-in_err-refuse_if-6
unfolding early
returns-in_err-refuse_if-6 c =
    handed_out _ _ _ c.from_residual-in_err-refuse_if-6.ensures.1
    (gone_on _ _ _ _ _ c.unsound.ensures c.in_ok-refuse_if.ensures (gone_on _ _ _ _ _ c.ill_sized.ensures c.in_ok-refuse_if-2.ensures (gone_on _ _ _ _ _ c.unknown_cmd.ensures c.in_ok-refuse_if-3.ensures (gone_on _ _ _ _ _ c.unusable.ensures c.in_ok-refuse_if-4.ensures (gone_on _ _ _ _ _ c.unknown_param.ensures c.in_ok-refuse_if-5.ensures (stopped _ _ _ _ _ c.wrong_length.ensures c.in_err-refuse_if-6.ensures))))))

pub unknown_cmd-requires : goal.unknown_cmd-requires
unknown_cmd-requires c = sized c.args.command.now _ c.ill_sized.ensures (passed_by _ _ c.in_ok-refuse_if-2.ensures)

pub unusable-requires : goal.unusable-requires
unusable-requires c = sized c.args.command.now _ c.ill_sized.ensures (passed_by _ _ c.in_ok-refuse_if-2.ensures)

pub unknown_param-requires : goal.unknown_param-requires
unknown_param-requires c = sized c.args.command.now _ c.ill_sized.ensures (passed_by _ _ c.in_ok-refuse_if-2.ensures)

pub wrong_length-requires : goal.wrong_length-requires
wrong_length-requires c = sized c.args.command.now _ c.ill_sized.ensures (passed_by _ _ c.in_ok-refuse_if-2.ensures)

pub wrong_content-requires : goal.wrong_content-requires
wrong_content-requires c = sized c.args.command.now _ c.ill_sized.ensures (passed_by _ _ c.in_ok-refuse_if-2.ensures)

pub returns : goal.returns
unfolding early
returns c =
    (gone_on _ _ _ _ _ c.unsound.ensures c.in_ok-refuse_if.ensures (gone_on _ _ _ _ _ c.ill_sized.ensures c.in_ok-refuse_if-2.ensures (gone_on _ _ _ _ _ c.unknown_cmd.ensures c.in_ok-refuse_if-3.ensures (gone_on _ _ _ _ _ c.unusable.ensures c.in_ok-refuse_if-4.ensures (gone_on _ _ _ _ _ c.unknown_param.ensures c.in_ok-refuse_if-5.ensures (gone_on _ _ _ _ _ c.wrong_length.ensures c.in_ok-refuse_if-6.ensures (rw c.wrong_content.ensures at c.refuse_if-7.ensures)))))))
