-- `element::perform` meets its contract.
use mathlib.Core.Path.{◌≡◌}
use Rattle.std.specs.Prelude.{Some}
use Rattle.judge.specs.declared.Target.TheVariants.{InSession, InStore}
use Rattle.element.proofs.Whole.{session_may, record_may, nothing_late, session_done, act_sound, record_done}
use Rattle.judge.proofs.Judging.{record_stands}
use borrow.Author.Rules.{rules}
use Rattle.element.proofs.perform.Goals as goal

pub returns-in_default : goal.returns-in_default
returns-in_default c = absurd (search nothing_late)

pub act_in_session-requires : goal.act_in_session-requires
act_in_session-requires c =
    let e : c.args.aim ≡ Some (InSession c.in-InSession.number c.in-InSession.field-1 c.in-InSession.byte) = cc in
    (search rules, search session_may)

pub act_on_record-requires : goal.act_on_record-requires
act_on_record-requires c =
    let e : c.args.aim ≡ Some (InStore c.in-InStore.at) = cc in
    (search record_stands, search rules, search record_may)

pub use_up-requires : goal.use_up-requires
use_up-requires c =
    let e : c.args.aim ≡ Some (InStore c.in-InStore.at) = cc in
    search act_sound

pub returns-in-InSession : goal.returns-in-InSession
returns-in-InSession c =
    let e : c.args.aim ≡ Some (InSession c.in-InSession.number c.in-InSession.field-1 c.in-InSession.byte) = cc in
    search session_done

pub returns-in-InStore : goal.returns-in-InStore
returns-in-InStore c =
    let e : c.args.aim ≡ Some (InStore c.in-InStore.at) = cc in
    search record_done
