-- At what the number names.
use mathlib.Core.Path.{◌≡◌}
use Rattle.std.specs.Prelude.{Some}
use Rattle.rules.specs.Refusals.{ruling_on}
use Rattle.judge.specs.declared.Target.TheVariants.{InSession, InStore}
use Rattle.judge.specs.Targets.{target_object}
use Rattle.judge.proofs.Judging.{at_target, counters_at, at_session, session_counters, nothing_named, record_stands}
use Rattle.judge.proofs.judge_target.Goals as goal

pub returns-in_default : goal.returns-in_default
unfolding target_object ruling_on
returns-in_default c = (search (at_target, nothing_named), search counters_at)

pub at-object-requires : goal.at-object-requires
at-object-requires c = let e : c.args.aim ≡ Some (InStore c.in-InStore.at) = cc in search record_stands

pub returns-in-InSession : goal.returns-in-InSession
unfolding target_object ruling_on
returns-in-InSession c =
    let e : c.args.aim ≡ Some (InSession c.in-InSession.field-0 c.in-InSession.kind c.in-InSession.byte) = cc in
    (search (at_target, at_session), search (counters_at, session_counters))

pub returns-in-InStore : goal.returns-in-InStore
unfolding target_object ruling_on
returns-in-InStore c =
    let e : c.args.aim ≡ Some (InStore c.in-InStore.at) = cc in
    let f = rw c.at-object.ensures at c.judge_stored.ensures in
    (at_target _ _ _ _ _ _ _ _ e f.0, counters_at _ _ _ _ _ _ _ e f.1)
