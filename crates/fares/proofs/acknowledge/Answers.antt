-- The lent data part comes back with the fares that are left, before its count of used bytes.
use mathlib.Core.Path.{◌≡◌}
use Rattle.rules.specs.Object.{used}
use Rattle.record.specs.Places.{object_at}
use borrow.Author.Rules.{rules}
use Rattle.fares.proofs.Parts.{acknowledge_holds, acknowledge_present, acknowledge_small, acknowledge_by}
use Rattle.fares.proofs.acknowledge.Goals as goal

pub acknowledge-left-requires : goal.acknowledge-left-requires
acknowledge-left-requires c =
    let used_there : c.used-used.result.0 ≡ used (object_at c.args.at c.args.store.now) = rw c.at.ensures at c.used-used.ensures.value in
    (search acknowledge_holds, search acknowledge_present)

pub set_used-requires : goal.set_used-requires
set_used-requires c =
    let used_there : c.used-used.result.0 ≡ used (object_at c.args.at c.args.store.now) = rw c.at.ensures at c.used-used.ensures.value in
    (search rules, search acknowledge_small)

pub returns : goal.returns
returns c =
    let used_there : c.used-used.result.0 ≡ used (object_at c.args.at c.args.store.now) = rw c.at.ensures at c.used-used.ensures.value in
    search acknowledge_by
