-- The lent data part comes back with one fare more, before its count of used bytes.
use mathlib.Core.Path.{◌≡◌}
use Rattle.rules.specs.Object.{used}
use Rattle.record.specs.Places.{object_at}
use Rattle.fares.proofs.Parts.{append_holds, append_inside, append_body, append_number, append_by}
use Rattle.fares.proofs.append.Goals as goal

pub append-then-requires : goal.append-then-requires
append-then-requires c =
    let used_there : c.used-used.result.0 ≡ used (object_at c.args.at c.args.store.now) = rw c.at.ensures at c.used-used.ensures.value in
    (search append_holds, search append_inside, search append_body, search append_number)

pub returns : goal.returns
returns c =
    let used_there : c.used-used.result.0 ≡ used (object_at c.args.at c.args.store.now) = rw c.at.ensures at c.used-used.ensures.value in
    search append_by
