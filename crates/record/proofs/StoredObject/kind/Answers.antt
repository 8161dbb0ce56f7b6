-- The number that stands there is that of a record's kind.
use mathlib.Core.Path.{◌∙◌}
use Rattle.std.proofs.Common.{rules}
use Rattle.record.proofs.Parts.{told_allowed, kind_told}
use Rattle.record.proofs.StoredObject.kind.Goals as goal

pub unreachable-requires : goal.unreachable-requires
unreachable-requires c =
    c.in_default.not-Ok _ (c.try_from.ensures ∙ kind_told _ _ _ c.self.view_is c.self.invariant _ c.little_endian_at-number.ensures)

pub returns : goal.returns
returns c =
    record {
      value = search (kind_told _ _ _ c.self.view_is c.self.invariant _ c.little_endian_at-number.ensures, rules);
      allowed = told_allowed _ _ _ c.self.view_is c.self.invariant;
    }
