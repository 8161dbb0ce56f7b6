use Rattle.std.proofs.Common.{◌≡◌, ◌++◌, ◌≤◌, ◌<◌, length, ◌+◌, ◌*◌, ◌%◌}
use Rattle.std.specs.Slice.Iter.{chunks_rest, chunks_size}
use Rattle.rules.specs.Expression.{read_expression}
use Rattle.rules.specs.Access.{seen_in, grant}
use Rattle.access.specs.Groups.{first_group}
use Rattle.access.proofs.Granting.{rest_grant}
use Rattle.access.proofs.Sight.deciding_group.Given as goal

abbrev pub invariant-loop-condition : goal.invariant-loop-condition
invariant-loop-condition l =
    (goal.iterator-loop-condition).can_next l.condition-iterator
    × (goal.iterator-loop-condition).is_finite l.condition-iterator
    × (chunks_size l.condition-iterator ≡ 4)
    × (0 < length (chunks_rest l.condition-iterator) → length (chunks_rest l.condition-iterator) % 4 ≡ 3)
    × (4 * length l.counters + length (chunks_rest l.condition-iterator) ≤ 27)
    × (grant (seen_in l.self.store.now l.self.session) l.self.lcso (read_expression l.part)
    ≡ rest_grant (seen_in l.self.store.now l.self.session) l.self.lcso l.held (l.counters ++ first_group (chunks_rest l.condition-iterator)) (chunks_rest l.condition-iterator))
