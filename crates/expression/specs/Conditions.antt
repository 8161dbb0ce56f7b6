-- Words for the contracts about conditions, made of the rules' words.
use Rattle.std.specs.Prelude.{ℕ, ◌+◌, ◌-◌, ◌&&◌, List, Option, Some, None, eqb, ltb, get_or, if◌then◌else◌}
use Rattle.rules.specs.Expression.{Condition}

-- the condition of the three bytes at k
unfoldable pub condition_at : ℕ → List ℕ → Condition
condition_at k b = record { subject = get_or b k 0; relation = get_or b (k + 1) 0; reference = get_or b (k + 2) 0 }

-- of g groups that may come, the present one counted, those that may come from the joining byte j on; none where j does not join, or begins one too many
unfoldable pub groups_after : ℕ → ℕ → Option ℕ
groups_after j g = if eqb j 0xFD then Some g else (if eqb j 0xFE && ltb 1 g then Some (g - 1) else None)
