-- What a judgment says of a ruling of the rules.
use Rattle.std.specs.Prelude.{ℕ, ◌≡◌}
use Rattle.rules.specs.Refusals.{Ruling, late}
use Rattle.judge.specs.declared.Judgment.{Judgment}

-- its verdict, with a room of this size, and the counters that it uses up
abbrev pub Judges : Judgment → Ruling → ℕ → Type 0
Judges j r room = (j.verdict ≡ late r room) × (j.counters ≡ r.counters)
