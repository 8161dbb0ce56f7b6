-- What a grant says, in the words of the rules: the counters that it uses up, if it is one.
use Rattle.std.specs.Prelude.{ℕ, List, [], true, false, Option, Some, None}
use Rattle.rules.specs.Access.{Grant, grant_if}

abbrev pub told : Option (List ℕ) → Grant
told None = grant_if false []
told (Some ns) = grant_if true ns
