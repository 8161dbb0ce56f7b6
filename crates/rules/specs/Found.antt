-- Where the record of an object begins in the store, if it has one.
use Rattle.std.specs.Prelude.{ℕ, Option}

abbrev pub Found : Type 0
Found = Option ℕ
