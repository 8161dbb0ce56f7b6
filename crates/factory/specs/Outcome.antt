-- The outcome number of the maker.
use Rattle.std.specs.Prelude.{ℕ, Result, Ok, Err}
use Rattle.factory.specs.declared.WrongSize.{WrongSize}

abbrev pub outcome : Result Unit WrongSize → ℕ
outcome (Ok made) = 0
outcome (Err wrong_size) = 2
