-- The cases of the remainder follow from its rules: antt computes the table.
use mathlib.Core.Bool.{Bool, true}
use mathlib.Core.List.{List}
use mathlib.Core.Path.{◌≡◌, refl}
use Rattle.rules.specs.Hex.{ascii, digits, pairs, hex}
use Rattle.remainder.specs.Remainder.{bit_step, eight_steps, entries, table, with_byte, remainder_from, remainder}
use Rattle.remainder.specs.Cases.{Case, right, all_right, remainder_cases}

-- `unfolding computed` opens every rule
unfoldable pub computed : List Case → Bool
unfolding ascii digits pairs hex bit_step eight_steps entries table with_byte remainder_from remainder right all_right remainder_cases
computed cs = all_right cs

pub remainder_cases_right : all_right remainder_cases ≡ true
unfolding computed
remainder_cases_right = refl
