-- What a command is that passed the steps 2 to 8.
use Rattle.std.specs.Prelude.{ℕ, ◌-◌, ◌≤◌, Bool, true, false, List, ◌≡◌, length}
use Rattle.rules.specs.declared.Session.{Session}
use Rattle.rules.specs.Command.{row, in_length, is_unknown}
use Rattle.rules.specs.Expression.{is_state}
use Rattle.rules.specs.Refusals.{unusable, wrong_length, wrong_content}

-- `sound`: the store is not malformed
pub record InForm (sound : Bool) (c : List ℕ) (s : Session) : Type 0 where
  pub well_formed : sound ≡ true
  pub lcsg_state : is_state s.lcsg ≡ true
  pub lcsa_state : is_state s.lcsa ≡ true
  pub at_least : 4 ≤ length c
  pub at_most : length c ≤ 1557
  pub in_length_told : in_length c ≡ length c - 4
  pub usable : unusable c s ≡ false
  pub known_row : is_unknown (row c) ≡ false
  pub right_length : wrong_length c ≡ false
  pub right_content : wrong_content c ≡ false
