-- A list of counters gives its memory back: what stands behind it is 0.
use Rattle.std.specs.Prelude.{ℕ, List, ◌-◌, ◌≤◌, ◌≡◌, ◌++◌, length, take, drop}
use Rattle.std.proofs.Math.Path.{ap, sym, ◌∙◌}
use Rattle.std.proofs.Common.{take-append-drop, length-take-le}
use Rattle.rules.specs.Basic.{zeros}
use Rattle.rules.specs.Expression.{slot_size, most_conditions}

-- k numbers at the front of a memory
module _ (k : ℕ) (ns : List ℕ) (h : k ≤ length ns) where
  pub count_back : length (take k ns) ≡ k
  count_back = length-take-le k ns h

  pub numbers_back : drop k ns ≡ zeros (most_conditions slot_size - k) → take k ns ++ zeros (most_conditions slot_size - length (take k ns)) ≡ ns
  numbers_back z =
      ap (λ n. take k ns ++ zeros (most_conditions slot_size - n)) count_back
      ∙ ap (λ x. take k ns ++ x) (sym z)
      ∙ take-append-drop k ns
