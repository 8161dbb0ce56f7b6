-- Groups in the bytes of an expression.
use Rattle.std.specs.Prelude.{ℕ, Bool, ◌||◌, List, [], ◌∷◌, ◌++◌, eqb, ltb, length, get_or, if◌then◌else◌, Option, Some, None}
use Rattle.rules.specs.Expression.{Condition, names_counter, counter_number}
use Rattle.rules.specs.Access.{condition_counters}

-- the number of the counter that a condition names, if it names one
abbrev pub counter_named : Condition → Option ℕ
counter_named c = if names_counter c then Some (counter_number c) else None

-- a group ends with the condition in these bytes: FE joins it to the next group, or nothing follows
abbrev pub ends_group : List ℕ → Bool
ends_group b = ltb (length b) 4 || eqb (get_or b 3 0) 0xFE

-- the counters that the first group of these bytes names: FE ends it
unfoldable pub first_group : List ℕ → List ℕ
first_group (a ∷ b ∷ c ∷ j ∷ rest) =
    let later = first_group rest in
    condition_counters (record { subject = a; relation = b; reference = c }) ++ (if eqb j 0xFE then [] else later)
first_group (a ∷ b ∷ c ∷ []) = condition_counters (record { subject = a; relation = b; reference = c })
first_group (a ∷ b ∷ []) = []
first_group (a ∷ []) = []
first_group [] = []
