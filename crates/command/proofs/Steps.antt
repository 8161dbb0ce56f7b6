-- The tests of the steps 2 to 8, from what the code reads.
use Prim.Native.Nat.{ℕ, ◌+◌, ◌*◌, ◌-◌, ◌≤◌}
use mathlib.Core.Path.{◌≡◌, refl, sym, ◌∙◌}
use mathlib.Core.List.{List, [], ◌∷◌}
use mathlib.Core.Bool.{Bool, true, false, not}
use native.Mathlib.Omega.{arith}
use borrow.Author.Rules.{part_to_end}
use lib.Dec.{eqb}
use lib.Pointwise.{pointwise}
use lib.ListN.{length, get_or, take, drop}
use Rattle.rules.specs.declared.Row.{Row}
use Rattle.rules.specs.declared.Row.TheVariants.{OnObject, OpenApplication, CloseApplication, Unknown}
use Rattle.rules.specs.declared.Sizes.{Sizes}
use Rattle.rules.specs.Basic.{same}
use Rattle.rules.specs.Command.{row, size_right, in_length, in_data, identifier}
use Rattle.rules.specs.Refusals.{ill_sized, wrong_length, wrong_content}
use Rattle.laws.proofs.Rows.{sized as in_length_told}
use Rattle.std.proofs.lemmas.Grind.{common_steps}
use Rattle.command.specs.Table.{row_sizes}
use Rattle.command.proofs.Table.{takes, sizes_alike, takes_alike}

-- 3 -----------------------------------------------------------------------------------------------------------------------

-- what a passed step 3 tells
pub sized : (c : List ℕ) (q : Bool) → q ≡ ill_sized c → q ≡ false → 4 ≤ length c
sized c q e h = omega (arith, in_length_told c (sym e ∙ h))

-- 6, 7 --------------------------------------------------------------------------------------------------------------------

pub length_told : (c : List ℕ) (w : Row) (z : Sizes) (n : ℕ) (q : Bool) → w ≡ row c → z ≡ row_sizes w → n ≡ 256 * get_or c 2 0 + get_or c (2 + 1) 0 →
    q ≡ size_right z n → not q ≡ wrong_length c
unfolding wrong_length in_length
length_told c w z n q e f g h = cc (sizes_alike c)

-- 8 -----------------------------------------------------------------------------------------------------------------------

eqb_sym : (a b : ℕ) → eqb a b ≡ eqb b a
eqb_sym a b = grind (arith, common_steps)

-- what the library compares is what the rules compare
alike : (a b : List ℕ) → pointwise eqb a b ≡ same b a
unfolding same
alike [] [] = refl
alike [] (y ∷ b) = refl
alike (x ∷ a) [] = refl
alike (x ∷ a) (y ∷ b) = rw (alike a b, eqb_sym x y)

pub opens_with : (c d : List ℕ) (w : Row) (q : Bool) → w ≡ row c → w ≡ OpenApplication → q ≡ not (pointwise eqb (take (length c - 4) (drop 4 c)) d) →
    d ≡ identifier → q ≡ wrong_content c
unfolding wrong_content in_data
opens_with c d w q e h f g = cc (takes_alike c (drop 4 c), part_to_end c 4, alike (take (length c - 4) (drop 4 c)) d)

-- any content will do for another row
any_taken : (r : Row) (b : List ℕ) → (r ≡ OpenApplication → ⊥) → takes r b ≡ true
any_taken (OnObject a) b h = refl
any_taken OpenApplication b h = absurd (h refl)
any_taken CloseApplication b h = refl
any_taken Unknown b h = refl

pub no_content : (c : List ℕ) (w : Row) → w ≡ row c → (w ≡ OpenApplication → ⊥) → false ≡ wrong_content c
unfolding wrong_content
no_content c w e h = cc (takes_alike c (in_data c), any_taken (row c) (in_data c) (λ z. h (e ∙ z)))
