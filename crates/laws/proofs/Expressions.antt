-- The bytes of an expression read back as that expression, and how long they are.
use Prim.Native.Nat.{ℕ, ◌+◌, ◌*◌, ◌≤◌}
use mathlib.Core.Bool.{true, false, and-false}
use mathlib.Core.List.{List, [], ◌∷◌, ◌++◌}
use mathlib.Core.Path.{◌≡◌, refl, ap, ◌∙◌}
use native.Mathlib.Omega.{arith}
use lib.Dec.{eqb}
use borrow.Author.Tests.{leb-true}
use lib.ListN.{length, length-append}
use mathlib.Core.Option.{some}
use Rattle.rules.specs.Basic.{same}
use Rattle.laws.proofs.Tests.{at_place, same_refl, read_checked}
use Rattle.rules.specs.Expression.{Group, just, ◌and◌, Groups, only, ◌or◌, Expression, always, never, when, condition_bytes, group_bytes, groups_bytes, expression_bytes, in_first, read_groups, read_expression, group_size, conditions, slot_size, most_conditions, expression_allowed_with, expression_allowed, expression_with, expression}

-- reading back --------------------------------------------------------------------------------------------------------

read_group : (g : Group) → read_groups (group_bytes g) ≡ only g
unfolding read_groups group_bytes condition_bytes in_first
read_group (just c) = refl
read_group (c and g) = rw (read_group g)

read_group_or : (g : Group) (b : List ℕ) → read_groups (group_bytes g ++ 0xFE ∷ b) ≡ (g or read_groups b)
unfolding read_groups group_bytes condition_bytes in_first
read_group_or (just c) b = refl
read_group_or (c and g) b = rw (read_group_or g b)

read_groups_bytes : (gs : Groups) → read_groups (groups_bytes gs) ≡ gs
unfolding groups_bytes
read_groups_bytes (only g) = read_group g
read_groups_bytes (g or gs) = read_group_or g (groups_bytes gs) ∙ ap (λ x. g or x) (read_groups_bytes gs)

-- length --------------------------------------------------------------------------------------------------------------

group_length : (g : Group) → length (group_bytes g) + 1 ≡ 4 * group_size g
unfolding group_bytes group_size condition_bytes
group_length (just c) = refl
group_length (c and g) = omega (arith, group_length g)

pub groups_length : (gs : Groups) → length (groups_bytes gs) + 1 ≡ 4 * conditions gs
unfolding groups_bytes conditions
groups_length (only g) = group_length g
groups_length (g or gs) = omega (arith, group_length g, groups_length gs, length-append (group_bytes g) (0xFE ∷ groups_bytes gs))

-- what is allowed fits behind its length, in a slot of any size from two bytes on
pub expression_length_with : (slot : ℕ) → 2 ≤ slot → (e : Expression) → expression_allowed_with slot e ≡ true → length (expression_bytes e) + 1 ≤ slot
unfolding expression_allowed_with expression_bytes
expression_length_with slot l always h = omega arith
expression_length_with slot l never h = omega arith
expression_length_with slot l (when gs) h = omega (arith, groups_length gs, leb-true (conditions gs) (most_conditions slot) (at_place _ h 1))

pub expression_length : (e : Expression) → expression_allowed e ≡ true → length (expression_bytes e) + 1 ≤ slot_size
expression_length = expression_length_with slot_size (omega arith)

-- an expression of groups has at least three bytes, so it is neither 00 nor FF
same_one : (b : List ℕ) (x : ℕ) → 2 ≤ length b → same b (x ∷ []) ≡ false
unfolding same
same_one [] x h = absurd (omega arith)
same_one (y ∷ []) x h = absurd (omega arith)
same_one (y ∷ z ∷ b) x h = and-false (eqb y x)

pub groups_two : (gs : Groups) → 1 ≤ conditions gs
groups_two gs = omega (arith, groups_length gs)

pub read_bytes : (e : Expression) → read_expression (expression_bytes e) ≡ e
unfolding read_expression expression_bytes
read_bytes always = unfold same in refl
read_bytes never = unfold same in refl
read_bytes (when gs) =
    let h : 2 ≤ length (groups_bytes gs) = omega (arith, groups_length gs, groups_two gs) in
    rw (same_one (groups_bytes gs) 0x00 h, same_one (groups_bytes gs) 0xFF h, read_groups_bytes gs)

-- the two theorems ----------------------------------------------------------------------------------------------------

pub expression_back_with : (slot : ℕ) (e : Expression) → expression_allowed_with slot e ≡ true → expression_with slot (expression_bytes e) ≡ some e
unfolding expression_with
expression_back_with slot e h = rw (read_bytes e, h, same_refl (expression_bytes e))

pub expression_read_with : (slot : ℕ) (b : List ℕ) (e : Expression) → expression_with slot b ≡ some e →
    (expression_bytes e ≡ b) × (expression_allowed_with slot e ≡ true)
unfolding expression_with
expression_read_with slot b e h = read_checked (expression_allowed_with slot) expression_bytes b (read_expression b) e h

-- with the present slots
pub expression_back : (e : Expression) → expression_allowed e ≡ true → expression (expression_bytes e) ≡ some e
expression_back = expression_back_with slot_size

pub expression_read : (b : List ℕ) (e : Expression) → expression b ≡ some e → (expression_bytes e ≡ b) × (expression_allowed e ≡ true)
expression_read = expression_read_with slot_size
