-- The fields of an answer, part by part.
use Rattle.std.specs.Prelude.{ℕ, ◌+◌, ◌-◌, ◌≤◌, ◌≡◌, List, [], ◌∷◌, length}
use Rattle.rules.specs.declared.Slot.{Slot}
use Rattle.rules.specs.declared.Slot.TheVariants.{Change, Read, Execute}
use Rattle.rules.specs.Basic.{big_endian}
use Rattle.rules.specs.Expression.{expression_bytes}
use Rattle.rules.specs.Object.{Object, used, expression_in}
use Rattle.rules.specs.Metadata.{Field, field, fields_bytes, metadata}

-- LcsO, maximum and used
unfoldable pub state_and_sizes : Object → List Field
state_and_sizes o = field 0xC0 (o.lcso ∷ []) ∷ field 0xC4 (big_endian o.maximum) ∷ field 0xC5 (big_endian (used o)) ∷ []

-- 20 and L, then those three: the first bytes of an answer of n bytes
abbrev pub front_bytes : ℕ → Object → List ℕ
front_bytes n o = 0x20 ∷ (n - 2) ∷ fields_bytes (state_and_sizes o)

-- the tag of the expression in a slot
abbrev pub slot_tag : Slot → ℕ
slot_tag Change = 0xD0
slot_tag Read = 0xD1
slot_tag Execute = 0xD3

unfoldable pub slot_field : Slot → Object → Field
slot_field s o = field (slot_tag s) (expression_bytes (expression_in s o))

-- the answer has n bytes: 20 and L, those of the state and the sizes, and those of the slots; L fits one byte
pub record Sized (o : Object) (n : ℕ) : Type 0 where
  pub is : n ≡ length (metadata o)
  pub parts : n ≡ 13 + length (fields_bytes (slot_field Change o ∷ [])) + length (fields_bytes (slot_field Read o ∷ [])) + length (fields_bytes (slot_field Execute o ∷ []))
  pub most : n ≤ 257
