-- Life cycles and access expressions: their form, their bytes, their limits. When they hold is in Access.
use Rattle.std.specs.Prelude.{ℕ, ◌+◌, ◌*◌, ◌/◌, Bool, true, ◌&&◌, ◌||◌, List, [], ◌∷◌, ◌++◌, eqb, leb, if◌then◌else◌}
use Rattle.std.proofs.Math.Option.{Option, none, some}
use Rattle.rules.specs.Basic.{all, among, same}

-- States: 01 creation, 03 initialisation, 07 operational, 0F termination
unfoldable pub is_state : ℕ → Bool
is_state n = among (0x01 ∷ 0x03 ∷ 0x07 ∷ 0x0F ∷ []) n

-- a life cycle at `now` may become `next`: one of the four states, and not below
unfoldable pub may_become : ℕ → ℕ → Bool
may_become now next = is_state next && leb now next

-- A single condition is three bytes: 70 LcsG, E0 LcsA or E1 LcsO; then FA equal, FB greater, FC less; then a state. Or 40 and the number of an
-- up counter, most significant byte first.
pub record Condition : Type 0 where
  pub subject : ℕ
  pub relation : ℕ
  pub reference : ℕ

infixr 50 ◌and◌
infixr 45 ◌or◌
-- conditions joined by and
pub data Group : Type 0 where
  just : Condition → Group
  ◌and◌ : Condition → Group → Group

-- groups joined by or
pub data Groups : Type 0 where
  only : Group → Groups
  ◌or◌ : Group → Groups → Groups

-- the one byte 00 (always), the one byte FF (never), or conditions joined by FD (and) and FE (or); and binds first
pub data Expression : Type 0 where
  always never : Expression
  when : Groups → Expression

-- bytes -------------------------------------------------------------------------------------------------------------

unfoldable pub condition_bytes : Condition → List ℕ
condition_bytes c = c.subject ∷ c.relation ∷ c.reference ∷ []

unfoldable pub group_bytes : Group → List ℕ
group_bytes (just c) = condition_bytes c
group_bytes (c and g) = condition_bytes c ++ 0xFD ∷ group_bytes g

unfoldable pub groups_bytes : Groups → List ℕ
groups_bytes (only g) = group_bytes g
groups_bytes (g or gs) = group_bytes g ++ 0xFE ∷ groups_bytes gs

unfoldable pub expression_bytes : Expression → List ℕ
expression_bytes always = 0x00 ∷ []
expression_bytes never = 0xFF ∷ []
expression_bytes (when gs) = groups_bytes gs

-- limits ------------------------------------------------------------------------------------------------------------

-- a condition on a counter, and that counter's number
unfoldable pub names_counter : Condition → Bool
names_counter c = eqb c.subject 0x40

unfoldable pub counter_number : Condition → ℕ
counter_number c = 256 * c.relation + c.reference

-- behind 40 any two bytes are well formed
unfoldable pub condition_allowed : Condition → Bool
condition_allowed c =
    names_counter c ||
    all
    (among (0x70 ∷ 0xE0 ∷ 0xE1 ∷ []) c.subject ∷
    among (0xFA ∷ 0xFB ∷ 0xFC ∷ []) c.relation ∷
    is_state c.reference ∷ [])

unfoldable pub group_allowed : Group → Bool
group_allowed (just c) = condition_allowed c
group_allowed (c and g) = condition_allowed c && group_allowed g

unfoldable pub groups_allowed : Groups → Bool
groups_allowed (only g) = group_allowed g
groups_allowed (g or gs) = group_allowed g && groups_allowed gs

unfoldable pub group_size : Group → ℕ
group_size (just c) = 1
group_size (c and g) = 1 + group_size g

unfoldable pub conditions : Groups → ℕ
conditions (only g) = group_size g
conditions (g or gs) = group_size g + conditions gs

unfoldable pub groups : Groups → ℕ
groups (only g) = 1
groups (g or gs) = 1 + groups gs

-- the size of the slot that holds an expression in a record: its length in one byte, and its bytes
abbrev pub slot_size : ℕ
slot_size = 28

-- k conditions take 4k - 1 bytes, so that as many fit a slot of this size
abbrev pub most_conditions : ℕ → ℕ
most_conditions slot = slot / 4

abbrev pub most_groups : ℕ
most_groups = 3

-- at most as many conditions in all as fit the slot, at most 3 groups
unfoldable pub expression_allowed_with : ℕ → Expression → Bool
expression_allowed_with slot always = true
expression_allowed_with slot never = true
expression_allowed_with slot (when gs) =
    all (groups_allowed gs ∷ leb (conditions gs) (most_conditions slot) ∷ leb (groups gs) most_groups ∷ [])

-- with the present slots: at most 7 conditions
abbrev pub expression_allowed : Expression → Bool
expression_allowed = expression_allowed_with slot_size

-- reading -----------------------------------------------------------------------------------------------------------

-- a condition before what follows it: FD puts it into the first group, any other byte into a group of its own
unfoldable pub in_first : Condition → Groups → Groups
in_first c (only g) = only (c and g)
in_first c (g or gs) = (c and g) or gs

-- the only groups that these bytes can be; what is not their bytes is caught by `expression` below
unfoldable pub read_groups : List ℕ → Groups
read_groups (a ∷ b ∷ c ∷ j ∷ rest) =
    let k : Condition = record { subject = a; relation = b; reference = c } in
    let gs = read_groups rest in
    if eqb j 0xFD then in_first k gs else just k or gs
read_groups (a ∷ b ∷ c ∷ []) = only (just (record { subject = a; relation = b; reference = c }))
read_groups (a ∷ b ∷ []) = only (just (record { subject = a; relation = b; reference = 0 }))
read_groups (a ∷ []) = only (just (record { subject = a; relation = 0; reference = 0 }))
read_groups [] = only (just (record { subject = 0; relation = 0; reference = 0 }))

unfoldable pub read_expression : List ℕ → Expression
read_expression b =
    if same b (0x00 ∷ []) then always else
    (if same b (0xFF ∷ []) then never else
    when (read_groups b))

-- the expression whose bytes these are, within the limits of a slot of this size; none: not well formed
unfoldable pub expression_with : ℕ → List ℕ → Option Expression
expression_with slot b =
    let e = read_expression b in
    if expression_allowed_with slot e && same (expression_bytes e) b then some e else none

abbrev pub expression : List ℕ → Option Expression
expression = expression_with slot_size
