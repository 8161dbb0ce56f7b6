-- Words for the contracts about one record's bytes, made of the rules' words.
use Rattle.std.specs.Prelude.{ℕ, ◌+◌, ◌*◌, ◌-◌, Bool, true, not, ◌&&◌, List, [], ◌∷◌, eqb, leb, length, get_or, take, drop}
use Rattle.rules.specs.Basic.{all, joined, same, is_some, little_endian, little_endian_at}
use Rattle.rules.specs.Expression.{expression, expression_allowed, is_state}
use Rattle.rules.specs.declared.Kind.{Kind}
use Rattle.rules.specs.Object.{kind_number, read_kind, data_allowed, in_session, object_allowed}
use Rattle.rules.specs.Layout.{slot_size, slots_at, head_size, slot, record_bytes, read_slot, read_record}
use Rattle.primitives.specs.Bytes.{all_zero}

-- these bytes are the slot of an allowed expression
unfoldable pub is_slot : List ℕ → Bool
is_slot b = expression_allowed (read_slot b) && same (slot (read_slot b)) b

-- the bytes from a up to e
abbrev pub part : List ℕ → ℕ → ℕ → List ℕ
part b a e = take (e - a) (drop a b)

-- these bytes are an expression of n bytes in a slot, with zeros behind
unfoldable pub filled : ℕ → List ℕ → Bool
filled n b = is_some (expression (part b 1 (n + 1))) && all_zero (part b (n + 1) slot_size)

-- what the bytes of a record before its slots must say, where it has as many bytes as b
unfoldable pub head_allowed : List ℕ → Bool
head_allowed b =
    all
    (leb (head_size + 1) (length b) ∷
    eqb (little_endian_at 0 b) (length b) ∷
    not (in_session (little_endian_at 4 b)) ∷
    eqb (little_endian_at 6 b) (length b - head_size) ∷
    leb (little_endian_at 6 b) 1500 ∷
    leb (little_endian_at 8 b) (little_endian_at 6 b) ∷
    is_state (get_or b 10 0) ∷
    eqb (get_or b 11 0) 0 ∷ [])

-- the number is that of a kind which may have such data
unfoldable pub kind_allowed : ℕ → ℕ → List ℕ → Bool
kind_allowed n maximum content = eqb (kind_number (read_kind n)) n && data_allowed (read_kind n) maximum content

-- the three slots are slots
unfoldable pub slots_allowed : List ℕ → Bool
slots_allowed b =
    all
    (is_slot (part b slots_at (slots_at + slot_size)) ∷
    is_slot (part b (slots_at + slot_size) (slots_at + 2 * slot_size)) ∷
    is_slot (part b (slots_at + 2 * slot_size) head_size) ∷ [])

-- a slot stands at each of these places
abbrev pub slots_from : List ℕ → List ℕ → Bool
slots_from [] b = true
slots_from (k ∷ ks) b = is_slot (part b k (k + slot_size)) && slots_from ks b

-- what the others must say
unfoldable pub body_allowed : List ℕ → Bool
body_allowed b =
    all
    (kind_allowed (little_endian_at 2 b) (little_endian_at 6 b) (part b head_size (head_size + little_endian_at 8 b)) ∷
    slots_allowed b ∷
    all_zero (part b (head_size + little_endian_at 8 b) (length b)) ∷ [])

-- these bytes are the record of an allowed object
unfoldable pub is_record : List ℕ → Bool
is_record b = object_allowed (read_record b) && same (record_bytes (read_record b)) b

-- the first 12 bytes of a record, of these: kind, number, maximum, used, LcsO
unfoldable pub fixed : Kind → ℕ → ℕ → ℕ → ℕ → List ℕ
fixed k n m u st =
    joined (little_endian (head_size + m) ∷ little_endian (kind_number k) ∷ little_endian n ∷ little_endian m ∷ little_endian u ∷ (st ∷ 0 ∷ []) ∷ [])
