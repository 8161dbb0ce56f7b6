-- The store's bytes: `pack` lays objects out as records end to end, `unpack` reads them back. What is not the packing of
-- allowed objects is malformed. All of it over the size of a slot, then with the present one.
use Rattle.std.specs.Prelude.{ℕ, zero, suc, ◌+◌, ◌*◌, ◌-◌, Bool, ◌&&◌, List, [], ◌∷◌, ◌++◌, map, eqb, leb, length, get_or, take, drop, if◌then◌else◌, Some, None}
use Rattle.std.proofs.Math.Option.{Option, none, some}
use Rattle.rules.specs.Found.{Found}
use Rattle.rules.specs.declared.Slot.{Slot}
use Rattle.rules.specs.declared.Slot.TheVariants.{Change, Read, Execute}
use Rattle.rules.specs.Basic.{all, same, rising, joined, zeros, little_endian, little_endian_at}
use Rattle.rules.specs.Expression.{Expression, expression_bytes, read_expression}
pub use Rattle.rules.specs.Expression.{slot_size}
use Rattle.rules.specs.Object.{Object, used, kind_number, read_kind, all_allowed_with}

-- the slots stand behind the first 12 bytes
abbrev pub slots_at : ℕ
slots_at = 12

-- reading a slot: the only expression that its bytes can be
unfoldable pub read_slot : List ℕ → Expression
read_slot [] = read_expression []
read_slot (n ∷ b) = read_expression (take n b)

module _ (slot : ℕ) where
  -- three slots, then the data
  abbrev pub head_size_with : ℕ
  head_size_with = slots_at + 3 * slot

  -- how far into a record each slot begins
  unfoldable pub slot_at_with : Slot → ℕ
  slot_at_with Change = slots_at
  slot_at_with Read = slots_at + slot
  slot_at_with Execute = slots_at + 2 * slot

  -- Length = 96 + maximum, where slots have 28 bytes
  abbrev pub record_size_with : Object → ℕ
  record_size_with o = head_size_with + o.maximum

  -- the bytes that the records take
  unfoldable pub size_with : List Object → ℕ
  size_with [] = 0
  size_with (o ∷ os) = record_size_with o + size_with os

  -- 1 to 32 records, at most 16,384 bytes; object numbers strictly rising
  unfoldable pub objects_allowed_with : List Object → Bool
  objects_allowed_with os =
      all
      (leb 1 (length os) ∷
      leb (length os) 32 ∷
      leb (size_with os) 16384 ∷
      rising (map (λ o. o.number) os) ∷
      all_allowed_with slot os ∷ [])

  -- packing: least significant byte first, length first --------------------------------------------------------------------

  -- one slot: expression length 1, expression, zeros
  unfoldable pub slot_of_with : List ℕ → List ℕ
  slot_of_with b = length b ∷ b ++ zeros (slot - 1 - length b)

  unfoldable pub record_bytes_with : Object → List ℕ
  record_bytes_with o =
      joined
      ( -- length of the record 2, kind 2, object 2, maximum 2, used 2, LcsO 1, zero 1
      little_endian (record_size_with o) ∷ little_endian (kind_number o.kind) ∷ little_endian o.number ∷
      little_endian o.maximum ∷ little_endian (used o) ∷ (o.lcso ∷ 0 ∷ []) ∷
      -- three slots, for change, read, execute
      slot_of_with (expression_bytes o.change) ∷ slot_of_with (expression_bytes o.read) ∷ slot_of_with (expression_bytes o.execute) ∷
      -- data, maximum bytes; all bytes past used are zero
      o.content ∷ zeros (o.maximum - used o) ∷ [])

  unfoldable pub pack_with : List Object → List ℕ
  pack_with [] = []
  pack_with (o ∷ os) = record_bytes_with o ++ pack_with os

  -- reading back: the only objects that these bytes can be; what is not their packing is caught by `unpack` ------------------

  unfoldable pub read_record_with : List ℕ → Object
  read_record_with b =
      record {
        number = little_endian_at 4 b;
        kind = read_kind (little_endian_at 2 b);
        maximum = little_endian_at 6 b;
        lcso = get_or b 10 0;
        change = read_slot (drop slots_at b);
        read = read_slot (drop (slots_at + slot) b);
        execute = read_slot (drop (slots_at + 2 * slot) b);
        content = take (little_endian_at 8 b) (drop head_size_with b);
      }

  -- at most n records, each as long as its first two bytes say
  unfoldable pub read_records_with : ℕ → List ℕ → List Object
  read_records_with zero b = []
  read_records_with (suc n) [] = []
  read_records_with (suc n) (x ∷ xs) = read_record_with (x ∷ xs) ∷ read_records_with n (drop (little_endian_at 0 (x ∷ xs)) (x ∷ xs))

  -- the objects of a store; none: malformed
  unfoldable pub unpack_with : List ℕ → Option (List Object)
  unpack_with b =
      let os = read_records_with 32 b in
      if objects_allowed_with os && same (pack_with os) b then some os else none

-- with the present slots: three of 28 bytes, a head of 96 ------------------------------------------------------------------

abbrev pub head_size : ℕ
head_size = head_size_with slot_size

abbrev pub slot_at : Slot → ℕ
slot_at = slot_at_with slot_size

abbrev pub record_size : Object → ℕ
record_size = record_size_with slot_size

abbrev pub size : List Object → ℕ
size = size_with slot_size

abbrev pub objects_allowed : List Object → Bool
objects_allowed = objects_allowed_with slot_size

abbrev pub slot_of : List ℕ → List ℕ
slot_of = slot_of_with slot_size

-- the slot of an expression
abbrev pub slot : Expression → List ℕ
slot e = slot_of (expression_bytes e)

abbrev pub record_bytes : Object → List ℕ
record_bytes = record_bytes_with slot_size

abbrev pub pack : List Object → List ℕ
pack = pack_with slot_size

abbrev pub read_record : List ℕ → Object
read_record = read_record_with slot_size

abbrev pub unpack : List ℕ → Option (List Object)
unpack = unpack_with slot_size

-- objects by their numbers ---------------------------------------------------------------------------------------------

unfoldable pub find : ℕ → List Object → Option Object
find n [] = none
find n (o ∷ os) = let rest = find n os in if eqb n o.number then some o else rest

-- an object in place of the one of its number
unfoldable pub replaced : Object → List Object → List Object
replaced o os = map (λ p. if eqb p.number o.number then o else p) os

-- where the record of an object begins in the packing: behind `before` bytes and the records in front of it
unfoldable pub found_behind : ℕ → ℕ → List Object → Found
found_behind before n [] = None
found_behind before n (o ∷ os) = let rest = found_behind (before + record_size o) n os in if eqb n o.number then Some before else rest

unfoldable pub found : ℕ → List Object → Found
found n os = found_behind 0 n os
