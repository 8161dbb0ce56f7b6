-- An object's record where it stands in the store's bytes.
use Rattle.std.specs.Prelude.{ℕ, ◌+◌, ◌*◌, ◌-◌, ◌≤◌, ◌≡◌, Bool, true, ◌&&◌, List, length, get_or, take, drop}
use Rattle.rules.specs.Basic.{same, little_endian_at}
use Rattle.rules.specs.Object.{Object, used, kind_number, object_allowed}
use Rattle.rules.specs.Layout.{slot_size, slots_at, record_size, record_bytes, read_record}
use Rattle.primitives.specs.Bytes.{over}

-- the object whose record begins at p
unfoldable pub object_at : ℕ → List ℕ → Object
object_at p b = read_record (drop p b)

-- the bytes at p are those of an allowed object's record
unfoldable pub stands_at : ℕ → List ℕ → Bool
stands_at p b = object_allowed (object_at p b) && same (take (record_size (object_at p b)) (drop p b)) (record_bytes (object_at p b))

-- a record stands at p: what its bytes say of its object, and their bounds
pub record Stored (p : ℕ) (b : List ℕ) : Type 0 where
  pub stands : stands_at p b ≡ true
  pub inside : p + record_size (object_at p b) ≤ length b
  pub some_room : 1 ≤ (object_at p b).maximum
  pub most : (object_at p b).maximum ≤ 1500
  pub used_fits : used (object_at p b) ≤ (object_at p b).maximum
  pub kind_is : little_endian_at (p + 2) b ≡ kind_number (object_at p b).kind
  pub number_is : little_endian_at (p + 4) b ≡ (object_at p b).number
  pub maximum_is : little_endian_at (p + 6) b ≡ (object_at p b).maximum
  pub used_is : little_endian_at (p + 8) b ≡ used (object_at p b)
  pub state_is : get_or b (p + 10) 0 ≡ (object_at p b).lcso
  pub change_small : get_or b (p + slots_at) 0 ≤ slot_size - 1
  pub read_small : get_or b (p + (slots_at + slot_size)) 0 ≤ slot_size - 1
  pub execute_small : get_or b (p + (slots_at + 2 * slot_size)) 0 ≤ slot_size - 1

-- the store with o's record at p, in place of one as long
unfoldable pub with_record : ℕ → Object → List ℕ → List ℕ
with_record p o b = over p (record_bytes o) b
