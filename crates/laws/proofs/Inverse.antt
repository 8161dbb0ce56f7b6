-- `pack` and `unpack` are inverse, over the size of a slot: a store is well formed exactly where it is the packing of allowed objects, and of
-- these ones alone.
use Prim.Native.Nat.{ℕ, zero, suc, ◌+◌, ◌*◌, ◌-◌, ◌/◌, ◌%◌, ◌≤◌}
use mathlib.Core.Bool.{true}
use mathlib.Core.List.{List, [], ◌∷◌, ◌++◌, append_assoc, append-nil}
use mathlib.Core.Option.{some}
use mathlib.Core.Path.{◌≡◌, refl, sym, ap, ap₂, ◌∙◌}
use native.Mathlib.Nat.{mod-add-div, zero-add, suc-add}
use native.Mathlib.Omega.{arith}
use lib.ListN.{length, length-append, length-replicate, take, drop}
use lib.Seq.{take_at, drop_at, drop-drop}
use Rattle.rules.specs.Basic.{zeros, little_endian_at}
use Rattle.rules.specs.Expression.{Expression, slot_size, expression_bytes, read_expression, expression_allowed_with, expression_allowed}
use Rattle.rules.specs.Object.{Object, used, kind_number, read_kind, object_allowed_with, all_allowed_with, all_allowed}
use Rattle.rules.specs.Layout.{record_size_with, objects_allowed_with, slot_of_with, record_bytes_with, pack_with, read_slot, read_record_with, read_records_with, unpack_with}
use Rattle.rules.specs.Layout.{slot, record_size, record_bytes, read_record, pack, unpack, objects_allowed}
use Rattle.laws.proofs.Tests.{and_left, and_right, same_refl, read_checked}
use Rattle.laws.proofs.Expressions.{expression_length_with, read_bytes}
use Rattle.laws.proofs.Facts.{storable, AllowedWith, Allowed, allowed_with, all_allowed_with_facts}

-- one slot ------------------------------------------------------------------------------------------------------------

-- past one, two and three parts of n bytes
module _ (n : ℕ) (a b c d : List ℕ) (ha : length a ≡ n) (hb : length b ≡ n) (hc : length c ≡ n) where
  pub past_one : drop n (a ++ (b ++ (c ++ d))) ≡ b ++ (c ++ d)
  past_one = drop_at a (b ++ (c ++ d)) n ha

  pub past_two : drop (2 * n) (a ++ (b ++ (c ++ d))) ≡ c ++ d
  past_two = let e : 2 * n ≡ n + n = omega arith in rw (e, ← drop-drop n n, past_one) (drop_at b (c ++ d) n hb)

  pub past_three : drop (3 * n) (a ++ (b ++ (c ++ d))) ≡ d
  past_three = let e : 3 * n ≡ 2 * n + n = omega arith in rw (e, ← drop-drop n (2 * n), past_two) (drop_at c d n hc)

-- a number in two bytes
pub two_bytes : (n : ℕ) → n % 256 + 256 * (n / 256) ≡ n
two_bytes n = mod-add-div n 256

module _ (slot : ℕ) (l : 2 ≤ slot) where
  pub slot_length_with : (e : Expression) → expression_allowed_with slot e ≡ true → length (slot_of_with slot (expression_bytes e)) ≡ slot
  unfolding slot_of_with
  slot_length_with e h = simp (length-append, length-replicate) (omega (arith, expression_length_with slot l e h))

  pub slot_read_with : (e : Expression) (r : List ℕ) → read_slot (slot_of_with slot (expression_bytes e) ++ r) ≡ e
  unfolding slot_of_with read_slot
  slot_read_with e r =
      let b = expression_bytes e in
      let z = zeros (slot - 1 - length b) in
      ap (λ x. read_expression (take (length b) x)) (append_assoc b z r) ∙ ap read_expression (take_at b (z ++ r) (length b) refl) ∙ read_bytes e

  -- one record --------------------------------------------------------------------------------------------------------

  pub record_length_with : (o : Object) → AllowedWith slot o → length (record_bytes_with slot o) ≡ record_size_with slot o
  unfolding record_bytes_with
  record_length_with o h =
      simp (length-append, length-replicate, slot_length_with _ h.change, slot_length_with _ h.read, slot_length_with _ h.execute)
      (omega (arith, h.used_fits))

  pub record_read_with : (o : Object) (r : List ℕ) → AllowedWith slot o → read_record_with slot (record_bytes_with slot o ++ r) ≡ o
  unfolding record_bytes_with read_record_with little_endian_at
  record_read_with o r h =
      let a = slot_of_with slot (expression_bytes o.change) in
      let b = slot_of_with slot (expression_bytes o.read) in
      let c = slot_of_with slot (expression_bytes o.execute) in
      let d = o.content ++ (zeros (o.maximum - used o) ++ r) in
      let ha = slot_length_with o.change h.change in
      let hb = slot_length_with o.read h.read in
      let hc = slot_length_with o.execute h.execute in
      -- behind the first 12 bytes
      let behind : (k : ℕ) → drop (12 + k) (record_bytes_with slot o ++ r) ≡ drop k (a ++ (b ++ (c ++ d))) =
      λ k. sym (drop-drop k 12 (record_bytes_with slot o ++ r)) ∙ ap (drop k) (simp append_assoc) in
      λ i.
      record {
        number = two_bytes o.number i;
        kind = (ap read_kind (two_bytes (kind_number o.kind)) ∙ (storable o.kind o.maximum o.content h.content).read_back) i;
        maximum = two_bytes o.maximum i;
        lcso = o.lcso;
        change = (ap read_slot (behind 0) ∙ slot_read_with o.change (b ++ (c ++ d))) i;
        read = (ap read_slot (behind slot ∙ past_one slot a b c d ha hb hc) ∙ slot_read_with o.read (c ++ d)) i;
        execute = (ap read_slot (behind (2 * slot) ∙ past_two slot a b c d ha hb hc) ∙ slot_read_with o.execute d) i;
        content = (ap₂ take (two_bytes (used o)) (behind (3 * slot) ∙ past_three slot a b c d ha hb hc) ∙ take_at o.content _ (used o) refl) i;
      }

  -- all records -------------------------------------------------------------------------------------------------------

  -- the first record is read, and then what follows it
  record_first : (n : ℕ) (o : Object) (r : List ℕ) → AllowedWith slot o →
      read_records_with slot (suc n) (record_bytes_with slot o ++ r) ≡ o ∷ read_records_with slot n r
  unfolding read_records_with record_bytes_with little_endian_at
  record_first n o r a =
      let behind = drop_at (record_bytes_with slot o) r (record_size_with slot o) (record_length_with o a) in
      rw (record_read_with o r a, two_bytes (record_size_with slot o), behind)

  -- the records of a packing are read, and then what follows it
  pub records_then_with : (n : ℕ) (os : List Object) (r : List ℕ) → all_allowed_with slot os ≡ true →
      read_records_with slot (length os + n) (pack_with slot os ++ r) ≡ os ++ read_records_with slot n r
  unfolding pack_with all_allowed_with
  records_then_with n [] r h = rw zero-add
  records_then_with n (o ∷ os) r h =
      let a = allowed_with slot o (and_left (object_allowed_with slot o) _ h) in
      let rest = records_then_with n os r (and_right (object_allowed_with slot o) _ h) in
      rw (append_assoc, suc-add) (record_first (length os + n) o (pack_with slot os ++ r) a ∙ ap (λ x. o ∷ x) rest)

  -- no bytes, no records
  pub nothing_read_with : (n : ℕ) → read_records_with slot n [] ≡ []
  unfolding read_records_with
  nothing_read_with zero = refl
  nothing_read_with (suc n) = refl

  pub records_read_with : (n : ℕ) (os : List Object) → length os ≤ n → all_allowed_with slot os ≡ true → read_records_with slot n (pack_with slot os) ≡ os
  records_read_with n os l h =
      let count : n ≡ length os + (n - length os) = omega arith in
      rw (← append-nil (pack_with slot os), count)
      (records_then_with (n - length os) os [] h ∙ ap (λ ps. os ++ ps) (nothing_read_with (n - length os)) ∙ append-nil os)

  -- the two theorems --------------------------------------------------------------------------------------------------

  -- allowed objects are read back from their packing
  pub unpack_pack_with : (os : List Object) → objects_allowed_with slot os ≡ true → unpack_with slot (pack_with slot os) ≡ some os
  unfolding unpack_with
  unpack_pack_with os h =
      let a = all_allowed_with_facts slot os h in
      rw (records_read_with 32 os a.count a.each, h, same_refl (pack_with slot os))

  -- objects with the same packing are the same
  pub pack_same_with : (os ps : List Object) → all_allowed_with slot os ≡ true → all_allowed_with slot ps ≡ true → pack_with slot os ≡ pack_with slot ps → os ≡ ps
  pack_same_with os ps h k e =
      let n = length os + length ps in
      sym (records_read_with n os (omega arith) h) ∙ ap (read_records_with slot n) e ∙ records_read_with n ps (omega arith) k

  -- a store that is read is the packing of what is read, which is allowed
  pub pack_unpack_with : (b : List ℕ) (os : List Object) → unpack_with slot b ≡ some os → (pack_with slot os ≡ b) × (objects_allowed_with slot os ≡ true)
  unfolding unpack_with
  pack_unpack_with b os h = read_checked (objects_allowed_with slot) (pack_with slot) b (read_records_with slot 32 b) os h

-- with the present slots --------------------------------------------------------------------------------------------------

pub slot_length : (e : Expression) → expression_allowed e ≡ true → length (slot e) ≡ slot_size
slot_length = slot_length_with slot_size (omega arith)

pub slot_read : (e : Expression) (r : List ℕ) → read_slot (slot e ++ r) ≡ e
slot_read = slot_read_with slot_size (omega arith)

pub record_length : (o : Object) → Allowed o → length (record_bytes o) ≡ record_size o
record_length = record_length_with slot_size (omega arith)

pub record_read : (o : Object) (r : List ℕ) → Allowed o → read_record (record_bytes o ++ r) ≡ o
record_read = record_read_with slot_size (omega arith)

pub unpack_pack : (os : List Object) → objects_allowed os ≡ true → unpack (pack os) ≡ some os
unpack_pack = unpack_pack_with slot_size (omega arith)

pub records_then : (n : ℕ) (os : List Object) (r : List ℕ) → all_allowed os ≡ true →
    read_records_with slot_size (length os + n) (pack os ++ r) ≡ os ++ read_records_with slot_size n r
records_then = records_then_with slot_size (omega arith)

pub nothing_read : (n : ℕ) → read_records_with slot_size n [] ≡ []
nothing_read = nothing_read_with slot_size (omega arith)

pub pack_same : (os ps : List Object) → all_allowed os ≡ true → all_allowed ps ≡ true → pack os ≡ pack ps → os ≡ ps
pack_same = pack_same_with slot_size (omega arith)

pub pack_unpack : (b : List ℕ) (os : List Object) → unpack b ≡ some os → (pack os ≡ b) × (objects_allowed os ≡ true)
pack_unpack = pack_unpack_with slot_size (omega arith)
