-- A record's bytes with one part changed: the data and its count of used bytes, the LcsO, a slot.
use Prim.Native.Nat.{ℕ, ◌+◌, ◌*◌}
use mathlib.Core.Bool.{true}
use mathlib.Core.List.{List, [], ◌∷◌, ◌++◌, append_assoc}
use mathlib.Core.Path.{◌≡◌, refl, sym, ◌∙◌}
use lib.ListN.{length, length-append}
use Rattle.rules.specs.Basic.{little_endian}
use Rattle.rules.specs.declared.Slot.{Slot}
use Rattle.rules.specs.declared.Slot.TheVariants.{Change, Read, Execute}
use Rattle.rules.specs.Expression.{Expression, expression_allowed}
use Rattle.rules.specs.Object.{Object, used, object_allowed, expression_in, with_content}
use Rattle.rules.specs.Layout.{slot_size, slots_at, head_size, slot_at, slot, record_bytes, record_bytes_with, slot_at_with}
use Rattle.laws.proofs.Inverse.{slot_length}
use Rattle.primitives.specs.Bytes.{over}
use Rattle.primitives.proofs.Over.{over_part}
use Rattle.record.specs.Records.{fixed}
use Rattle.record.proofs.Standing.{slot_long}
pub use Rattle.record.proofs.Slots.{read_allowed}
use Rattle.change.specs.Change.{with_lcso, with_expressions, with_expression}
use Rattle.change.proofs.Inside.{over_behind}
use Rattle.change.proofs.Zeros.{padded}

module _ (o : Object) (ok : object_allowed o ≡ true) where
  -- the bytes in front of the data, where u bytes are used
  unfoldable head : ℕ → List ℕ
  head u = fixed o.kind o.number o.maximum u o.lcso ++ (slot o.change ++ (slot o.read ++ slot o.execute))

  head_length : (u : ℕ) → length (head u) ≡ head_size
  unfolding head fixed expression_in
  head_length u = simp (length-append, slot_long o ok Change, slot_long o ok Read, slot_long o ok Execute)

  head_record : (new : List ℕ) → record_bytes (with_content new o) ≡ head (length new) ++ padded o.maximum new
  unfolding head fixed record_bytes_with with_content padded
  head_record new = simp append_assoc

  -- the count of used bytes put, then bytes into the data
  pub data_record : (k : ℕ) (src new : List ℕ) → over k src (padded o.maximum o.content) ≡ padded o.maximum new →
      over (head_size + k) src (over 8 (little_endian (length new)) (record_bytes o)) ≡ record_bytes (with_content new o)
  data_record k src new e =
      let d = padded o.maximum o.content in
      let own : record_bytes o ≡ head (used o) ++ d = unfold with_content in head_record o.content in
      let counted : over 8 (little_endian (length new)) (head (used o) ++ d) ≡ head (length new) ++ d = unfold head fixed over in refl in
      rw (own, counted, over_behind head_size k src (head (length new)) d (head_length (length new)), e) (sym (head_record new))

  -- the count of used bytes put as it stands
  pub used_record : over 8 (little_endian (used o)) (record_bytes o) ≡ record_bytes o
  unfolding over record_bytes_with
  used_record = refl

  pub lcso_record : (st : ℕ) → over 10 (st ∷ []) (record_bytes o) ≡ record_bytes (with_lcso st o)
  unfolding over record_bytes_with with_lcso
  lcso_record st = refl

  pub slot_record : (s : Slot) (e : Expression) → expression_allowed e ≡ true →
      over (slot_at s) (slot e) (record_bytes o) ≡ record_bytes (with_expression s e o)
  unfolding fixed slot_at_with record_bytes_with padded with_expression with_expressions expression_in
  slot_record s e h = go s (slot_long o ok s ∙ sym (slot_length e h))
    where
      first : List ℕ
      first = fixed o.kind o.number o.maximum (used o) o.lcso

      go : (s : Slot) → length (slot (expression_in s o)) ≡ length (slot e) → over (slot_at s) (slot e) (record_bytes o) ≡ record_bytes (with_expression s e o)
      go Change long = over_part first (slot o.change) (slot e) _ slots_at refl long
      go Read long = over_part (first ++ slot o.change) (slot o.read) (slot e) _ (slots_at + slot_size) (simp (slot_long o ok Change)) long
      go Execute long =
          simp append_assoc at (over_part (first ++ (slot o.change ++ slot o.read)) (slot o.execute) (slot e) (padded o.maximum o.content)
          (slots_at + 2 * slot_size) (simp (length-append, slot_long o ok Change, slot_long o ok Read)) long)
