-- The check of one record: its tests say whether the bytes are the record of an allowed object. What the number of a kind says.
use Prim.Native.Nat.{ℕ, ◌+◌, ◌*◌, ◌-◌, ◌≤◌, ◌<◌}
use mathlib.Core.Path.{◌≡◌, refl, sym, ap, ◌∙◌}
use mathlib.Core.Bool.{Bool, true, false, not, ◌&&◌}
use mathlib.Core.List.{List, [], ◌∷◌, ◌++◌, append-nil}
use borrow.Author.Tests.{eq-eqb, eqb-true, le-leb, leb-true, not-true, not-false}
use native.Mathlib.Omega.{arith}
use native.Mathlib.Nat.{add-sub_cancel_left}
use lib.Dec.{eqb}
use lib.ListN.{length, get_or, take, drop, length-drop, take-append-drop}
use lib.Seq.{take_at, drop-append_seam, drop-drop, length-take-le}
use borrow.Author.Rules.{part_to_end}
use Rattle.rules.specs.declared.Slot.{Slot}
use Rattle.rules.specs.declared.Slot.TheVariants.{Change, Read, Execute}
use Rattle.rules.specs.Basic.{all, zeros, little_endian_at}
use Rattle.rules.specs.Expression.{Expression, expression_allowed, is_state}
use Rattle.rules.specs.Object.{Object, used, kind_number, read_kind, data_allowed, in_session, object_allowed}
use Rattle.rules.specs.Layout.{slot_size, slots_at, head_size, slot_at, slot, record_bytes, read_slot, read_record}
use Rattle.rules.specs.Layout.{read_record_with, record_bytes_with, slot_at_with}
use Rattle.laws.proofs.Facts.{allowed, allowed_by}
use Rattle.laws.proofs.Tests.{and_left, and_right, at_place, same_refl, same_eq}
use Rattle.laws.proofs.Inverse.{slot_length, slot_read, record_length, record_read}
use Rattle.primitives.proofs.Zeros.{zeros_are, are_zeros}
use Rattle.expression.proofs.Tests.{same_test}
use Rattle.expression.proofs.Conditions.{two}
use Rattle.expression.proofs.Numbers.{Bytes, two_back}
use Rattle.record.specs.Records.{is_slot, head_allowed, kind_allowed, slots_allowed, body_allowed, is_record}
use Rattle.record.proofs.Standing.{Slotted, size_here, kind_here, used_here, slot_here, data_here}

-- the tests of a record's first bytes, by their names
record Head (b : List ℕ) : Type 0 where
  long : head_size + 1 ≤ length b
  length_told : little_endian_at 0 b ≡ length b
  outside_session : in_session (little_endian_at 4 b) ≡ false
  maximum_told : little_endian_at 6 b ≡ length b - head_size
  most : little_endian_at 6 b ≤ 1500
  used_fits : little_endian_at 8 b ≤ little_endian_at 6 b
  state : is_state (get_or b 10 0) ≡ true
  zero : get_or b 11 0 ≡ 0

head : (b : List ℕ) → head_allowed b ≡ true → Head b
unfolding head_allowed
head b h =
    let t : (k : ℕ) → _ = at_place _ h in
    search (leb-true, eqb-true, not-true, t 0, t 1, t 2, t 3, t 4, t 5, t 6, t 7)

-- what passes is the record of an allowed object -----------------------------------------------------------------------

-- a slot holds what is read from it
slot_back : (k : ℕ) (b : List ℕ) → is_slot (take slot_size (drop k b)) ≡ true →
    (expression_allowed (read_slot (drop k b)) ≡ true) × (slot (read_slot (drop k b)) ++ drop (k + slot_size) b ≡ drop k b)
unfolding is_slot
slot_back k b h =
    let e = read_slot (take slot_size (drop k b)) in
    let q = same_eq (slot e) _ (and_right (expression_allowed e) _ h) in
    let whole : slot e ++ drop (k + slot_size) b ≡ drop k b = rw (q, ← drop-drop slot_size k b) (take-append-drop slot_size (drop k b)) in
    let r : read_slot (drop k b) ≡ e = ap read_slot (sym whole) ∙ slot_read e (drop (k + slot_size) b) in
    rw r (and_left (expression_allowed e) _ h, whole)

module _ (b : List ℕ) (bytes : Bytes b) (h : Head b) (h' : body_allowed b ≡ true) where
  in_use : used (read_record b) ≡ little_endian_at 8 b
  unfolding read_record_with
  in_use = length-take-le (little_endian_at 8 b) (drop head_size b) (rw length-drop (omega (arith, h.long, h.maximum_told, h.used_fits)))

  held : (w : Slot) → (expression_allowed (read_slot (drop (slot_at w) b)) ≡ true) ×
      (slot (read_slot (drop (slot_at w) b)) ++ drop (slot_at w + slot_size) b ≡ drop (slot_at w) b)
  unfolding body_allowed slots_allowed slot_at_with
  held Change = slot_back slots_at b (at_place _ (at_place _ h' 1) 0)
  held Read = slot_back (slots_at + slot_size) b (at_place _ (at_place _ h' 1) 1)
  held Execute = slot_back (slots_at + 2 * slot_size) b (at_place _ (at_place _ h' 1) 2)

  object_passes : object_allowed (read_record b) ≡ true
  unfolding read_record_with slot_at_with body_allowed kind_allowed
  object_passes =
      let small : little_endian_at 4 b < 0x10000 = unfold little_endian_at in omega (arith, (bytes 4).fits, (bytes 5).fits) in
      let room : 1 ≤ little_endian_at 6 b = omega (arith, h.long, h.maximum_told) in
      let fits : used (read_record b) ≤ little_endian_at 6 b = omega (arith, in_use, h.used_fits) in
      let content = rw add-sub_cancel_left at (and_right (eqb (kind_number (read_kind (little_endian_at 2 b))) (little_endian_at 2 b)) _ (at_place _ h' 0)) in
      allowed_by _ (search (small, room, fits, h, content, (held Change).0, (held Read).0, (held Execute).0))

  record_back : record_bytes (read_record b) ≡ b
  unfolding record_bytes_with read_record_with slot_at_with body_allowed kind_allowed
  record_back =
      let n = little_endian_at 2 b in
      let u = little_endian_at 8 b in
      let long = h.long in
      let kind = eqb-true (kind_number (read_kind n)) n (and_left (eqb (kind_number (read_kind n)) n) _ (at_place _ h' 0)) in
      let left : length (drop (head_size + u) b) ≡ little_endian_at 6 b - u = rw length-drop (omega (arith, h.maximum_told)) in
      let tail = are_zeros (drop (head_size + u) b) (rw part_to_end at (at_place _ h' 2)) in
      let content : take u (drop head_size b) ++ drop (head_size + u) b ≡ drop head_size b = rw (← drop-drop u head_size b) (take-append-drop u _) in
      let state : get_or b 10 0 ∷ 0 ∷ drop 12 b ≡ drop 10 b = ap (λ x. get_or b 10 0 ∷ x ∷ drop 12 b) (sym h.zero) ∙ sym (two b 10 (omega arith)) in
      let size : little_endian_at 0 b ≡ head_size + little_endian_at 6 b = omega (arith, h.length_told, h.maximum_told) in
      let back = two_back b bytes in
      rw (in_use, kind, ← left, ← tail, append-nil, content, (held Execute).1, (held Read).1, (held Change).1, state)
      (rw (back 8 _ (omega arith) refl, back 6 _ (omega arith) refl, back 4 _ (omega arith) refl, back 2 _ (omega arith) refl) (back 0 _ (omega arith) size))

-- the record of an allowed object passes ----------------------------------------------------------------------------------

-- a slot of an allowed expression passes
slot_passes : (q : ℕ) (b : List ℕ) (e : Expression) → Slotted q b e → is_slot (take slot_size (drop q b)) ≡ true
unfolding is_slot
slot_passes q b e s =
    let t : take slot_size (drop q b) ≡ slot e = ap (take slot_size) s.here ∙ take_at (slot e) s.rest slot_size (slot_length e s.allowed) in
    let r : read_slot (slot e) ≡ e = ap read_slot (sym (append-nil (slot e))) ∙ slot_read e [] in
    rw (t, r, s.allowed) (same_refl (slot e))

module _ (b : List ℕ) (ok : object_allowed (read_record b) ≡ true) (q : record_bytes (read_record b) ≡ b) where
  abbrev o : Object
  o = read_record b

  -- it begins at 0, before nothing
  alone : drop 0 b ≡ record_bytes o ++ []
  alone = sym (append-nil (record_bytes o) ∙ q)

  counted : little_endian_at 8 b ≡ used o
  counted = used_here 0 b o [] ok alone

  head_passes : head_allowed b ≡ true
  unfolding head_allowed all read_record_with
  head_passes =
      let a = allowed o ok in
      let n : length b ≡ head_size + little_endian_at 6 b = ap length (sym q) ∙ record_length o a in
      let size : little_endian_at 0 b ≡ head_size + little_endian_at 6 b = size_here 0 b o [] ok alone in
      let fits : used o ≤ little_endian_at 6 b = a.used_fits in
      let room : 1 ≤ little_endian_at 6 b = a.some_room in
      let zero : get_or b 11 0 ≡ 0 = ap (λ x. get_or x 11 0) (sym q) ∙ (unfold record_bytes_with in refl) in
      rw (
        le-leb (head_size + 1) (length b) (omega arith),
        eq-eqb (little_endian_at 0 b) (length b) (omega arith),
        a.outside_session,
        eq-eqb (little_endian_at 6 b) (length b - head_size) (omega arith),
        le-leb (little_endian_at 6 b) 1500 a.most,
        le-leb (little_endian_at 8 b) (little_endian_at 6 b) (omega (arith, counted)),
        a.state,
        zero,
      )

  past_used : drop (head_size + used o) b ≡ zeros (o.maximum - used o)
  past_used = rw (← drop-drop (used o) head_size b, data_here 0 b o [] ok alone, append-nil) (drop-append_seam o.content (zeros (o.maximum - used o)))

  body_passes : body_allowed b ≡ true
  unfolding body_allowed kind_allowed slots_allowed slot_at_with all
  body_passes =
      let n = little_endian_at 2 b in
      let kind : kind_number (read_kind n) ≡ n = unfold read_record_with in sym (kind_here 0 b o [] ok alone) in
      let content : data_allowed (read_kind n) (little_endian_at 6 b) (take (little_endian_at 8 b) (drop head_size b)) ≡ true =
      unfold read_record_with in (allowed o ok).content in
      let slotted : (w : Slot) → is_slot (take slot_size (drop (0 + slot_at w) b)) ≡ true = λ w. slot_passes _ b _ (slot_here 0 b o [] ok alone w) in
      rw (add-sub_cancel_left, eq-eqb (kind_number (read_kind n)) n kind, content, slotted Change, slotted Read, slotted Execute)
      (rw (part_to_end, counted, past_used, zeros_are (o.maximum - used o)))

-- the record of an allowed object is a record
pub record_is : (o : Object) → object_allowed o ≡ true → is_record (record_bytes o) ≡ true
unfolding is_record
record_is o h =
    let r : read_record (record_bytes o) ≡ o = ap read_record (sym (append-nil (record_bytes o))) ∙ record_read o [] (allowed o h) in
    rw (r, h) (same_refl (record_bytes o))

-- a record is that of an allowed object
pub is_record_of : (b : List ℕ) → is_record b ≡ true → (object_allowed (read_record b) ≡ true) × (record_bytes (read_record b) ≡ b)
unfolding is_record
is_record_of b h =
    let t = object_allowed (read_record b) in
    (and_left t _ h, same_eq (record_bytes (read_record b)) b (and_right t _ h))

-- `record_ok`
pub record_by : (b : List ℕ) (r : Bool) → Bytes b → r ≡ (head_allowed b && body_allowed b) → r ≡ is_record b
unfolding is_record
record_by b r bytes e =
    e ∙ same_test (head_allowed b && body_allowed b) (is_record b)
    (λ h. let t = head b (and_left (head_allowed b) (body_allowed b) h) in
    let u = and_right (head_allowed b) (body_allowed b) h in
    rw (object_passes b bytes t u, record_back b bytes t u) (same_refl b))
    (λ h. let (a, q) = is_record_of b h in rw (head_passes b a q, body_passes b a q))

-- what `body_ok` asks
pub head_gives : (s : List ℕ) (r : Bool) → r ≡ head_allowed s → not r ≡ false → (head_size + 1 ≤ length s) × (head_size + little_endian_at 8 s ≤ length s)
head_gives s r e n =
    let h = head s (sym e ∙ not-false r n) in
    (h.long, omega (arith, h.long, h.maximum_told, h.used_fits))
