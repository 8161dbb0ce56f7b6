-- What each function leaves in the store: bytes put where a record stands are the record of the changed object.
use Prim.Native.Nat.{ℕ, ◌+◌, ◌-◌, ◌≤◌, ◌<◌, max}
use mathlib.Core.Bool.{true}
use mathlib.Core.List.{List, [], ◌∷◌, ◌++◌}
use mathlib.Core.Path.{◌≡◌, sym, ap, ◌∙◌}
use native.Mathlib.Omega.{arith}
use native.Mathlib.Nat.{add-zero, add_assoc}
use lib.ListN.{length, set, take, drop, length-take, length-drop, length-replicate}
use lib.Seq.{take_at}
use Rattle.rules.specs.Basic.{zeros, little_endian, is_some}
use Rattle.rules.specs.declared.Direction.{Direction}
use Rattle.rules.specs.declared.Slot.{Slot}
use Rattle.rules.specs.Expression.{expression, read_expression}
use Rattle.rules.specs.Object.{Object, used, is_counter, direction, counter_size, object_allowed, with_content}
use Rattle.rules.specs.Counter.{after_count}
use Rattle.rules.specs.Layout.{slot_size, head_size, record_size, slot_at, slot_of, slot, record_bytes}
use Rattle.rules.specs.Operation.{put_at}
use Rattle.laws.proofs.Facts.{allowed}
use Rattle.laws.proofs.Fitting.{count_length}
use Rattle.laws.proofs.Expressions.{expression_length}
use Rattle.laws.proofs.Puts.{put_used}
use Rattle.laws.proofs.Inverse.{record_length, slot_length}
use Rattle.primitives.specs.Bytes.{over}
use Rattle.primitives.proofs.Over.{over_length}
use Rattle.record.specs.Places.{object_at, Stored, with_record}
use Rattle.record.proofs.Standing.{standing, stored_counter, data_here, slot_in_head}
use Rattle.record.proofs.Slots.{set_over}
use Rattle.change.specs.Change.{counted_at, with_lcso, with_expression}
use Rattle.change.proofs.Inside.{over_inside, lent_over, lent_whole}
use Rattle.change.proofs.Zeros.{padded, put_padded, put_zeroed, over_padded, padded_full}
use Rattle.change.proofs.Changed.{stands_allowed, unchanged}
use Rattle.change.proofs.Records.{data_record, used_record, lcso_record, slot_record, read_allowed}

module _ (p : ℕ) (b : List ℕ) (s : Stored p b) where
  ok : object_allowed (object_at p b) ≡ true
  ok = stands_allowed p b s

  long : length (record_bytes (object_at p b)) ≡ record_size (object_at p b)
  long = record_length (object_at p b) (allowed (object_at p b) ok)

  -- bytes put into the store at k of the record are put into the record
  pub put_into : (k : ℕ) (y : List ℕ) → k + length y ≤ record_size (object_at p b) → over (p + k) y b ≡ over p (over k y (record_bytes (object_at p b))) b
  put_into k y l =
      let r = record_bytes (object_at p b) in
      let same : b ≡ over p r b = sym (unfold with_record in unchanged p b s) in
      ap (over (p + k) y) same ∙ over_inside p k y r b (omega (arith, s.inside)) (omega (arith, long))

  pub set_lcso_by : (st : ℕ) (r : List ℕ) → r ≡ set b (p + 10) st → r ≡ with_record p (with_lcso st (object_at p b)) b
  unfolding with_record
  set_lcso_by st r e = e ∙ set_over b (p + 10) st (omega (arith, s.inside)) ∙ put_into 10 (st ∷ []) (omega arith) ∙ ap (λ x. over p x b) (lcso_record (object_at p b) ok st)

  module _ (t : Slot) (v : List ℕ) (h : is_some (expression v) ≡ true) where
    pub value_small : length v < slot_size
    value_small =
        let (k, e) = read_allowed v h in
        omega (arith, expression_length (read_expression v) k, ap length e)

    module _ (k : ℕ) (ek : k ≡ slot_at t) where
      pub slot_in : p + k + slot_size ≤ length b
      slot_in = omega (arith, s.inside, slot_in_head t)

      pub set_expression_by : (r : List ℕ) → r ≡ over (p + k) (slot_of v) b → r ≡ with_record p (with_expression t (read_expression v) (object_at p b)) b
      unfolding with_record
      set_expression_by r e =
          let (a, q) = read_allowed v h in
          let x = read_expression v in
          let into = put_into (slot_at t) (slot x) (omega (arith, slot_length x a, slot_in_head t)) in
          rw (e, ek, ← slot_record (object_at p b) ok t x a, ← into, q)

  -- the count of used bytes is put, then bytes into the data part
  counted_length : (v : ℕ) → length (over (p + 8) (little_endian v) b) ≡ length b
  counted_length v = over_length (p + 8) (little_endian v) b (omega (arith, s.inside))

  data_by : (v k : ℕ) (src new : List ℕ) → v ≡ length new → k + length src ≤ (object_at p b).maximum →
      over k src (padded (object_at p b).maximum (object_at p b).content) ≡ padded (object_at p b).maximum new →
      over (p + head_size + k) src (over (p + 8) (little_endian v) b) ≡ with_record p (with_content new (object_at p b)) b
  unfolding with_record
  data_by v k src new c h e =
      let x = over 8 (little_endian v) (record_bytes (object_at p b)) in
      let n : length x ≡ record_size (object_at p b) = over_length 8 (little_endian v) (record_bytes (object_at p b)) (omega (arith, long)) ∙ long in
      let inside = over_inside p (head_size + k) src x b (omega (arith, s.inside)) (omega arith) in
      rw (add_assoc p head_size k, put_into 8 (little_endian v) (omega arith), inside, c, data_record (object_at p b) ok k src new e)

  -- all of the data part anew
  pub whole_by : (v : ℕ) (d new : List ℕ) → v ≡ length new → length d ≡ (object_at p b).maximum → d ≡ padded (object_at p b).maximum new →
      over (p + head_size) d (over (p + 8) (little_endian v) b) ≡ with_record p (with_content new (object_at p b)) b
  whole_by v d new c l q =
      let o = object_at p b in
      rw add-zero at (data_by v 0 d new c (omega arith) (over_padded o.maximum d l o.content s.used_fits ∙ q))

  -- the count of used bytes put as it stands
  same_used : over (p + 8) (little_endian (used (object_at p b))) b ≡ b
  same_used =
      let o = object_at p b in
      put_into 8 (little_endian (used o)) (omega arith) ∙ ap (λ x. over p x b) (used_record o ok) ∙ (unfold with_record in unchanged p b s)

  -- the data part, which ends at e, was lent
  module _ (e : ℕ) (end : e ≡ p + head_size + (object_at p b).maximum) where
    pub write_by : (o : Object) (k u v : ℕ) (src b1 d : List ℕ) → o ≡ object_at p b → k + length src ≤ (object_at p b).maximum → u ≡ used o → v ≡ max u (k + length src) →
        b1 ≡ over (p + 8) (little_endian v) b → d ≡ over k src (take (e - (p + head_size)) (drop (p + head_size) b1)) →
        take (p + head_size) b1 ++ (d ++ drop (e - (p + head_size)) (drop (p + head_size) b1)) ≡
        with_record p (with_content (put_at k src (object_at p b).content) (object_at p b)) b
    write_by was k u v src b1 d eo h eu ev e1 ed =
        let o = object_at p b in
        let c : v ≡ length (put_at k src o.content) = omega (arith, eu, ap used eo, put_used k src o.content) in
        lent_over (p + head_size) k (e - (p + head_size)) src d b1 (omega (arith, s.inside, ap length e1, counted_length v)) (omega arith) ed ∙
        ap (over (p + head_size + k) src) e1 ∙ data_by v k src _ c h (put_padded k o.maximum src o.content h s.used_fits)

    pub erase_write_by : (k v : ℕ) (src b1 d : List ℕ) → k + length src ≤ (object_at p b).maximum → v ≡ k + length src →
        b1 ≡ over (p + 8) (little_endian v) b → d ≡ over k src (zeros (length (take (e - (p + head_size)) (drop (p + head_size) b1)))) →
        take (p + head_size) b1 ++ (d ++ drop (e - (p + head_size)) (drop (p + head_size) b1)) ≡
        with_record p (with_content (put_at k src []) (object_at p b)) b
    erase_write_by k v src b1 d h ev e1 ed =
        let m = (object_at p b).maximum in
        let part : length (take (e - (p + head_size)) (drop (p + head_size) b1)) ≡ m =
        simp (length-take, length-drop) (omega (arith, s.inside, ap length e1, counted_length v)) in
        let alone : d ≡ over k src (zeros m) = ed ∙ ap (λ n. over k src (zeros n)) part in
        let long : length d ≡ m = ap length alone ∙ over_length k src (zeros m) (simp length-replicate (omega arith)) ∙ length-replicate m 0 in
        lent_whole (p + head_size) (e - (p + head_size)) d b1 (omega arith) ∙ ap (over (p + head_size) d) e1 ∙
        whole_by v d (put_at k src []) (omega (arith, put_used k src [])) long (alone ∙ put_zeroed k m src h)

    -- a counter: its bytes are all of the data part
    module _ (c : is_counter (object_at p b).kind ≡ true) where
      maximum : (object_at p b).maximum ≡ counter_size
      maximum = (stored_counter p b s c).0

      in_use : used (object_at p b) ≡ counter_size
      in_use = (stored_counter p b s c).1

      counter_lent : take (e - (p + head_size)) (drop (p + head_size) b) ≡ (object_at p b).content
      counter_lent =
          let t = standing p b s.stands in
          rw (data_here p b (object_at p b) _ t.allowed t.here) (take_at (object_at p b).content _ (e - (p + head_size)) (omega (arith, maximum, in_use)))

      pub counter_long : length (take (e - (p + head_size)) (drop (p + head_size) b)) ≡ counter_size
      counter_long = ap length counter_lent ∙ in_use

      pub count_by : (o : Object) (way : Direction) (step : ℕ) (d : List ℕ) → o ≡ object_at p b → way ≡ direction o.kind →
          d ≡ after_count way step (take (e - (p + head_size)) (drop (p + head_size) b)) →
          take (p + head_size) b ++ (d ++ drop (e - (p + head_size)) (drop (p + head_size) b)) ≡ counted_at p step b
      count_by was way step d eo told ed =
          let o = object_at p b in
          let ew : way ≡ direction o.kind = told ∙ ap (λ x. direction x.kind) eo in
          let new = after_count (direction o.kind) step o.content in
          let counted : d ≡ new = ed ∙ (λ i. after_count (ew i) step (counter_lent i)) in
          let size : length new ≡ counter_size = count_length (direction o.kind) step o.content in_use in
          let long : length new ≡ o.maximum = size ∙ sym maximum in
          rw counted (lent_whole (p + head_size) (e - (p + head_size)) new b (omega arith) ∙ ap (over (p + head_size) new) (sym same_used) ∙
          whole_by (used o) new new (in_use ∙ sym size) long (sym (padded_full o.maximum new long)))
