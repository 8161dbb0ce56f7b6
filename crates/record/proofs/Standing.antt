-- A record at a place of the store: what its bytes say of its object, and its slots.
use Prim.Native.Nat.{ℕ, ◌+◌, ◌*◌, ◌-◌, ◌≤◌}
use mathlib.Core.Bool.{true, false}
use mathlib.Core.List.{List, ◌++◌, append_assoc}
use mathlib.Core.Path.{◌≡◌, refl, sym, ap, ◌∙◌}
use native.Mathlib.Omega.{arith}
use native.Mathlib.Nat.{add-zero}
use lib.ListN.{length, get_or, take, drop, length-append, length-take, length-drop, take-append-drop}
use lib.Seq.{take_at, drop_at, drop-drop, take-append_seam, get_or-drop}
use Rattle.rules.specs.declared.Slot.{Slot}
use Rattle.rules.specs.declared.Slot.TheVariants.{Change, Read, Execute}
use Rattle.rules.specs.Basic.{same, zeros, little_endian_at}
use Rattle.rules.specs.Expression.{Expression, expression_bytes, expression_allowed}
use Rattle.rules.specs.Object.{Object, used, kind_number, of_session, is_counter, counter_size, object_allowed, expression_in}
use Rattle.rules.specs.Layout.{slot_size, slots_at, head_size, slot_at, record_size, slot, record_bytes, read_record}
use Rattle.rules.specs.Layout.{read_record_with, record_bytes_with, slot_at_with, slot_of_with}
use Rattle.laws.proofs.Facts.{storable, allowed}
use Rattle.laws.proofs.Fitting.{counter_maximum, counter_content}
use Rattle.laws.proofs.Tests.{and_left, and_right, same_eq, same_refl}
use Rattle.laws.proofs.Expressions.{expression_length}
use Rattle.laws.proofs.Inverse.{slot_length, record_length, record_read, two_bytes, past_two, past_three}
use Rattle.expression.proofs.Numbers.{low_drop}
use Rattle.record.specs.Places.{object_at, stands_at, Stored}

-- every slot lies in the head
pub slot_in_head : (s : Slot) → slot_at s + slot_size ≤ head_size
unfolding slot_at_with
slot_in_head Change = omega arith
slot_in_head Read = omega arith
slot_in_head Execute = omega arith

-- the expressions of an allowed object, each in a slot
module _ (o : Object) (h : object_allowed o ≡ true) where
  pub slot_allowed : (w : Slot) → expression_allowed (expression_in w o) ≡ true
  unfolding expression_in
  slot_allowed Change = (allowed o h).change
  slot_allowed Read = (allowed o h).read
  slot_allowed Execute = (allowed o h).execute

  pub slot_long : (w : Slot) → length (slot (expression_in w o)) ≡ slot_size
  slot_long w = slot_length (expression_in w o) (slot_allowed w)

-- the slot at q holds the expression e
pub record Slotted (q : ℕ) (b : List ℕ) (e : Expression) : Type 0 where
  pub rest : List ℕ
  pub here : drop q b ≡ slot e ++ rest
  pub allowed : expression_allowed e ≡ true

-- the record of an allowed object begins at p, before r -----------------------------------------------------------------

module _ (p : ℕ) (b : List ℕ) (o : Object) (r : List ℕ) (h : object_allowed o ≡ true) (e : drop p b ≡ record_bytes o ++ r) where
  two_here : (k n : ℕ) → little_endian_at k (record_bytes o ++ r) ≡ n → little_endian_at (p + k) b ≡ n
  two_here k n q = sym (low_drop p k b) ∙ ap (little_endian_at k) e ∙ q

  pub size_here : little_endian_at p b ≡ record_size o
  size_here = rw add-zero at (two_here 0 (record_size o) (unfold little_endian_at record_bytes_with in two_bytes (record_size o)))

  pub kind_here : little_endian_at (p + 2) b ≡ kind_number o.kind
  kind_here = two_here 2 (kind_number o.kind) (unfold little_endian_at record_bytes_with in two_bytes (kind_number o.kind))

  pub used_here : little_endian_at (p + 8) b ≡ used o
  used_here = two_here 8 (used o) (unfold little_endian_at record_bytes_with in two_bytes (used o))

  pub length_here : length b - p ≡ record_size o + length r
  length_here = sym (length-drop p b) ∙ ap length e ∙ length-append (record_bytes o) r ∙ ap (λ n. n + length r) (record_length o (allowed o h))

  pub record_here : take (record_size o) (drop p b) ≡ record_bytes o
  record_here = ap (take (record_size o)) e ∙ take_at (record_bytes o) r (record_size o) (record_length o (allowed o h))

  pub rest_here : drop (p + record_size o) b ≡ r
  rest_here = rw (← drop-drop (record_size o) p b, e) (drop_at (record_bytes o) r (record_size o) (record_length o (allowed o h)))

  pub object_here : object_at p b ≡ o
  unfolding object_at
  object_here = ap read_record e ∙ record_read o r (allowed o h)

  pub stands_here : stands_at p b ≡ true
  unfolding stands_at
  stands_here = rw (object_here, h, record_here, same_refl (record_bytes o))

  -- its slots, then its data
  rest : List ℕ
  rest = o.content ++ (zeros (o.maximum - used o) ++ r)

  after : (k : ℕ) (x : List ℕ) → drop k (slot o.change ++ (slot o.read ++ (slot o.execute ++ rest))) ≡ x → drop (p + (slots_at + k)) b ≡ x
  unfolding rest record_bytes_with
  after k x q = rw (← drop-drop (slots_at + k) p b, ← drop-drop k slots_at (drop p b), e) (ap (drop k) (simp append_assoc) ∙ q)

  pub slot_here : (w : Slot) → Slotted (p + slot_at w) b (expression_in w o)
  unfolding slot_at_with expression_in
  slot_here Change = record { rest = _; here = after 0 _ refl; allowed = slot_allowed o h Change }
  slot_here Read =
      record { rest = _; here = after slot_size _ (drop_at (slot o.change) _ slot_size (slot_long o h Change)); allowed = slot_allowed o h Read }
  slot_here Execute =
      let past = past_two slot_size (slot o.change) (slot o.read) (slot o.execute) rest (slot_long o h Change) (slot_long o h Read) in
      record { rest = _; here = after (2 * slot_size) _ (past (slot_long o h Execute)); allowed = slot_allowed o h Execute }

  pub data_here : drop (p + head_size) b ≡ o.content ++ (zeros (o.maximum - used o) ++ r)
  unfolding rest expression_in
  data_here =
      after (3 * slot_size) _
      (past_three slot_size (slot o.change) (slot o.read) (slot o.execute) rest (slot_long o h Change) (slot_long o h Read) (slot_long o h Execute))

-- what the slot's bytes say
module _ (q : ℕ) (b : List ℕ) (e : Expression) (s : Slotted q b e) where
  pub slot_inside : q + slot_size ≤ length b
  slot_inside = omega (arith, simp (length-append, length-drop, slot_length e s.allowed) at (ap length s.here))

  pub slot_count : get_or b q 0 ≡ length (expression_bytes e)
  unfolding slot_of_with
  slot_count = ap (λ k. get_or b k 0) (sym (add-zero q)) ∙ sym (get_or-drop q b 0 0) ∙ ap (λ x. get_or x 0 0) s.here

  pub slot_small : get_or b q 0 ≤ slot_size - 1
  slot_small = omega (arith, slot_count, expression_length e s.allowed)

  pub slot_value : take (get_or b q 0) (drop (q + 1) b) ≡ expression_bytes e
  unfolding slot_of_with
  slot_value = rw (slot_count, ← drop-drop 1 q b, s.here, append_assoc) (take-append_seam (expression_bytes e) _)

-- the store b, taken apart at p -------------------------------------------------------------------------------------------

pub record Standing (p : ℕ) (b : List ℕ) (o : Object) : Type 0 where
  pub allowed : object_allowed o ≡ true
  pub here : drop p b ≡ record_bytes o ++ drop (p + record_size o) b
  pub inside : p + record_size o ≤ length b

pub standing : (p : ℕ) (b : List ℕ) → stands_at p b ≡ true → Standing p b (object_at p b)
unfolding stands_at
standing p b h =
    let o = object_at p b in
    let n = record_size o in
    let ok = and_left (object_allowed o) (same (take n (drop p b)) (record_bytes o)) h in
    let e = same_eq (take n (drop p b)) (record_bytes o) (and_right (object_allowed o) (same (take n (drop p b)) (record_bytes o)) h) in
    let m : length (take n (drop p b)) ≡ n = ap length e ∙ record_length o (allowed o ok) in
    record {
      allowed = ok;
      here = rw (← e, ← drop-drop n p b) (sym (take-append-drop n (drop p b)));
      inside = omega (arith, simp (length-take, length-drop) at m);
    }

-- all of it, as a function asks for it -------------------------------------------------------------------------------------

pub stored_facts : (p : ℕ) (b : List ℕ) → stands_at p b ≡ true → Stored p b
unfolding slot_at_with
stored_facts p b h =
    let o = object_at p b in
    let s = standing p b h in
    let a = allowed o s.allowed in
    let number : little_endian_at (p + 4) b ≡ o.number = unfold object_at read_record_with in sym (low_drop p 4 b) in
    let maximum : little_endian_at (p + 6) b ≡ o.maximum = unfold object_at read_record_with in sym (low_drop p 6 b) in
    let state : get_or b (p + 10) 0 ≡ o.lcso = unfold object_at read_record_with in sym (get_or-drop p b 10 0) in
    let kind = kind_here p b o _ s.allowed s.here in
    let counted = used_here p b o _ s.allowed s.here in
    let small : (w : Slot) → get_or b (p + slot_at w) 0 ≤ slot_size - 1 = λ w. slot_small _ b _ (slot_here p b o _ s.allowed s.here w) in
    search (h, s, a, kind, number, maximum, state, counted, small Change, small Read, small Execute)

-- a stored counter: its maximum, and all of it is in use
pub stored_counter : (p : ℕ) (b : List ℕ) → Stored p b → is_counter (object_at p b).kind ≡ true →
    ((object_at p b).maximum ≡ counter_size) × (used (object_at p b) ≡ counter_size)
stored_counter p b s c =
    let ok = (standing p b s.stands).allowed in
    (counter_maximum (object_at p b) ok c, counter_content (object_at p b) ok c)

-- the kind of what is stored is none of the session's
pub stored_kind : (p : ℕ) (b : List ℕ) → Stored p b → of_session (object_at p b).kind ≡ false
stored_kind p b t =
    let o = object_at p b in
    (storable o.kind o.maximum o.content (allowed o (standing p b t.stands).allowed).content).not_of_session
