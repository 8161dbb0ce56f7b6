-- What is read of a record that stands in a store: its kind, and the parts that are lent, the expression in a slot and data in use.
use Rattle.std.specs.Prelude.{Ok}
use Prim.Native.Nat.{ℕ, ◌+◌, ◌-◌, ◌≤◌}
use mathlib.Core.Bool.{Bool, true}
use mathlib.Core.List.{List}
use mathlib.Core.Path.{◌≡◌, sym, ap, ◌∙◌}
use native.Mathlib.Omega.{arith}
use native.Mathlib.Nat.{add-sub_cancel_left}
use lib.ListN.{length, get_or, take, drop, length-drop}
use lib.Seq.{drop-drop, take_at, take-append-le, drop-append-le}
use Rattle.rules.specs.declared.Direction.{Direction}
use Rattle.rules.specs.declared.Slot.{Slot}
use Rattle.rules.specs.Basic.{is_some, little_endian_at}
use Rattle.rules.specs.Expression.{expression, expression_bytes}
use Rattle.rules.specs.Object.{Object, used, is_counter, direction, counter_size, object_allowed, expression_in}
use Rattle.rules.specs.Counter.{exhausted}
use Rattle.rules.specs.Kinds.{record_kind}
use Rattle.rules.specs.Layout.{head_size, slot_at}
use Rattle.laws.proofs.Expressions.{expression_back}
use Rattle.laws.proofs.Fitting.{counter_maximum, counter_content}
use Rattle.expression.proofs.Tests.{some_is}
use Rattle.record.specs.Places.{object_at, Stored}
use Rattle.record.proofs.Standing.{Slotted, Standing, standing, slot_allowed, kind_here, slot_here, data_here, slot_inside, slot_small, slot_value, stored_kind}
use Rattle.record.proofs.ByKind.{kind_back}

-- each of the object o, whose record stands at p ---------------------------------------------------------------------------

module _ (p : ℕ) (b : List ℕ) (o : Object) (e : object_at p b ≡ o) (s : Stored p b) where
  told : Standing p b o
  told = rw e at (standing p b s.stands)

  pub told_allowed : object_allowed o ≡ true
  told_allowed = told.allowed

  -- its kind: the number that stands there is that of a record's
  pub kind_told : (n : ℕ) → n ≡ little_endian_at (p + 2) b → record_kind n ≡ Ok o.kind
  kind_told n en = rw (en, kind_here p b o _ told.allowed told.here) (kind_back o.kind (rw e at (stored_kind p b s)))

  -- the expression in a slot
  module _ (w : Slot) (k : ℕ) (ek : k ≡ slot_at w) where
    held : Slotted (p + k) b (expression_in w o)
    held = rw ek (slot_here p b o _ told.allowed told.here w)

    pub slot_fits : p + k + 1 + get_or b (p + k) 0 ≤ length b
    slot_fits = omega (arith, slot_inside (p + k) b _ held, slot_small (p + k) b _ held)

    pub slot_lent : (r : List ℕ) → r ≡ take (get_or b (p + k) 0) (drop (p + k + 1) b) → r ≡ expression_bytes (expression_in w o)
    slot_lent r q = q ∙ slot_value (p + k) b _ held

    pub slot_formed : (r : List ℕ) → r ≡ take (get_or b (p + k) 0) (drop (p + k + 1) b) → is_some (expression r) ≡ true
    slot_formed r q =
        let e = expression_in w o in
        ap (λ x. is_some (expression x)) (slot_lent r q) ∙ some_is (expression (expression_bytes e)) e (expression_back e (slot_allowed o told.allowed w))

  -- data in use
  pub data_lent : (k n : ℕ) → k + n ≤ used o →
      take (p + head_size + k + n - (p + head_size + k)) (drop (p + head_size + k) b) ≡ take n (drop k o.content)
  data_lent k n h =
      rw (add-sub_cancel_left, ← drop-drop k (p + head_size) b, data_here p b o _ told.allowed told.here, drop-append-le k o.content _ (omega arith))
      (take-append-le n (drop k o.content) _ (simp length-drop (omega arith)))

  -- all of it
  pub content_lent : (n : ℕ) → n ≡ used o → take (p + head_size + n - (p + head_size)) (drop (p + head_size) b) ≡ o.content
  content_lent n h = rw (add-sub_cancel_left, data_here p b o _ told.allowed told.here) (take_at o.content _ n (sym h))

  -- a counter: all of its data is in use
  module _ (h : is_counter o.kind ≡ true) where
    sizes : (o.maximum ≡ counter_size) × (used o ≡ counter_size)
    sizes = (counter_maximum o told.allowed h, counter_content o told.allowed h)

    pub counter_inside : p + head_size + counter_size ≤ length b
    counter_inside = omega (arith, told.inside, sizes.0)

    counter_lent : take (p + head_size + counter_size - (p + head_size)) (drop (p + head_size) b) ≡ o.content
    counter_lent = content_lent counter_size (sym sizes.1)

    pub counter_part : length (take (p + head_size + counter_size - (p + head_size)) (drop (p + head_size) b)) ≡ counter_size
    counter_part = ap length counter_lent ∙ sizes.1

    pub exhausted_there : (w : Direction) (r : Bool) → w ≡ direction o.kind →
        r ≡ exhausted w (take (p + head_size + counter_size - (p + head_size)) (drop (p + head_size) b)) → r ≡ exhausted (direction o.kind) o.content
    exhausted_there w r ew f = f ∙ (λ i. exhausted (ew i) (counter_lent i))
