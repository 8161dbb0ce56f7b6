-- The answer, put into the room part by part.
use Prim.Native.Nat.{ℕ, ◌+◌, ◌-◌, ◌/◌, ◌%◌, ◌≤◌, ◌<◌}
use mathlib.Core.Path.{◌≡◌, refl, sym, ap, ◌∙◌}
use mathlib.Core.List.{List, [], ◌∷◌, ◌++◌, append-nil, append_assoc}
use native.Mathlib.Omega.{arith}
use lib.ListN.{length, length-append, get_or}
use Rattle.rules.specs.declared.Slot.{Slot}
use Rattle.rules.specs.declared.Slot.TheVariants.{Change, Read, Execute}
use Rattle.rules.specs.Basic.{big_endian}
use Rattle.rules.specs.Expression.{expression_bytes}
use Rattle.rules.specs.Object.{Object, used, expression_in, object_allowed}
use Rattle.rules.specs.Layout.{slot_size}
use Rattle.rules.specs.Metadata.{Field, field, fields_bytes, object_fields, led_by_20, metadata}
use Rattle.rules.specs.Response.{put_in_front, done_response}
use Rattle.laws.proofs.Expressions as expressions
use Rattle.primitives.specs.Bytes.{over}
use Rattle.primitives.proofs.Over.{over_over}
use mathlib.Core.Bool.{true}
use Rattle.laws.proofs.Facts.{allowed}
use Rattle.response.specs.Begun.{begun}
use Rattle.response.proofs.Begun.{begun_head, begun_more, begun_done}
use Rattle.answer.specs.Answer.{state_and_sizes, slot_tag, slot_field, Sized}

-- one expression's field ---------------------------------------------------------------------------------------------------------

abbrev value : Slot → Object → List ℕ
value s o = expression_bytes (expression_in s o)

abbrev bytes : Slot → Object → List ℕ
bytes s o = fields_bytes (slot_field s o ∷ [])

bytes_are : (s : Slot) (o : Object) → bytes s o ≡ slot_tag s ∷ length (value s o) ∷ value s o
unfolding fields_bytes slot_field field
bytes_are s o = simp append-nil

bytes_length : (s : Slot) (o : Object) → length (bytes s o) ≡ 2 + length (value s o)
bytes_length s o = omega (arith, ap length (bytes_are s o))

pub value_small : (o : Object) (s : Slot) (v : List ℕ) → object_allowed o ≡ true → v ≡ value s o → length v < slot_size
unfolding expression_in
value_small o Change v ok e = rw e (omega (arith, expressions.expression_length o.change (allowed o ok).change))
value_small o Read v ok e = rw e (omega (arith, expressions.expression_length o.read (allowed o ok).read))
value_small o Execute v ok e = rw e (omega (arith, expressions.expression_length o.execute (allowed o ok).execute))

-- `put_field`
pub field_put : (place t : ℕ) (v xs q r : List ℕ) → place + 2 + length v ≤ length xs → q ≡ over place (t ∷ length v ∷ []) xs → r ≡ over (place + 2) v q →
    r ≡ over place (t ∷ length v ∷ v) xs
field_put place t v xs q r h e f = f ∙ ap (over (place + 2) v) e ∙ over_over place (place + 2) (t ∷ length v ∷ []) v xs refl h

-- `put_expression`
module _ (s : Slot) (o : Object) (place n : ℕ) (v : List ℕ) (e : v ≡ value s o) where
  pub room_for : place + length (bytes s o) ≤ n → place + 2 + length v ≤ n
  room_for h = omega (arith, bytes_length s o, ap length e)

  pub place_behind : n ≡ place + 2 + length v → n ≡ place + length (bytes s o)
  place_behind h = omega (arith, bytes_length s o, ap length e)

  pub expression_put : (t : ℕ) (xs r : List ℕ) → t ≡ slot_tag s → r ≡ over place (t ∷ length v ∷ v) xs → r ≡ over place (bytes s o) xs
  expression_put t xs r et er = er ∙ (λ i. over place (et i ∷ length (e i) ∷ e i) xs) ∙ ap (λ x. over place x xs) (sym (bytes_are s o))

-- the whole answer ----------------------------------------------------------------------------------------------------------------

-- `put_sizes`
high_byte : (n : ℕ) → n < 65536 → n / 256 % 256 ≡ n / 256
high_byte n h = omega (arith, h)

pub sizes_put : (o : Object) (st m u n : ℕ) (ms us xs r : List ℕ) → st ≡ o.lcso → m ≡ o.maximum → u ≡ used o → m < 65536 → u < 65536 →
    ms ≡ m / 256 % 256 ∷ m % 256 ∷ [] → us ≡ u / 256 % 256 ∷ u % 256 ∷ [] →
    r ≡ over 4 (0x20 ∷ n ∷ 0xC0 ∷ 1 ∷ st ∷ 0xC4 ∷ 2 ∷ get_or ms 0 0 ∷ get_or ms 1 0 ∷ 0xC5 ∷ 2 ∷ get_or us 0 0 ∷ get_or us 1 0 ∷ []) xs →
    r ≡ over 4 (0x20 ∷ n ∷ fields_bytes (state_and_sizes o)) xs
unfolding fields_bytes state_and_sizes field
sizes_put o st m u n ms us xs r es em eu hm hu bm bu e = rw (← es, ← em, ← eu) (rw (bm, bu, high_byte m hm, high_byte u hu) at e)

fields_append : (fs gs : List Field) → fields_bytes (fs ++ gs) ≡ fields_bytes fs ++ fields_bytes gs
unfolding fields_bytes
fields_append [] gs = refl
fields_append (f ∷ fs) gs = rw (fields_append fs gs, append_assoc f.value (fields_bytes fs) (fields_bytes gs))

-- what is not an expression
abbrev sizes : Object → List ℕ
sizes o = fields_bytes (state_and_sizes o)

sizes_length : (o : Object) → length (sizes o) ≡ 11
unfolding fields_bytes state_and_sizes field
sizes_length o = refl

fields_are : (o : Object) → fields_bytes (object_fields o) ≡ ((sizes o ++ bytes Change o) ++ bytes Read o) ++ bytes Execute o
unfolding object_fields state_and_sizes slot_field expression_in
fields_are o = rw (← fields_append, ← fields_append, ← fields_append)

metadata_length : (o : Object) → length (metadata o) ≡ 13 + length (bytes Change o) + length (bytes Read o) + length (bytes Execute o)
unfolding metadata led_by_20
metadata_length o = omega (arith, simp length-append at (ap length (fields_are o)), sizes_length o)

-- `answer_size`
pub answer_sized : (o : Object) (c r x : ℕ) → c ≡ length (value Change o) → r ≡ length (value Read o) →
    x ≡ length (value Execute o) → c < slot_size → r < slot_size → x < slot_size → Sized o (19 + c + r + x)
answer_sized o c r x ec er ex lc lr lx =
    omega (arith, metadata_length o, bytes_length Change o, bytes_length Read o, bytes_length Execute o)

-- `write_answer`
module _ (o : Object) (n : ℕ) (sized : Sized o n) where
  answer_is : metadata o ≡ (((0x20 ∷ (n - 2) ∷ sizes o) ++ bytes Change o) ++ bytes Read o) ++ bytes Execute o
  unfolding metadata led_by_20
  answer_is = let k : length (fields_bytes (object_fields o)) ≡ n - 2 = omega (arith, sized.is) in λ i. 0x20 ∷ k i ∷ fields_are o i

  pub answer_put : (second third : ℕ) (xs q0 q1 q2 q3 r : List ℕ) → 4 + length (metadata o) ≤ length xs →
      second ≡ 17 + length (bytes Change o) → third ≡ second + length (bytes Read o) →
      q0 ≡ over 0 (0 ∷ 0 ∷ big_endian n) xs →
      q1 ≡ over 4 (0x20 ∷ (n - 2) ∷ sizes o) q0 →
      q2 ≡ over 17 (bytes Change o) q1 →
      q3 ≡ over second (bytes Read o) q2 →
      r ≡ over third (bytes Execute o) q3 →
      r ≡ put_in_front (done_response (metadata o)) xs
  answer_put second third xs q0 q1 q2 q3 r fits es et e0 e1 e2 e3 e4 =
      let m = sized.parts in
      let l = sizes_length o in
      let s1 = begun_more n xs q0 [] (0x20 ∷ (n - 2) ∷ sizes o) q1 4 (begun_head n xs q0 e0) e1 refl (omega arith) in
      let s2 = begun_more n xs q1 _ (bytes Change o) q2 17 s1 e2 (omega arith) (omega arith) in
      let s3 = begun_more n xs q2 _ (bytes Read o) q3 second s2 e3 (simp length-append (omega arith)) (omega arith) in
      let s4 = begun_more n xs q3 _ (bytes Execute o) r third s3 e4 (simp length-append (omega arith)) (omega arith) in
      begun_done n xs r (metadata o) sized.is (s4 ∙ ap (λ x. begun n x xs) (sym answer_is))
