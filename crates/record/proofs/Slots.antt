-- One slot: the tests of its check say whether the bytes are the slot of an allowed expression, and what is put is a slot.
use Prim.Native.Nat.{ℕ, zero, suc, ◌+◌, ◌*◌, ◌-◌, ◌≤◌, ◌<◌}
use mathlib.Core.Path.{◌≡◌, refl, sym, ap, ◌∙◌}
use mathlib.Core.Bool.{Bool, true, false, not, ◌&&◌, and_comm}
use mathlib.Core.List.{List, [], ◌∷◌, ◌++◌}
use borrow.Author.Tests.{le-leb, leb-true, not-true, not-false}
use native.Mathlib.Omega.{arith}
use native.Mathlib.Numerals.{add-one}
use borrow.Author.Rules.{part_to_end}
use Rattle.std.proofs.lemmas.List.{drop_more, take-set, drop-set}
use lib.Dec.{leb}
use lib.ListN.{length, get_or, set, take, drop, length-drop, length-replicate, take-append-drop}
use lib.Seq.{take_at, drop_at, drop-drop, take-add, length-take-le}
use Rattle.rules.specs.Basic.{same, zeros, is_some, little_endian}
use Rattle.rules.specs.Object.{kind_number}
use Rattle.rules.specs.declared.Kind.TheVariants.{Data}
use Rattle.rules.specs.Expression.{expression, expression_bytes, expression_allowed, condition_allowed}
use Rattle.rules.specs.Layout.{slot_size, head_size, slot_of, slot, read_slot, slot_of_with}
use Rattle.laws.proofs.Tests.{and_left, and_right, same_refl, same_eq}
use Rattle.laws.proofs.Expressions.{expression_length, expression_back}
use Rattle.primitives.specs.Bytes.{all_zero, over}
use Rattle.primitives.proofs.Zeros.{zeros_are, are_zeros, zeros_joined}
use Rattle.primitives.proofs.Over.{over_over}
use Rattle.expression.specs.Conditions.{condition_at}
use Rattle.expression.proofs.Tests.{same_test}
use Rattle.expression.proofs.Conditions.{two, four}
use Rattle.expression.proofs.Forms.{well_formed_three}
pub use Rattle.expression.proofs.Forms.{read_allowed}
use Rattle.record.specs.Records.{filled, is_slot, part, slots_from, fixed}

module _ (n : ℕ) (t : List ℕ) (l : length t ≡ slot_size - 1) where
  slot_tests : Bool
  slot_tests = leb n (slot_size - 1) && (is_some (expression (take n t)) && all_zero (drop n t))

  slot_passes : is_slot (n ∷ t) ≡ true → slot_tests ≡ true
  unfolding slot_tests is_slot slot_of_with
  slot_passes h =
      let e = read_slot (n ∷ t) in
      let a = and_left (expression_allowed e) (same (slot e) (n ∷ t)) h in
      let q : slot e ≡ n ∷ t = same_eq (slot e) (n ∷ t) (and_right (expression_allowed e) (same (slot e) (n ∷ t)) h) in
      let b = expression_bytes e in
      let z = zeros (slot_size - 1 - length b) in
      let size : length b ≡ n = cc in
      let rest : b ++ z ≡ t = cc in
      let front : take n t ≡ b = ap (take n) (sym rest) ∙ take_at b z n size in
      let back : drop n t ≡ z = ap (drop n) (sym rest) ∙ drop_at b z n size in
      rw (le-leb n (slot_size - 1) (omega (arith, expression_length e a)), front, back, expression_back e a) (zeros_are (slot_size - 1 - length b))

  passes_slot : slot_tests ≡ true → is_slot (n ∷ t) ≡ true
  unfolding slot_tests is_slot slot_of_with read_slot
  passes_slot h =
      let le : n ≤ slot_size - 1 = leb-true n (slot_size - 1) (and_left (leb n (slot_size - 1)) _ h) in
      let more = and_right (leb n (slot_size - 1)) _ h in
      let (a, b) = read_allowed (take n t) (and_left (is_some (expression (take n t))) (all_zero (drop n t)) more) in
      let z = are_zeros (drop n t) (and_right (is_some (expression (take n t))) (all_zero (drop n t)) more) in
      let tail : zeros (slot_size - 1 - n) ≡ drop n t = sym (z ∙ ap zeros (length-drop n t ∙ ap (λ k. k - n) l)) in
      rw (a, b, length-take-le n t (omega arith), tail, take-append-drop n t) (same_refl (n ∷ t))

-- `zero_from`: the bytes from e on are zero where those before the last 16 are, and these
abbrev last_at : ℕ
last_at = slot_size - 16

pub in_two : (b : List ℕ) (e : ℕ) → e ≤ last_at → all_zero (part b e slot_size) ≡ (all_zero (part b last_at slot_size) && all_zero (part b e last_at))
in_two b e before =
    let whole : slot_size - e ≡ last_at - e + 16 = omega arith in
    let there : e + (last_at - e) ≡ last_at = omega arith in
    ap all_zero (ap (λ n. take n (drop e b)) whole ∙ take-add (last_at - e) 16 (drop e b) ∙
    ap (λ x. part b e last_at ++ take 16 x) (drop-drop (last_at - e) e b ∙ ap (λ n. drop n b) there)) ∙
    zeros_joined (part b e last_at) (part b last_at slot_size) ∙ and_comm (all_zero (part b e last_at)) (all_zero (part b last_at slot_size))

-- the tests of a slot say whether it is one
pub slot_same : (b : List ℕ) → length b ≡ slot_size → is_slot b ≡ (leb (get_or b 0 0) (slot_size - 1) && filled (get_or b 0 0) b)
unfolding slot_tests filled
slot_same [] l = absurd (omega arith)
slot_same (n ∷ t) l =
    let k : length t ≡ slot_size - 1 = omega arith in
    let one : n + 1 - 1 ≡ n = omega arith in
    let rest : part (n ∷ t) (n + 1) slot_size ≡ drop (n + 1) (n ∷ t) = ap (part (n ∷ t) (n + 1)) (sym l) ∙ part_to_end (n ∷ t) (n + 1) in
    rw (rest, one, add-one n) (same_test (is_slot (n ∷ t)) (slot_tests n t k) (slot_passes n t k) (passes_slot n t k))

-- `filled_by_one`, `filled_by_condition`
pub filled_one : (b : List ℕ) → length b ≡ slot_size → filled 1 b ≡ (is_some (expression (get_or b 1 0 ∷ [])) && all_zero (part b 2 slot_size))
unfolding filled
filled_one b l = rw (two b 0 (omega arith))

pub filled_condition : (b : List ℕ) → length b ≡ slot_size → filled 3 b ≡ (condition_allowed (condition_at 1 b) && all_zero (part b 4 slot_size))
unfolding filled condition_at
filled_condition b l = rw (four b 0 (omega arith), well_formed_three _ (get_or b 1 0 ∷ get_or b 2 0 ∷ get_or b 3 0 ∷ []) refl refl)

-- a byte that is put
pub set_over : (b : List ℕ) (k v : ℕ) → k < length b → set b k v ≡ over k (v ∷ []) b
unfolding over
set_over b k v h = sym (take-append-drop k (set b k v)) ∙ (λ i. take-set b k v i ++ drop-set b k v h i)

-- `put_slot`: what it puts is a slot
pub put_by : (r q0 q1 xs v : List ℕ) (at : ℕ) → at + slot_size ≤ length xs → length v < slot_size → q0 ≡ set xs at (length v) →
    q1 ≡ over (at + 1) v q0 → r ≡ over (at + 1 + length v) (zeros (slot_size - 1 - length v)) q1 → r ≡ over at (slot_of v) xs
unfolding slot_of_with
put_by r q0 q1 xs v at h l e0 e1 e2 =
    let n : length (zeros (slot_size - 1 - length v)) ≡ slot_size - 1 - length v = length-replicate (slot_size - 1 - length v) 0 in
    let one : set xs at (length v) ≡ over at (length v ∷ []) xs = set_over xs at (length v) (omega arith) in
    rw (e2, e1, e0, one, over_over at (at + 1) (length v ∷ []) v xs refl (omega arith))
    (over_over at (at + 1 + length v) (length v ∷ v) _ xs (omega arith) (omega arith))

-- `put_fixed`: six parts, each right behind the one before
pub fixed_by : (b p0 p1 p2 p3 p4 r : List ℕ) (n m : ℕ) → head_size ≤ length b → p0 ≡ over 0 (little_endian (head_size + m)) b →
    p1 ≡ over 2 (little_endian 1) p0 → p2 ≡ over 4 (little_endian n) p1 → p3 ≡ over 6 (little_endian m) p2 → p4 ≡ over 8 (little_endian 0) p3 →
    r ≡ over 10 (1 ∷ 0 ∷ []) p4 → r ≡ over 0 (fixed Data n m 0 1) b
unfolding fixed kind_number
fixed_by b p0 p1 p2 p3 p4 r n m h e0 e1 e2 e3 e4 e5 =
    let w = little_endian in
    let a0 = w (head_size + m) in
    let a1 = a0 ++ w 1 in
    let a2 = a1 ++ w n in
    let a3 = a2 ++ w m in
    rw (
      e5,
      e4,
      e3,
      e2,
      e1,
      e0,
      over_over 0 2 a0 (w 1) b refl (omega arith),
      over_over 0 4 a1 (w n) b refl (omega arith),
      over_over 0 6 a2 (w m) b refl (omega arith),
      over_over 0 8 a3 (w 0) b refl (omega arith),
      over_over 0 10 (a3 ++ w 0) (1 ∷ 0 ∷ []) b refl (omega arith),
    )

-- the loop over the slots: where each begins
pub slot_place : (i : ℕ) → i < 3 → 12 + i * 28 ≡ get_or (12 ∷ 40 ∷ 68 ∷ []) i 0
slot_place zero h = refl
slot_place (suc zero) h = refl
slot_place (suc (suc zero)) h = refl
slot_place (suc (suc (suc i))) h = absurd (omega (arith, h))

-- those from the i-th place on are left
module _ (w : Bool) (b ks : List ℕ) (i k : ℕ) (inv : w ≡ slots_from (drop i ks) b) (h : i < length ks) (ek : k ≡ get_or ks i 0) where
  next : w ≡ (is_slot (part b k (k + slot_size)) && slots_from (drop (i + 1) ks) b)
  next = rw ek (inv ∙ ap (λ x. slots_from x b) (drop_more ks i 0 h))

  module _ (q : Bool) (e : q ≡ is_slot (part b k (k + slot_size))) where
    pub slots_stop : not q ≡ true → false ≡ w
    slots_stop f = sym (next ∙ rw (← e, not-true q f))

    pub slots_on : not q ≡ false → w ≡ slots_from (drop (i + 1) ks) b
    slots_on f = next ∙ rw (← e, not-false q f)
