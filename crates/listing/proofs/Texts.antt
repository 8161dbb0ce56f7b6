-- Texts put one after the other.
use Prim.Native.Nat.{ℕ, zero, suc, ◌+◌, ◌-◌, ◌≤◌, ◌<◌, min}
use mathlib.Core.Path.{◌≡◌, refl, sym, ap, ◌∙◌}
use mathlib.Core.List.{List, [], ◌∷◌, ◌++◌, append-nil, append_assoc}
use native.Mathlib.Omega.{arith}
use native.Mathlib.Nat.{zero-min, min-zero, suc-min-suc}
use native.Mathlib.Numerals.{add-one}
use lib.ListN.{length, take, drop, set, length-append, length-take, length-drop, length-set, drop_of_length-le, take-append-drop}
use lib.Seq.{drop-drop, set_split, take_all, take_at, drop_at, take-nil, drop-nil}
use Rattle.primitives.specs.Bytes.{over}
use Rattle.primitives.proofs.Over.{over_length}
use Rattle.listing.specs.Text.{in_front, shown_size, Put}

-- a text is cut at the end of an output: the front of two texts
take_two : (o a b : List ℕ) → take (length o) (a ++ b) ≡ take (length o) a ++ take (length (drop (length a) o)) b
take_two [] a b = rw drop-nil
take_two (x ∷ o) [] b = refl
take_two (x ∷ o) (y ∷ a) b = ap (λ z. y ∷ z) (take_two o a b)

-- past the end there is nothing to take or to drop
pub take_min : (k : ℕ) (text : List ℕ) → take (min k (length text)) text ≡ take k text
take_min k [] = rw min-zero (sym (take-nil k))
take_min zero (x ∷ text) = rw zero-min
take_min (suc k) (x ∷ text) = rw suc-min-suc (ap (λ z. x ∷ z) (take_min k text))

drop_min : (k : ℕ) (o : List ℕ) → drop (min k (length o)) o ≡ drop k o
drop_min k [] = rw min-zero (sym (drop-nil k))
drop_min zero (x ∷ o) = rw zero-min
drop_min (suc k) (x ∷ o) = rw suc-min-suc (drop_min k o)

-- nothing is put
pub put_nothing : (at : ℕ) (o : List ℕ) → at ≤ length o → Put at [] o o at
unfolding in_front
put_nothing at o h = record { start = h; bytes = rw take-nil (sym (take-append-drop at o)); count = omega arith; whole = refl }

-- a text, and another after it
pub put_next : {at : ℕ} {a b o o₁ o₂ : List ℕ} {n₁ n₂ : ℕ} → Put at a o o₁ n₁ → Put n₁ b o₁ o₂ n₂ → Put at (a ++ b) o o₂ n₂
unfolding in_front
put_next {at} {a} {b} {o} {o₁} {o₂} {n₁} {n₂} p q =
    let rest = drop at o in
    let front = take at o ++ take (length rest) a in
    let past = drop (length a) rest in
    let left : length rest ≡ length o - at = length-drop at o in
    let reach : length front ≡ n₁ = simp (length-append, length-take, length-drop) (omega arith) in
    let first : o₁ ≡ front ++ past = p.bytes ∙ sym (append_assoc (take at o) (take (length rest) a) past) in
    let kept : take n₁ o₁ ≡ front = ap (take n₁) first ∙ take_at front past n₁ reach in
    let behind : drop n₁ o₁ ≡ past = ap (drop n₁) first ∙ drop_at front past n₁ reach in
    record {
      start = p.start;
      bytes = q.bytes ∙ rw (kept, behind, take_two rest a b, length-append, drop-drop (length b) (length a) rest) (simp append_assoc);
      count = simp length-append (omega arith);
      whole = omega arith;
    }

-- `put_byte`
pub byte_fits : (at b : ℕ) (o : List ℕ) → at < length o → Put at (b ∷ []) o (set o at b) (at + 1)
unfolding in_front
byte_fits at b o h =
    let shown : take (length (drop at o)) (b ∷ []) ≡ b ∷ [] = take_all (length (drop at o)) (b ∷ []) (simp length-drop (omega arith)) in
    record { start = omega arith; bytes = rw (shown, drop-drop, add-one) (set_split o at b h); count = omega arith; whole = length-set o at b }

pub byte_past : (at b : ℕ) (o : List ℕ) → at ≤ length o → length o ≤ at → Put at (b ∷ []) o o at
unfolding in_front
byte_past at b o h k =
    let none : drop at o ≡ [] = drop_of_length-le o k in
    record { start = h; bytes = rw (none, take_all at o) (sym (append-nil o)); count = omega arith; whole = refl }

-- `put_text`
pub text_put : (at n : ℕ) (text o after : List ℕ) → at ≤ length o → n ≡ min (length o - at) (length text) → after ≡ over at (take n text) o
    → Put at text o after (at + n)
unfolding in_front over
text_put at n text o after h e f =
    let left : length (drop at o) ≡ length o - at = length-drop at o in
    let small : n ≡ min (length (drop at o)) (length text) = omega arith in
    let size : at + min n (length text) ≡ at + min (length text) (length (drop at o)) = omega arith in
    record {
      start = h;
      bytes = f ∙ rw (length-take, size, ← drop-drop (min (length text) (length (drop at o))) at o, drop_min, small, take_min);
      count = omega arith;
      whole = ap length f ∙ over_length at (take n text) o (simp length-take (omega arith));
    }

-- what is left to put, so that all of a text will have been put
pub record Onward (at₀ : ℕ) (all o₀ : List ℕ) (at : ℕ) (rest o : List ℕ) : Type 0 where
  pub then : (after : List ℕ) (n : ℕ) → Put at rest o after n → Put at₀ all o₀ after n

module _ {at₀ at : ℕ} {all o₀ rest o : List ℕ} where
  -- a part of the rest is put
  pub onward : {text left o₁ : List ℕ} {n₁ : ℕ} → Onward at₀ all o₀ at rest o → Put at text o o₁ n₁ → rest ≡ text ++ left → Onward at₀ all o₀ n₁ left o₁
  onward w p e = record { then = λ after n q. w.then after n (rw e (put_next p q)) }

  -- all of the rest is put
  pub onward_last : {text after : List ℕ} {n : ℕ} → Onward at₀ all o₀ at rest o → Put at text o after n → rest ≡ text → Put at₀ all o₀ after n
  onward_last {n = n} w p e = w.then _ n (rw e p)

  -- nothing is left
  pub onward_end : Onward at₀ all o₀ at rest o → rest ≡ [] → at ≤ length o → Put at₀ all o₀ o at
  onward_end w e h = w.then o at (rw e (put_nothing at o h))

pub onward_start : (at : ℕ) (all o : List ℕ) → Onward at all o at all o
onward_start at all o = record { then = λ after n p. p }

-- for a caller that shows what was put: its count lies within the output
pub size_within : (text o after : List ℕ) (n : ℕ) → n ≡ shown_size text o → after ≡ in_front text o → n ≤ length after
unfolding shown_size in_front
size_within text o after n e f = rw f (simp (length-append, length-take, length-drop) (omega arith))

pub size_count : (text o after : List ℕ) (n : ℕ) → n ≡ shown_size text o → after ≡ in_front text o → n ≡ length (take n after)
size_count text o after n e f = simp length-take (omega (arith, size_within text o after n e f))
