-- Content and the zeros after it: bytes put over both are content and zeros again.
use Prim.Native.Nat.{ℕ, zero, suc, ◌+◌, ◌-◌, ◌≤◌}
use mathlib.Core.Path.{◌≡◌, sym, ap, ◌∙◌}
use mathlib.Core.List.{List, [], ◌∷◌, ◌++◌, append-nil, append_assoc}
use lib.ListN.{length, take, drop, length-append, length-replicate, drop_of_length-le, replicate-append-replicate}
use lib.Seq.{drop-nil, take-append-le, drop_at}
use native.Mathlib.Omega.{arith}
use native.Mathlib.Nat.{sub-zero, zero-sub, zero-add}
use native.Mathlib.Numerals.{unary_clauses}
use Rattle.rules.specs.Basic.{zeros}
use Rattle.rules.specs.Operation.{put_at}
use Rattle.laws.proofs.Puts.{put_used}
use Rattle.primitives.specs.Bytes.{over}

drop_append : (n : ℕ) (xs ys : List ℕ) → drop n (xs ++ ys) ≡ drop n xs ++ drop (n - length xs) ys
drop_append n [] ys = simp (drop-nil, sub-zero)
drop_append zero (x ∷ xs) ys = simp zero-sub
drop_append (suc n) (x ∷ xs) ys = simp unary_clauses (drop_append n xs ys)

-- the data part of a record: content, and zeros to the maximum
unfoldable pub padded : ℕ → List ℕ → List ℕ
padded m old = old ++ (zeros (m - length old) ++ [])

pub put_padded : (k m : ℕ) (b old : List ℕ) → k + length b ≤ m → length old ≤ m → over k b (padded m old) ≡ padded m (put_at k b old)
unfolding over padded
put_padded k m b old h l =
    let n = k + length b in
    let r = m - length (put_at k b old) in
    let size = put_used k b old in
    let parts : (i j : ℕ) → i + j ≡ m - length old → zeros (m - length old) ≡ zeros i ++ zeros j =
    λ i j e. ap zeros (sym e) ∙ sym (replicate-append-replicate i j 0) in
    let front : take k (old ++ zeros (m - length old)) ≡ take k (old ++ zeros (k - length old)) =
    rw (parts (k - length old) (m - length old - (k - length old)) (omega arith), ← append_assoc)
    (take-append-le k (old ++ zeros (k - length old)) _ (simp (length-append, length-replicate) (omega arith))) in
    let back : drop n (old ++ zeros (m - length old)) ≡ drop n old ++ zeros r =
    rw (drop_append, parts (n - length old) r (omega arith), drop_at (zeros (n - length old)) (zeros r) _ (length-replicate (n - length old) 0)) in
    let shape : put_at k b old ≡ take k (old ++ zeros (k - length old)) ++ (b ++ drop n old) =
    unfold put_at in append_assoc (take k (old ++ zeros (k - length old))) b (drop (k + length b) old) in
    simp (append-nil, front, back) (sym (ap (λ x. x ++ zeros r) shape ∙ simp append_assoc))

-- bytes put alone among zeros
pub put_zeroed : (k m : ℕ) (b : List ℕ) → k + length b ≤ m → over k b (zeros m) ≡ padded m (put_at k b [])
put_zeroed k m b h =
    let none : padded m [] ≡ zeros m = unfold padded in simp (sub-zero, append-nil) in
    rw none at (put_padded k m b [] h (omega arith))

-- all of the data anew
module _ (m : ℕ) (d : List ℕ) (h : length d ≡ m) where
  pub over_padded : (old : List ℕ) → length old ≤ m → over 0 d (padded m old) ≡ d
  unfolding over padded
  over_padded old l =
      let past = drop_of_length-le (padded m old) {i = length d} (simp (append-nil, length-append, length-replicate) (omega arith)) in
      rw (zero-add, past) (append-nil d)

  -- content up to the maximum has no zeros behind it
  pub padded_full : padded m d ≡ d
  unfolding padded
  padded_full =
      let none : m - length d ≡ 0 = omega arith in
      simp (none, append-nil)
