-- Bytes put inside a part of others, and inside a part that is lent.
use Prim.Native.Nat.{ℕ, ◌+◌, ◌≤◌}
use mathlib.Core.List.{List, ◌++◌, append_assoc}
use mathlib.Core.Path.{◌≡◌, refl}
use native.Mathlib.Omega.{arith}
use native.Mathlib.Nat.{add_assoc}
use lib.ListN.{length, take, drop, length-take, length-drop, take-append-drop}
use lib.Seq.{drop-drop, take-append-le, drop-append-le, take-append-add, drop-append-add, length-take-le}
use Rattle.primitives.specs.Bytes.{over}
use Rattle.primitives.proofs.Over.{over_length}

-- behind p bytes
pub over_behind : (p k : ℕ) (q a x : List ℕ) → length a ≡ p → over (p + k) q (a ++ x) ≡ a ++ over k q x
unfolding over
over_behind p k q a x h = rw (← h) (simp (add_assoc, take-append-add, drop-append-add, append_assoc))

-- before other bytes
pub over_before : (k : ℕ) (q x c : List ℕ) → k + length q ≤ length x → over k q (x ++ c) ≡ over k q x ++ c
unfolding over
over_before k q x c l = rw (take-append-le k x c (omega arith), drop-append-le (k + length q) x c l) (simp append_assoc)

-- inside bytes that were put at p
pub over_inside : (p k : ℕ) (y x b : List ℕ) → p ≤ length b → k + length y ≤ length x → over (p + k) y (over p x b) ≡ over p (over k y x) b
over_inside p k y x b h l =
    let c = drop (p + length x) b in
    let apart : over p x b ≡ take p b ++ (x ++ c) = unfold over in refl in
    let together : over p (over k y x) b ≡ take p b ++ (over k y x ++ drop (p + length (over k y x)) b) = unfold over in refl in
    rw (apart, together, over_length k y x l, over_behind p k y (take p b) (x ++ c) (length-take-le p b h), over_before k y x c l)

-- a lent part of m bytes from a on, with bytes put at k of it, comes back
pub lent_over : (a k m : ℕ) (y d xs : List ℕ) → a + m ≤ length xs → k + length y ≤ m → d ≡ over k y (take m (drop a xs)) →
    take a xs ++ (d ++ drop m (drop a xs)) ≡ over (a + k) y xs
lent_over a k m y d xs h l e =
    let within = over_before k y (take m (drop a xs)) (drop m (drop a xs)) (simp (length-take, length-drop) (omega arith)) in
    let behind = over_behind a k y (take a xs) (drop a xs) (length-take-le a xs (omega arith)) in
    rw (e, ← within, take-append-drop m (drop a xs), ← behind, take-append-drop a xs)

-- a lent part of as many bytes as d comes back as d
pub lent_whole : (a m : ℕ) (d xs : List ℕ) → length d ≡ m → take a xs ++ (d ++ drop m (drop a xs)) ≡ over a d xs
unfolding over
lent_whole a m d xs h = rw (← h, drop-drop)
