-- Laws of copies and of bytes put at a place.
use Prim.Native.Nat.{ℕ, ◌+◌, ◌<◌, ◌≤◌}
use mathlib.Core.Path.{◌≡◌, sym, ap, ◌∙◌}
use mathlib.Core.List.{List, ◌++◌, append_assoc}
use lib.ListN.{length, get_or, take, drop, set, length-drop, length-take, length-append, take-append-drop}
use lib.Seq.{drop-drop, take-length, take_at, drop_at, paste, paste-suc}
use native.Mathlib.Omega.{arith}
use native.Mathlib.Nat.{add_assoc}
use native.Mathlib.Numerals.{add-one}
use Rattle.primitives.specs.Bytes.{over}

-- `put`: the first i bytes
pub put_turn : (d₀ d s : List ℕ) (at i : ℕ) → d ≡ paste d₀ at s i → i < length s → at + length s ≤ length d₀ →
    set d (at + i) (get_or s i 0) ≡ paste d₀ at s (i + 1)
put_turn d₀ d s at i inv h k = rw (inv, add-one) (paste-suc d₀ at s i 0 (omega arith) h)

pub put_end : (d₀ d s : List ℕ) (at i : ℕ) → d ≡ paste d₀ at s i → i ≤ length s → length s ≤ i → d ≡ over at s d₀
unfolding over
put_end d₀ d s at i inv h k =
    let e : i ≡ length s = omega arith in
    rw (inv, e, take-length) (append_assoc (take at d₀) _ _)

-- bytes over a part -----------------------------------------------------------------------------------------------------

-- what stands between a and c is replaced
pub over_part : (a p q c : List ℕ) (k : ℕ) → length a ≡ k → length p ≡ length q → over k q (a ++ (p ++ c)) ≡ a ++ (q ++ c)
unfolding over
over_part a p q c k h e =
    let past : drop (k + length q) (a ++ (p ++ c)) ≡ c =
    sym (drop-drop (length q) k (a ++ (p ++ c))) ∙ ap (drop (length q)) (drop_at a (p ++ c) k h) ∙ drop_at p c (length q) e in
    rw (take_at a (p ++ c) k h, past)

pub over_length : (a : ℕ) (ys xs : List ℕ) → a + length ys ≤ length xs → length (over a ys xs) ≡ length xs
unfolding over
over_length a ys xs h = simp (length-append, length-take, length-drop) (omega arith)

-- two puts, the second right after the first
pub over_over : (a b : ℕ) (x y xs : List ℕ) → a + length x ≡ b → b + length y ≤ length xs → over b y (over a x xs) ≡ over a (x ++ y) xs
unfolding over
over_over a b x y xs e h =
    let rest = drop (a + length x) xs in
    let n : length (take a xs ++ x) ≡ b = simp (length-append, length-take) (omega arith) in
    let m : length (take (length y) rest) ≡ length y = simp (length-take, length-drop) (omega arith) in
    let put = over_part (take a xs ++ x) (take (length y) rest) y (drop (length y) rest) b n m in
    simp (append_assoc, length-append, add_assoc) (simp (append_assoc, drop-drop, add_assoc) at (rw take-append-drop at put))
