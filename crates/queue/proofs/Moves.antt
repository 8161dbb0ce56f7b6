-- Bytes moved down, and bytes put one behind the other.
use Prim.Native.Nat.{ℕ, ◌+◌, ◌-◌, ◌<◌, ◌≤◌}
use mathlib.Core.List.{List, ◌++◌, append-nil, append_assoc}
use mathlib.Core.Path.{◌≡◌, refl}
use native.Mathlib.Omega.{arith}
use native.Mathlib.Numerals.{add-one}
use lib.ListN.{length, get_or, take, drop, set, length-append, length-drop}
use lib.Seq.{get_or-drop, length-take-le, paste, paste-suc, drop-paste}
use Rattle.primitives.specs.Bytes.{over}
use Rattle.primitives.proofs.Over.{over_over}
use Rattle.rules.specs.Basic.{little_endian, little_endian_4}
use Rattle.rules.specs.Queue.{fare, fare_head, fare_bytes}
use Rattle.laws.proofs.Queues.{four_long}

-- `move_down`: d is what d₀ has become when the first i of n bytes are moved
module _ (d₀ d : List ℕ) (to from n i : ℕ) (down : to ≤ from) (fits : from + n ≤ length d₀) (inv : d ≡ paste d₀ to (drop from d₀) i) where
  -- the byte that is moved next is still what it was
  same_byte : i < n → get_or d (from + i) 0 ≡ get_or (drop from d₀) i 0
  same_byte h =
      let in_s : i < length (drop from d₀) = rw length-drop (omega arith) in
      let k : from + i ≡ to + i + (from - to) = omega arith in
      let past = drop-paste d₀ to (drop from d₀) i (omega arith) (omega arith) in
      rw (get_or-drop from d₀ i 0, k, inv, ← get_or-drop (to + i) (paste d₀ to (drop from d₀) i) (from - to) 0, past) (get_or-drop (to + i) d₀ (from - to) 0)

  pub move_turn : i < n → set d (to + i) (get_or d (from + i) 0) ≡ paste d₀ to (drop from d₀) (i + 1)
  move_turn h = rw (same_byte h, inv, add-one) (paste-suc d₀ to (drop from d₀) i 0 (omega arith) (rw length-drop (omega arith)))

  pub move_end : i ≤ n → n ≤ i → d ≡ over to (take n (drop from d₀)) d₀
  unfolding over
  move_end h k =
      let e : i ≡ n = omega arith in
      let long : length (take n (drop from d₀)) ≡ n = length-take-le n (drop from d₀) (rw length-drop (omega arith)) in
      rw (inv, e, long) (append_assoc (take to d₀) _ _)

-- `put_fare`: four parts, each right behind the one before
pub fare_by : (b p1 p2 p3 p4 body : List ℕ) (at n : ℕ) → at + fare_head + length body ≤ length b →
    p1 ≡ over at (little_endian (8 + length body)) b → p2 ≡ over (at + 2) (little_endian 1) p1 →
    p3 ≡ over (at + 4) (little_endian_4 n) p2 → p4 ≡ over (at + 8) body p3 → p4 ≡ over at (fare_bytes (fare n body)) b
fare_by b p1 p2 p3 p4 body at n h e1 e2 e3 e4 =
    let size = little_endian (8 + length body) in
    let head = size ++ little_endian 1 in
    let l = four_long n in
    let m : length (head ++ little_endian_4 n) ≡ 8 = rw (length-append, l) in
    let whole : (head ++ little_endian_4 n) ++ body ≡ fare_bytes (fare n body) = unfold fare_bytes little_endian_4 in simp append-nil in
    rw (
      e4,
      e3,
      e2,
      e1,
      over_over at (at + 2) size (little_endian 1) b refl (omega arith),
      over_over at (at + 4) head (little_endian_4 n) b refl (omega arith),
      over_over at (at + 8) (head ++ little_endian_4 n) body b (omega arith) (omega arith),
      whole,
    )
