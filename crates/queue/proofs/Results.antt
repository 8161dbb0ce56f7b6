-- What `append` and `acknowledge` leave is the layout of the changed queue.
use Rattle.std.specs.Prelude.{Option, Some, None}
use Prim.Native.Nat.{ℕ, ◌+◌, ◌-◌, ◌<◌, ◌≤◌}
use mathlib.Core.Bool.{true, false≢true}
use mathlib.Core.List.{List, ◌++◌, append_assoc}
use mathlib.Core.Path.{◌≡◌, refl, sym, ap, ◌∙◌}
use native.Mathlib.Omega.{arith}
use lib.ListN.{length, take, drop, length-append, length-drop, length-replicate, take-append-drop, replicate-append-replicate}
use lib.Seq.{drop-append-le, length-take-le, take_at, take-take}
use Rattle.rules.specs.Basic.{zeros, little_endian_4, little_endian_4_at}
use Rattle.primitives.specs.Bytes.{over}
use Rattle.primitives.proofs.Over.{over_over}
use Rattle.rules.specs.Queue.{FareQueue, fare, queue_head, fare_bytes, fares_bytes, queue_bytes, appended, present_in, acknowledged}
use Rattle.laws.proofs.Queues.{queue_size, four_bytes, fare_length, queue_length, sound_layout}
use Rattle.laws.proofs.QueueChanges.{appended_bytes}
use Rattle.queue.specs.Ends.{fare_end}
use Rattle.queue.specs.Held.{Holds, held}
use Rattle.queue.proofs.Ends.{absent_by, end_behind, end_is, acknowledged_bytes}

-- a number in the place of the first one
renewed : (m n : ℕ) (x : List ℕ) → over 0 (little_endian_4 m) (little_endian_4 n ++ x) ≡ little_endian_4 m ++ x
unfolding over little_endian_4
renewed m n x = refl

regroup : (a b c d : List ℕ) → a ++ (b ++ (c ++ d)) ≡ (a ++ (b ++ c)) ++ d
regroup a b c d = simp append_assoc

over_opened : (k : ℕ) (y b : List ℕ) → over k y b ≡ take k b ++ (y ++ drop (k + length y) b)
unfolding over
over_opened k y b = refl

-- what is left of the first u elements behind the first e
drop_take : (e u : ℕ) (b : List ℕ) → e ≤ u → u ≤ length b → drop e (take u b) ≡ take (u - e) (drop e b)
drop_take e u b h l =
    let n = length-take-le u b l in
    let m : length (drop e (take u b)) ≡ u - e = length-drop e (take u b) ∙ ap (λ k. k - e) n in
    sym
    (ap (λ x. take (u - e) (drop e x)) (sym (take-append-drop u b)) ∙ ap (take (u - e)) (drop-append-le e (take u b) (drop u b) (omega arith)) ∙
    take_at (drop e (take u b)) (drop u b) (u - e) m)

-- the data b, and the queue in its first u bytes
module _ (u : ℕ) (b : List ℕ) (h : Holds u b) where
  abbrev q : FareQueue
  q = held u b

  layout : queue_bytes q ≡ take u b
  layout = (sound_layout (take u b) h.sound).0

  pub used_is : queue_size q ≡ u
  used_is = sym (queue_length q) ∙ ap length layout ∙ length-take-le u b h.inside

  in_parts : take u b ≡ little_endian_4 q.next ++ fares_bytes q.fares
  in_parts = sym layout ∙ laid_out
    where
      laid_out : queue_bytes q ≡ little_endian_4 q.next ++ fares_bytes q.fares
      laid_out = unfold queue_bytes in refl

  next_is : little_endian_4_at 0 b ≡ q.next
  next_is =
      let n = little_endian_4 q.next in
      let fs = fares_bytes q.fares in
      ap (little_endian_4_at 0) (sym (take-append-drop u b) ∙ ap (λ x. x ++ drop u b) in_parts ∙ append_assoc n fs (drop u b)) ∙
      four_bytes q.next (fs ++ drop u b)

  -- `append`: k is the number read, p1 the data with the fare, p2 with the next number too ------------------------------------

  module _ (body : List ℕ) (k : ℕ) (ek : k ≡ little_endian_4_at 0 b) where
    -- neither it nor the one behind it wraps
    pub next_fits : (s : ℕ) → q.next < 0xFFFFFFFF → s ≤ 1 → k + s < 0x100000000
    next_fits s l m = omega (arith, ek, next_is)

    pub append_by : (p1 p2 : List ℕ) → p1 ≡ over u (fare_bytes (fare k body)) b → p2 ≡ over 0 (little_endian_4 (k + 1)) p1 →
        p2 ≡ queue_bytes (appended body q) ++ drop (u + 8 + length body) b
    append_by p1 p2 e1 e2 =
        let n = little_endian_4 q.next in
        let fs = fares_bytes q.fares in
        let f = fare_bytes (fare k body) in
        let r = drop (u + 8 + length body) b in
        let long : u + length f ≡ u + 8 + length body = omega (arith, fare_length (fare k body)) in
        let s1 : p1 ≡ n ++ (fs ++ (f ++ r)) =
        e1 ∙ over_opened u f b ∙ (λ i. in_parts i ++ (f ++ drop (long i) b)) ∙ append_assoc n fs (f ++ r) in
        e2 ∙ ap (over 0 (little_endian_4 (k + 1))) s1 ∙ renewed (k + 1) q.next (fs ++ (f ++ r)) ∙ regroup (little_endian_4 (k + 1)) fs f r ∙
        ap (λ x. x ++ r) (ap (λ m. little_endian_4 (m + 1) ++ (fs ++ fare_bytes (fare m body))) (ek ∙ next_is) ∙ sym (appended_bytes body q))

  -- `drop_front`: p1 is the data with the fares moved, p2 with zeros behind them -------------------------------------------------

  module _ (e : ℕ) (inside : e ≤ u) (n : ℕ) (f : fare_end n q ≡ Some e) where
    pub kept_is : queue_head + (u - e) ≡ length (queue_bytes (acknowledged n q))
    kept_is = omega (arith, end_is n q e f, used_is, queue_length (acknowledged n q))

    pub drop_by : (p1 p2 : List ℕ) → queue_head ≤ e → p1 ≡ over queue_head (take (u - e) (drop e b)) b →
        p2 ≡ over (queue_head + (u - e)) (zeros (u - (queue_head + (u - e)))) p1 →
        p2 ≡ queue_bytes (acknowledged n q) ++ zeros (length b - (queue_head + (u - e)))
    drop_by p1 p2 l e1 e2 =
        let d = take (u - e) (drop e b) in
        let kept = queue_head + (u - e) in
        let z = zeros (u - kept) in
        let nd : length d ≡ u - e = length-take-le (u - e) (drop e b) (rw length-drop (omega (arith, h.inside))) in
        let nz : length z ≡ u - kept = length-replicate (u - kept) 0 in
        let behind : queue_head + length (d ++ z) ≡ u = rw length-append (omega (arith, nd, nz)) in
        let all_zero : u - kept + (length b - u) ≡ length b - kept = omega (arith, h.inside) in
        e2 ∙ ap (over kept z) e1 ∙ over_over queue_head kept d z b (omega arith) (omega (arith, h.inside)) ∙ over_opened queue_head (d ++ z) b ∙
        (λ i. take queue_head b ++ ((d ++ z) ++ drop (behind i) b)) ∙ (λ i. take queue_head b ++ ((d ++ z) ++ h.past_used i)) ∙
        ap (λ x. take queue_head b ++ x) (append_assoc d z (zeros (length b - u))) ∙
        ap (λ x. take queue_head b ++ (d ++ x)) (replicate-append-replicate {A = ℕ} (u - kept) (length b - u) 0 ∙ ap zeros all_zero) ∙
        sym (append_assoc (take queue_head b) d (zeros (length b - kept))) ∙
        ap (λ x. x ++ zeros (length b - kept))
        (sym (acknowledged_bytes n q e f ∙ (λ i. take queue_head (layout i) ++ drop e (layout i)) ∙
        (λ i. take-take queue_head u b (omega arith) i ++ drop_take e u b inside h.inside i)))

  -- `acknowledge`: x is what the search in the bytes used found
  pub part_long : u ≡ length (take u b)
  part_long = sym (length-take-le u b h.inside)

  module _ (n : ℕ) (x : Option ℕ) (ex : x ≡ fare_end n q) where
    pub not_absent : present_in q.fares n ≡ true → x ≡ None → ⊥
    not_absent p a = false≢true (absent_by n q x ex a ∙ p)

    module _ (e : ℕ) (f : x ≡ Some e) where
      pub end_found : fare_end n q ≡ Some e
      end_found = sym ex ∙ f

      pub end_past_head : queue_head ≤ e
      end_past_head = end_behind n q e end_found

      pub end_within : e ≤ u
      end_within = omega (arith, end_is n q e end_found, used_is)
