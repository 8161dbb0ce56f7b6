-- The data part of a queue's record: lent, changed, and back in the store before the count of used bytes.
use Prim.Native.Nat.{ℕ, ◌+◌, ◌-◌, ◌≤◌, ◌<◌}
use mathlib.Core.Bool.{true}
use mathlib.Core.List.{List, ◌++◌, append-nil, append_assoc}
use mathlib.Core.Path.{◌≡◌, sym, ap, ◌∙◌}
use native.Mathlib.Omega.{arith}
use lib.ListN.{length, take, drop, length-append, length-take, length-drop, length-replicate, take-append-drop, replicate-append-replicate}
use lib.Seq.{take_at, drop_at, drop-drop, drop-append-add, length-take-le, take-append_seam}
use Rattle.rules.specs.declared.Kind.TheVariants.{Queue}
use Rattle.rules.specs.Basic.{zeros, little_endian}
use Rattle.rules.specs.Object.{Object, used, is, with_content}
use Rattle.rules.specs.Layout.{head_size}
use Rattle.rules.specs.Queue.{fare_head, queue_bytes, queue_in, appended, present_in, acknowledged}
use Rattle.laws.proofs.Queues.{queue_length}
use Rattle.laws.proofs.QueueChanges.{body_sizes, appended_size}
use Rattle.laws.proofs.Facts.{allowed}
use Rattle.laws.proofs.Fitting.{queue_sound, queue_used, acknowledge_fits}
use Rattle.primitives.specs.Bytes.{over}
use Rattle.primitives.proofs.Over.{over_length}
use Rattle.queue.specs.Held.{Holds, held}
use Rattle.record.specs.Places.{object_at, Stored, with_record}
use Rattle.record.proofs.Standing.{standing, data_here}
use Rattle.change.proofs.Inside.{over_before, lent_whole}
use Rattle.change.proofs.Zeros.{padded}
use Rattle.change.proofs.Changed.{stands_allowed}
use Rattle.change.proofs.Results.{whole_by}
use Rattle.fares.specs.Queued.{MayAppend, MayAcknowledge, appended_at, acknowledged_at}

-- bytes put behind the first k
over_at : (k : ℕ) (d f x : List ℕ) → length f ≡ k → over k d (f ++ x) ≡ f ++ (d ++ drop (length d) x)
unfolding over
over_at k d f x e = rw (take_at f x k e, ← drop-drop (length d) k (f ++ x), drop_at f x k e)

-- two puts, the second before the first, in either order
over_swap : (a k : ℕ) (y d xs : List ℕ) → a + length y ≤ k → k ≤ length xs → over a y (over k d xs) ≡ over k d (over a y xs)
over_swap a k y d xs h l =
    let n : length (take k xs) ≡ k = length-take-le k xs l in
    let m : length (over a y (take k xs)) ≡ k = over_length a y (take k xs) (omega arith) ∙ n in
    let front : (c : List ℕ) → over a y (take k xs ++ c) ≡ over a y (take k xs) ++ c = λ c. over_before a y (take k xs) c (omega arith) in
    let back = over_at k d (over a y (take k xs)) (drop k xs) m in
    ap (over a y) (ap (over k d) (sym (take-append-drop k xs)) ∙ over_at k d (take k xs) (drop k xs) n) ∙ front (d ++ drop (length d) (drop k xs)) ∙
    sym (ap (over k d) (ap (over a y) (sym (take-append-drop k xs)) ∙ front (drop k xs)) ∙ back)

-- the record at p, whose data part ends at e
module _ (p : ℕ) (b : List ℕ) (s : Stored p b) (e : ℕ) (end : e ≡ p + head_size + (object_at p b).maximum) where
  abbrev o : Object
  o = object_at p b

  abbrev part : List ℕ
  part = take (e - (p + head_size)) (drop (p + head_size) b)

  -- its content, and zeros
  part_is : part ≡ o.content ++ zeros (o.maximum - used o)
  part_is =
      let t = standing p b s.stands in
      let n : length (o.content ++ zeros (o.maximum - used o)) ≡ e - (p + head_size) = simp (length-append, length-replicate) (omega (arith, s.used_fits)) in
      rw (data_here p b o _ t.allowed t.here, ← append_assoc) (take_at _ _ (e - (p + head_size)) n)

  part_long : length part ≡ o.maximum
  part_long = simp (length-take, length-drop) (omega (arith, s.inside))

  past_content : (v : ℕ) → used o ≤ v → v ≤ o.maximum → drop v part ≡ zeros (o.maximum - v)
  past_content v h l =
      let j = v - used o in
      let k : used o + j ≡ v = omega arith in
      let n : j + (o.maximum - v) ≡ o.maximum - used o = omega arith in
      rw (part_is, ← k, drop-append-add o.content _ j, ← n, ← replicate-append-replicate {A = ℕ} j _ 0, k)
      (drop_at (zeros j) (zeros (o.maximum - v)) j (length-replicate j 0))

  -- new content, zeros behind it, comes back, and then its length is written
  put_back : (d new r : List ℕ) (v : ℕ) → d ≡ new ++ zeros (o.maximum - v) → v ≡ length new → v ≤ o.maximum →
      r ≡ over (p + 8) (little_endian v) (take (p + head_size) b ++ (d ++ drop (e - (p + head_size)) (drop (p + head_size) b))) →
      r ≡ with_record p (with_content new o) b
  put_back d new r v ed ev l er =
      let long : length d ≡ o.maximum = ap length ed ∙ simp (length-append, length-replicate) (omega arith) in
      let zeroed : d ≡ padded o.maximum new = unfold padded in rw (← ev, append-nil) ed in
      er ∙ ap (over (p + 8) (little_endian v)) (lent_whole (p + head_size) (e - (p + head_size)) d b (omega arith)) ∙
      over_swap (p + 8) (p + head_size) (little_endian v) d b (omega arith) (omega (arith, s.inside)) ∙ whole_by p b s v d new ev long zeroed

  -- a queue's, of which u bytes are used
  module _ (u : ℕ) (eu : u ≡ used o) where
    used_part : take u part ≡ o.content
    used_part = rw (part_is, eu) (take-append_seam o.content _)

    same_queue : held u part ≡ queue_in o.content
    same_queue = ap queue_in used_part

    holds : is Queue o.kind ≡ true → Holds u part
    holds k =
        record {
          inside = omega (arith, part_long, s.used_fits);
          sound = rw used_part (queue_sound o (stands_allowed p b s) k);
          past_used = past_content u (omega arith) (omega (arith, s.used_fits)) ∙ ap (λ n. zeros (n - u)) (sym part_long);
        }

    module _ (body : List ℕ) (may : MayAppend o body) where
      pub append_holds : Holds u part
      append_holds = holds may.is_queue

      pub append_inside : u + fare_head + length body ≤ length part
      append_inside = omega (arith, may.fits, part_long)

      pub append_body : length body ≤ 200
      append_body = (body_sizes body may.allowed).1

      pub append_number : (held u part).next < 0xFFFFFFFF
      append_number = rw same_queue may.number_left

      pub append_by : (v : ℕ) (d r : List ℕ) → v ≡ u + fare_head + length body → d ≡ queue_bytes (appended body (held u part)) ++ drop v part →
          r ≡ over (p + 8) (little_endian v) (take (p + head_size) b ++ (d ++ drop (e - (p + head_size)) (drop (p + head_size) b))) →
          r ≡ appended_at p body b
      append_by v d r ev ed er =
          let q = queue_in o.content in
          let long : v ≡ length (queue_bytes (appended body q)) =
          omega (arith, queue_length (appended body q), appended_size body q, queue_used o (stands_allowed p b s) may.is_queue) in
          put_back d (queue_bytes (appended body q)) r v
          (ed ∙ (λ i. queue_bytes (appended body (same_queue i)) ++ past_content v (omega arith) (omega (arith, may.fits)) i)) long (omega (arith, may.fits)) er

    module _ (number : ℕ) (may : MayAcknowledge o number) where
      pub acknowledge_holds : Holds u part
      acknowledge_holds = holds may.is_queue

      pub acknowledge_present : present_in (held u part).fares number ≡ true
      acknowledge_present = rw same_queue may.present

      module _ (v : ℕ) (ev : v ≡ length (queue_bytes (acknowledged number (held u part)))) where
        long_as : v ≡ length (queue_bytes (acknowledged number (queue_in o.content)))
        long_as = ev ∙ ap (λ q. length (queue_bytes (acknowledged number q))) same_queue

        kept_fits : v ≤ o.maximum
        unfolding with_content
        kept_fits =
            let f = acknowledge_fits o (stands_allowed p b s) may.is_queue number in
            omega (arith, long_as, (allowed _ f.allowed).used_fits)

        pub acknowledge_small : v < 65536
        acknowledge_small = omega (arith, kept_fits, s.most)

        pub acknowledge_by : (d r : List ℕ) → d ≡ queue_bytes (acknowledged number (held u part)) ++ zeros (length part - v) →
            r ≡ over (p + 8) (little_endian v) (take (p + head_size) b ++ (d ++ drop (e - (p + head_size)) (drop (p + head_size) b))) →
            r ≡ acknowledged_at p number b
        acknowledge_by d r ed er =
            put_back d (queue_bytes (acknowledged number (queue_in o.content))) r v
            (ed ∙ (λ i. queue_bytes (acknowledged number (same_queue i)) ++ zeros (part_long i - v))) long_as kept_fits er
