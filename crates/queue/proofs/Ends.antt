-- Where a fare ends: behind it and all before it, where its number is present; what stands behind that end is what is left.
use Prim.Native.Nat.{ℕ, ◌+◌, ◌≤◌}
use mathlib.Core.Bool.{Bool, true, false, ◌||◌}
use mathlib.Core.List.{List, [], ◌∷◌, ◌++◌}
use mathlib.Core.Path.{◌≡◌, refl, sym, ap, ◌∙◌}
use native.Mathlib.Omega.{arith}
use lib.Dec.{eqb}
use lib.ListN.{take, drop}
use lib.Seq.{drop_at, drop-drop}
use Rattle.std.specs.Prelude.{Option, Some, None, if◌then◌else◌}
use Rattle.rules.specs.Basic.{among, little_endian_4}
use Rattle.rules.specs.Queue.{Fare, FareQueue, queue_head, fare_size, fares_bytes, queue_bytes, present_in, up_to, past, acknowledged}
use Rattle.laws.proofs.Tests.{by_test}
use Rattle.laws.proofs.Queues.{fares_size, queue_size, fares_length, fares_last}
use Rattle.laws.proofs.QueueChanges.{fares_more, up_to_past, acknowledged_size}
use Rattle.queue.specs.Ends.{ends_behind, fare_end}

ends : (k n : ℕ) (fs : List Fare) → ends_behind k n fs ≡ (if present_in fs n then Some (k + fares_size (up_to n fs)) else None)
unfolding ends_behind present_in among up_to fares_size
ends k n [] = refl
ends k n (f ∷ fs) = go (eqb n f.number) (present_in fs n) (ends_behind (k + fare_size f) n fs) (ends (k + fare_size f) n fs)
  where
    go : (t p : Bool) (x : Option ℕ) → x ≡ (if p then Some (k + fare_size f + fares_size (up_to n fs)) else None) →
        (if t then Some (k + fare_size f) else x) ≡ (if t || p then Some (k + fares_size (if t then f ∷ [] else f ∷ up_to n fs)) else None)
    go true p x e = ap Some (omega arith)
    go false true x e = e ∙ ap Some (omega arith)
    go false false x e = e

-- a number is present exactly where its fare has an end
pub fare_ends : (n : ℕ) (q : FareQueue) → fare_end n q ≡ (if present_in q.fares n then Some (queue_head + fares_size (up_to n q.fares)) else None)
unfolding fare_end
fare_ends n q = ends queue_head n q.fares

-- what a search found says of the number
module _ (n : ℕ) (q : FareQueue) (x : Option ℕ) (ex : x ≡ fare_end n q) where
  told : x ≡ (if present_in q.fares n then Some (queue_head + fares_size (up_to n q.fares)) else None)
  told = ex ∙ fare_ends n q

  present_by : (e : ℕ) → x ≡ Some e → true ≡ present_in q.fares n
  present_by e h = by_test (present_in q.fares n) sym (λ p. let y : x ≡ None = told ∙ rw p in let z : ◌≡◌ {A = ℕ} 0 1 = cc in absurd (omega arith))

  pub absent_by : x ≡ None → false ≡ present_in q.fares n
  absent_by h =
      by_test (present_in q.fares n)
      (λ p. let y : x ≡ Some (queue_head + fares_size (up_to n q.fares)) = told ∙ rw p in let z : ◌≡◌ {A = ℕ} 0 1 = cc in absurd (omega arith)) sym

-- the fare numbered n ends behind e bytes
module _ (n : ℕ) (q : FareQueue) (e : ℕ) (h : fare_end n q ≡ Some e) where
  end_at : e ≡ queue_head + fares_size (up_to n q.fares)
  end_at =
      let p = present_by n q (fare_end n q) refl e h in
      let y : fare_end n q ≡ Some (queue_head + fares_size (up_to n q.fares)) = fare_ends n q ∙ rw (← p) in
      cc

  pub end_behind : queue_head ≤ e
  end_behind = omega (arith, end_at)

  -- what stands before the end and behind it is all, the next number counted twice
  pub end_is : e + queue_size (acknowledged n q) ≡ queue_head + queue_size q
  end_is = omega (arith, end_at, acknowledged_size n q)

  -- what stands behind it is what is left
  left_bytes : drop e (queue_bytes q) ≡ fares_bytes (past n q.fares)
  left_bytes =
      let gone = up_to n q.fares in
      let left = past n q.fares in
      ap (λ k. drop k (queue_bytes q)) end_at ∙ sym (drop-drop (fares_size gone) queue_head (queue_bytes q)) ∙
      ap (drop (fares_size gone)) (fares_last q ∙ ap fares_bytes (sym (up_to_past n q.fares)) ∙ fares_more gone left) ∙
      drop_at (fares_bytes gone) (fares_bytes left) (fares_size gone) (fares_length gone)

  pub acknowledged_bytes : queue_bytes (acknowledged n q) ≡ take queue_head (queue_bytes q) ++ drop e (queue_bytes q)
  unfolding queue_bytes acknowledged little_endian_4
  acknowledged_bytes = ap (λ x. take queue_head (queue_bytes q) ++ x) (sym left_bytes)
