-- The check of a queue: how far it has come, and each of its ways out.
use Prim.Native.Nat.{ℕ, ◌+◌, ◌<◌, ◌≤◌}
use mathlib.Core.Bool.{Bool, true, false, not, ◌&&◌, false≢true}
use mathlib.Core.List.{List, [], ◌∷◌, ◌++◌}
use mathlib.Core.Path.{◌≡◌, refl, sym, ap, ◌∙◌}
use native.Mathlib.Omega.{arith}
use borrow.Author.Tests.{eq-eqb, eqb-true, lt-ltb, le-ltb, le-leb, lt-leb, leb-true, leb-false, not-true, not-false}
use lib.Dec.{eqb, leb, ltb}
use lib.ListN.{length, drop, length-drop, drop_of_length-le}
use Rattle.expression.proofs.Tests.{same_test}
use Rattle.expression.proofs.Numbers.{Bytes, four_small, four_back}
use Rattle.rules.specs.Basic.{is_some, little_endian_at, little_endian_4, little_endian_4_at}
use Rattle.rules.specs.Queue.{Fare, FareQueue, queue_head, fare_head, bodies_allowed, numbered_below, queue_allowed, fare_bytes, fares_bytes, queue_bytes, queue, queue_in, present_in}
use Rattle.laws.proofs.Tests.{by_test}
use Rattle.laws.proofs.Queues.{fares_size, queue_size, queue_length, next_first, fares_last, layout_sound, sound_layout}
use Rattle.laws.proofs.QueueChanges.{allowed, is_allowed, present_between, bodies_parts, bodies_joined, numbers_parts, numbers_joined, none_bodies, none_numbered}
use Rattle.queue.specs.Fares.{whole_fare, first_number}
use Rattle.queue.proofs.Fares.{size_here, number_here, length_here, rest_here, whole_here, Whole, whole, fare_at, body_back, fare_back}

-- these bytes are fares numbered from n up to just below m
pub record Series (n m : ℕ) (b : List ℕ) : Type 0 where
  pub fares : List Fare
  pub bytes : b ≡ fares_bytes fares
  pub bodies : bodies_allowed fares ≡ true
  pub numbers : numbered_below m fares ≡ true
  pub count : n + length fares ≡ m

-- what is left of a check that has come to b: w is its answer
pub record Left (w : Bool) (n m : ℕ) (b : List ℕ) : Type 0 where
  pub enough : Series n m b → w ≡ true
  pub needed : w ≡ true → Series n m b

-- where no fares can follow, the answer is no
refused : (w : Bool) (n m : ℕ) (b : List ℕ) → Left w n m b → (Series n m b → ⊥) → false ≡ w
refused true n m b l h = absurd (h (l.needed refl))
refused false n m b l h = refl

-- no fares
no_more : (n m : ℕ) → n ≡ m → Series n m []
no_more n m e =
    record { fares = []; bytes = unfold fares_bytes in refl; bodies = none_bodies; numbers = none_numbered m; count = omega arith }

-- the fare at p, and those behind it
record First (n m p : ℕ) (b : List ℕ) : Type 0 where
  stands : whole_fare p n b ≡ true
  others : Series (n + 1) m (drop (p + little_endian_at p b) b)

module _ (n m p : ℕ) (b : List ℕ) where
  first : Series n m (drop p b) → n < m → First n m p b
  first l h = go l.fares refl
    where
      go : (fs : List Fare) → l.fares ≡ fs → First n m p b
      go [] e = absurd (omega (arith, l.count, ap (λ x. length x) e))
      go (f ∷ fs) e =
          let here : drop p b ≡ fare_bytes f ++ fares_bytes fs = l.bytes ∙ ap fares_bytes e ∙ (unfold fares_bytes in refl) in
          let (body, bodies) = bodies_parts f fs (ap bodies_allowed (sym e) ∙ l.bodies) in
          let (last, numbers) = numbers_parts m f fs (ap (numbered_below m) (sym e) ∙ l.numbers) in
          let count : n + length (f ∷ fs) ≡ m = ap (λ x. n + length x) (sym e) ∙ l.count in
          let same_number : n ≡ f.number = omega arith in
          record {
            stands = ap (λ k. whole_fare p k b) same_number ∙ whole_here p b f (fares_bytes fs) here body;
            others =
                record {
                  fares = fs;
                  bytes = ap (λ k. drop (p + k) b) (size_here p b f (fares_bytes fs) here) ∙ rest_here p b f (fares_bytes fs) here;
                  bodies = bodies;
                  numbers = numbers;
                  count = omega arith;
                };
          }

  joined : Bytes b → Whole p n b → Series (n + 1) m (drop (p + little_endian_at p b) b) → Series n m (drop p b)
  joined bytes w l =
      let f = fare_at p n b in
      let count : n + length (f ∷ l.fares) ≡ m = omega (arith, l.count) in
      record {
        fares = f ∷ l.fares;
        bytes = fare_back b bytes p n w ∙ ap (λ x. fare_bytes f ++ x) l.bytes ∙ (unfold fares_bytes in refl);
        bodies = bodies_joined f l.fares (body_back b bytes p n w) l.bodies;
        numbers = numbers_joined m f l.fares (omega arith) l.numbers;
        count = count;
      }

-- the loop ----------------------------------------------------------------------------------------------------------------

-- what a fare that stands at p tells of its bytes
module _ (r : Bool) (p n : ℕ) (b : List ℕ) (e : r ≡ whole_fare p n b) (t : not r ≡ false) where
  there : Whole p n b
  there = whole p n b (sym e ∙ not-false r t)

  pub size_inside : p + 1 < length b
  size_inside = omega (arith, there.least, there.fits)

  pub stays : (z : ℕ) → z ≡ little_endian_at p b → p + z ≤ length b
  stays z ez = omega (arith, there.least, there.fits)

module _ (w : Bool) (n m p : ℕ) (b : List ℕ) (l : Left w n m (drop p b)) where
  -- no fare is due any more; where the first number is past the next, bytes are left
  pub at_end : m ≤ n → p ≤ length b → (m < n → p < length b) → eqb p (length b) ≡ w
  at_end k i past =
      same_test (eqb p (length b)) w
      (λ t. let e = eqb-true p (length b) t in l.enough (rw (drop_of_length-le b {i = p} (omega arith)) (no_more n m (level e))))
      (λ t. let x = l.needed t in eq-eqb p (length b) (ended x x.fares refl))
    where
      level : p ≡ length b → n ≡ m
      level e = by_test (leb n m) (λ t. omega (arith, leb-true n m t)) (λ f. absurd (omega (arith, past (leb-false n m f))))

      ended : (x : Series n m (drop p b)) (fs : List Fare) → x.fares ≡ fs → p ≡ length b
      ended x [] e =
          let none : drop p b ≡ [] = x.bytes ∙ ap fares_bytes e ∙ (unfold fares_bytes in refl) in
          omega (arith, simp length-drop at (ap length none))
      ended x (f ∷ fs) e = absurd (omega (arith, x.count, ap (λ y. length y) e))

  module _ (h : n < m) where
    pub no_fare : (r : Bool) → r ≡ whole_fare p n b → not r ≡ true → false ≡ w
    no_fare r e t = refused w n m (drop p b) l (λ x. false≢true (sym (not-true r t) ∙ e ∙ (first n m p b x h).stands))

    pub go_on : Bytes b → (r : Bool) → r ≡ whole_fare p n b → not r ≡ false → (z : ℕ) → z ≡ little_endian_at p b → Left w (n + 1) m (drop (p + z) b)
    go_on bytes r er t z ez =
        let s = there r p n b er t in
        rw ez
        (record {
          enough = λ x. l.enough (joined n m p b bytes s x);
          needed = λ t. (first n m p b (l.needed t) h).others;
        })

-- its start ---------------------------------------------------------------------------------------------------------------

-- too few bytes for a fare's head, and enough of them
alone : (b : List ℕ) → length b < queue_head + fare_head → first_number b ≡ little_endian_4_at 0 b
unfolding first_number
alone b h = rw (lt-ltb (length b) (queue_head + fare_head) h)

leading : (b : List ℕ) → queue_head + fare_head ≤ length b → first_number b ≡ little_endian_4_at (queue_head + 4) b
unfolding first_number
leading b h = rw (le-ltb (length b) (queue_head + fare_head) h)

-- a queue's first number and its fares come to its next number
counted : (b : List ℕ) (q : FareQueue) → queue_bytes q ≡ b → queue_allowed q ≡ true → first_number b + length q.fares ≡ q.next
counted b q e h = go q.fares refl
  where
    go : (fs : List Fare) → q.fares ≡ fs → first_number b + length q.fares ≡ q.next
    go [] p =
        let z : fares_size q.fares ≡ 0 = ap fares_size p ∙ (unfold fares_size in refl) in
        let long : length b ≡ queue_size q = ap length (sym e) ∙ queue_length q in
        let next : little_endian_4_at 0 b ≡ q.next = ap (little_endian_4_at 0) (sym e) ∙ next_first q in
        omega (arith, alone b (omega arith), ap (λ x. length x) p)
    go (f ∷ fs) p =
        let here : drop queue_head b ≡ fare_bytes f ++ fares_bytes fs = ap (drop queue_head) (sym e) ∙ fares_last q ∙ ap fares_bytes p ∙ (unfold fares_bytes in refl) in
        let (last, _) = numbers_parts q.next f fs (ap (numbered_below q.next) (sym p) ∙ (allowed q h).numbers) in
        let long = length_here queue_head b f (fares_bytes fs) here in
        omega (arith, leading b (omega arith), number_here queue_head b f (fares_bytes fs) here, ap (λ x. length x) p)

module _ (b : List ℕ) where
  pub too_short : length b < queue_head → false ≡ is_some (queue b)
  too_short h = same_test false (is_some (queue b)) (λ t. absurd (false≢true t)) (λ t. absurd (long t))
    where
      long : is_some (queue b) ≡ true → ⊥
      long t = let (e, _) = sound_layout b t in omega (arith, ap length e, queue_length (queue_in b))

  pub from_start : Bytes b → queue_head ≤ length b → (m : ℕ) → m ≡ little_endian_4_at 0 b → (n : ℕ) → n ≡ first_number b →
      Left (is_some (queue b)) n m (drop queue_head b)
  from_start bytes h m em n en = record { enough = enough; needed = needed }
    where
      enough : Series n m (drop queue_head b) → is_some (queue b) ≡ true
      enough x =
          let q : FareQueue = record { next = m; fares = x.fares } in
          let laid_out : queue_bytes q ≡ little_endian_4 m ++ fares_bytes x.fares = unfold queue_bytes in refl in
          let e : queue_bytes q ≡ b = laid_out ∙ ap (λ y. little_endian_4 m ++ y) (sym x.bytes) ∙ four_back b bytes 0 m h (sym em) in
          layout_sound b q e (is_allowed q (record { next_fits = omega (arith, em, four_small b bytes 0); bodies = x.bodies; numbers = x.numbers }))

      needed : is_some (queue b) ≡ true → Series n m (drop queue_head b)
      needed t =
          let q = queue_in b in
          let (e, ok) = sound_layout b t in
          let a = allowed q ok in
          let next : m ≡ q.next = em ∙ ap (little_endian_4_at 0) (sym e) ∙ next_first q in
          record {
            fares = q.fares;
            bytes = ap (drop queue_head) (sym e) ∙ fares_last q;
            bodies = a.bodies;
            numbers = ap (λ k. numbered_below k q.fares) next ∙ a.numbers;
            count = omega (arith, counted b q e ok);
          }

  pub past_first : (m : ℕ) → m ≡ little_endian_4_at 0 b → (n : ℕ) → n ≡ first_number b → m < n → queue_head < length b
  past_first m em n en l =
      by_test (leb (queue_head + fare_head) (length b)) (λ t. omega (arith, leb-true (queue_head + fare_head) (length b) t))
      (λ f. absurd (omega (arith, alone b (leb-false (queue_head + fare_head) (length b) f))))

-- `is_present`: n is the first number, m the next, k the one asked ----------------------------------------------------------

module _ (b : List ℕ) (h : is_some (queue b) ≡ true) where
  abbrev q : FareQueue
  q = queue_in b

  present_is : (k : ℕ) → present_in q.fares k ≡ leb q.next (k + length q.fares) && ltb k q.next
  present_is k = present_between q.next k q.fares (allowed q (sound_layout b h).1).numbers

  first_is : first_number b + length q.fares ≡ q.next
  first_is = let (e, ok) = sound_layout b h in counted b q e ok

  module _ (k n : ℕ) (en : n ≡ first_number b) where
    pub below_first : k < n → leb n k ≡ present_in q.fares k
    below_first l = rw (lt-leb n k l) (sym (present_is k ∙ rw (lt-leb q.next (k + length q.fares) (omega (arith, first_is)))))

    pub from_first : n ≤ k → (m : ℕ) → m ≡ q.next → ltb k m ≡ present_in q.fares k
    from_first l m em = ap (ltb k) em ∙ sym (present_is k ∙ rw (le-leb q.next (k + length q.fares) (omega (arith, first_is))))
