-- Append and acknowledge keep a queue allowed; the sizes and bytes of what they leave.
use Prim.Native.Nat.{ℕ, ◌+◌, ◌<◌, ◌≤◌}
use mathlib.Core.Bool.{Bool, true, false, ◌&&◌}
use mathlib.Core.List.{List, [], ◌∷◌, ◌++◌, append-nil, append_assoc}
use mathlib.Core.Path.{◌≡◌, refl, sym, ap, ◌∙◌}
use native.Mathlib.Omega.{arith}
use borrow.Author.Tests.{eq-eqb, eqb-true, eqb-false, le-leb, lt-leb, leb-true, leb-false, lt-ltb, le-ltb, ltb-true}
use lib.Dec.{eqb, leb, ltb}
use lib.ListN.{length, length-append}
use Rattle.std.specs.Prelude.{if◌then◌else◌}
use Rattle.rules.specs.Basic.{all, among, little_endian_4}
use Rattle.rules.specs.Queue.{Fare, fare, FareQueue, fare_head, body_allowed, bodies_allowed, numbered_below, queue_allowed, fare_bytes, fares_bytes, queue_bytes, appended, present_in, up_to, past, acknowledged}
use Rattle.laws.proofs.Tests.{if_by, by_test, and_left, and_right, and_both, at_place}
use Rattle.laws.proofs.Queues.{fares_size, queue_size}

-- what an allowed queue is
pub record Allowed (q : FareQueue) : Type 0 where
  pub next_fits : q.next < 0x100000000
  pub bodies : bodies_allowed q.fares ≡ true
  pub numbers : numbered_below q.next q.fares ≡ true

pub allowed : (q : FareQueue) → queue_allowed q ≡ true → Allowed q
unfolding queue_allowed
allowed q h = record { next_fits = ltb-true _ _ (at_place _ h 0); bodies = at_place _ h 1; numbers = at_place _ h 2 }

pub is_allowed : (q : FareQueue) → Allowed q → queue_allowed q ≡ true
unfolding queue_allowed all
is_allowed q a = rw (lt-ltb q.next 0x100000000 a.next_fits, a.bodies, a.numbers)

pub body_sizes : (b : List ℕ) → body_allowed b ≡ true → (1 ≤ length b) × (length b ≤ 200)
unfolding body_allowed
body_sizes b h =
    let t = leb 1 (length b) in
    let u = leb (length b) 200 in
    (leb-true 1 (length b) (and_left t u h), leb-true (length b) 200 (and_right t u h))

pub body_of_size : (b : List ℕ) → 1 ≤ length b → length b ≤ 200 → body_allowed b ≡ true
unfolding body_allowed
body_of_size b h k = and_both (leb 1 (length b)) (leb (length b) 200) (le-leb 1 (length b) h) (le-leb (length b) 200 k)

-- the first of several fares, and the others
pub bodies_parts : (f : Fare) (fs : List Fare) → bodies_allowed (f ∷ fs) ≡ true → (body_allowed f.body ≡ true) × (bodies_allowed fs ≡ true)
unfolding bodies_allowed
bodies_parts f fs h = (and_left (body_allowed f.body) (bodies_allowed fs) h, and_right (body_allowed f.body) (bodies_allowed fs) h)

pub bodies_joined : (f : Fare) (fs : List Fare) → body_allowed f.body ≡ true → bodies_allowed fs ≡ true → bodies_allowed (f ∷ fs) ≡ true
unfolding bodies_allowed
bodies_joined f fs h k = and_both (body_allowed f.body) (bodies_allowed fs) h k

pub numbers_parts : (n : ℕ) (f : Fare) (fs : List Fare) → numbered_below n (f ∷ fs) ≡ true →
    (f.number + length (f ∷ fs) ≡ n) × (numbered_below n fs ≡ true)
unfolding numbered_below
numbers_parts n f fs h =
    let t = eqb (f.number + length (f ∷ fs)) n in
    (eqb-true (f.number + length (f ∷ fs)) n (and_left t (numbered_below n fs) h), and_right t (numbered_below n fs) h)

pub numbers_joined : (n : ℕ) (f : Fare) (fs : List Fare) → f.number + length (f ∷ fs) ≡ n → numbered_below n fs ≡ true →
    numbered_below n (f ∷ fs) ≡ true
unfolding numbered_below
numbers_joined n f fs e h =
    and_both (eqb (f.number + length (f ∷ fs)) n) (numbered_below n fs) (eq-eqb (f.number + length (f ∷ fs)) n e) h

pub none_numbered : (n : ℕ) → numbered_below n [] ≡ true
unfolding numbered_below
none_numbered n = refl

pub none_bodies : bodies_allowed [] ≡ true
unfolding bodies_allowed
none_bodies = refl

-- the numbers present are those from the first up to just below n
pub present_between : (n k : ℕ) (fs : List Fare) → numbered_below n fs ≡ true → present_in fs k ≡ leb n (k + length fs) && ltb k n
unfolding present_in among
present_between n k [] h =
    by_test (leb n (k + 0)) (λ t. let l = leb-true n (k + 0) t in rw (t, le-ltb k n (omega arith))) (λ t. rw t)
present_between n k (f ∷ fs) h =
    let (e, later) = numbers_parts n f fs h in
    by_test (eqb k f.number)
    (λ t. let same = eqb-true k f.number t in rw (t, le-leb n (k + length (f ∷ fs)) (omega arith), lt-ltb k n (omega arith)))
    (λ t.
    let step : leb n (k + length fs) ≡ leb n (k + length (f ∷ fs)) =
    by_test (leb n (k + length (f ∷ fs)))
    (λ v. by_test (leb n (k + length fs)) (λ u. rw (u, v))
    (λ u. let l = leb-true n (k + length (f ∷ fs)) v in let m = leb-false n (k + length fs) u in absurd (eqb-false k f.number t (omega arith))))
    (λ v. let l = leb-false n (k + length (f ∷ fs)) v in rw (v, lt-leb n (k + length fs) (omega arith))) in
    rw (t, present_between n k fs later, step))

-- append ------------------------------------------------------------------------------------------------------------------

bodies_more : (fs : List Fare) (f : Fare) → bodies_allowed fs ≡ true → body_allowed f.body ≡ true → bodies_allowed (fs ++ (f ∷ [])) ≡ true
bodies_more [] f h k = bodies_joined f [] k none_bodies
bodies_more (g ∷ fs) f h k =
    let (a, b) = bodies_parts g fs h in
    bodies_joined g (fs ++ (f ∷ [])) a (bodies_more fs f b k)

numbers_more : (n : ℕ) (fs : List Fare) (b : List ℕ) → numbered_below n fs ≡ true →
    numbered_below (n + 1) (fs ++ (fare n b ∷ [])) ≡ true
numbers_more n [] b h = numbers_joined (n + 1) (fare n b) [] refl (none_numbered (n + 1))
numbers_more n (f ∷ fs) b h =
    let g = fare n b in
    let (e, k) = numbers_parts n f fs h in
    numbers_joined (n + 1) f (fs ++ (g ∷ [])) (simp length-append (omega arith)) (numbers_more n fs b k)

pub appended_allowed : (b : List ℕ) (q : FareQueue) → queue_allowed q ≡ true → body_allowed b ≡ true → q.next < 0xFFFFFFFF → queue_allowed (appended b q) ≡ true
unfolding appended
appended_allowed b q h k l =
    let a = allowed q h in
    is_allowed (appended b q)
    (record {
      next_fits = omega arith;
      bodies = bodies_more q.fares (fare q.next b) a.bodies k;
      numbers = numbers_more q.next q.fares b a.numbers;
    })

pub fares_more : (fs gs : List Fare) → fares_bytes (fs ++ gs) ≡ fares_bytes fs ++ fares_bytes gs
unfolding fares_bytes
fares_more [] gs = refl
fares_more (f ∷ fs) gs = ap (λ x. fare_bytes f ++ x) (fares_more fs gs) ∙ sym (append_assoc (fare_bytes f) (fares_bytes fs) (fares_bytes gs))

size_more : (fs gs : List Fare) → fares_size (fs ++ gs) ≡ fares_size fs + fares_size gs
unfolding fares_size
size_more [] gs = omega arith
size_more (f ∷ fs) gs = let e = size_more fs gs in omega arith

pub appended_size : (b : List ℕ) (q : FareQueue) → queue_size (appended b q) ≡ queue_size q + fare_head + length b
unfolding appended fares_size
appended_size b q = omega (arith, size_more q.fares (fare q.next b ∷ []))

pub appended_bytes : (b : List ℕ) (q : FareQueue) →
    queue_bytes (appended b q) ≡ little_endian_4 (q.next + 1) ++ (fares_bytes q.fares ++ fare_bytes (fare q.next b))
unfolding queue_bytes appended fares_bytes
appended_bytes b q =
    ap (λ x. little_endian_4 (q.next + 1) ++ x)
    (fares_more q.fares (fare q.next b ∷ []) ∙ ap (λ x. fares_bytes q.fares ++ x) (append-nil (fare_bytes (fare q.next b))))

-- acknowledge -------------------------------------------------------------------------------------------------------------

bodies_past : (n : ℕ) (fs : List Fare) → bodies_allowed fs ≡ true → bodies_allowed (past n fs) ≡ true
unfolding past
bodies_past n [] h = h
bodies_past n (f ∷ fs) h =
    let k = (bodies_parts f fs h).1 in
    if_by (λ x. bodies_allowed x ≡ true) (eqb n f.number) fs (past n fs) (λ t. k) (λ t. bodies_past n fs k)

numbers_past : (n m : ℕ) (fs : List Fare) → numbered_below m fs ≡ true → numbered_below m (past n fs) ≡ true
unfolding past
numbers_past n m [] h = h
numbers_past n m (f ∷ fs) h =
    let k = (numbers_parts m f fs h).1 in
    if_by (λ x. numbered_below m x ≡ true) (eqb n f.number) fs (past n fs) (λ t. k) (λ t. numbers_past n m fs k)

pub acknowledged_allowed : (n : ℕ) (q : FareQueue) → queue_allowed q ≡ true → queue_allowed (acknowledged n q) ≡ true
unfolding acknowledged
acknowledged_allowed n q h =
    let a = allowed q h in
    is_allowed (acknowledged n q)
    (record {
      next_fits = a.next_fits;
      bodies = bodies_past n q.fares a.bodies;
      numbers = numbers_past n q.next q.fares a.numbers;
    })

-- what is gone and what is left are all
pub up_to_past : (n : ℕ) (fs : List Fare) → up_to n fs ++ past n fs ≡ fs
unfolding up_to past
up_to_past n [] = refl
up_to_past n (f ∷ fs) = go (eqb n f.number) (up_to_past n fs)
  where
    go : (t : Bool) → up_to n fs ++ past n fs ≡ fs → (if t then f ∷ [] else f ∷ up_to n fs) ++ (if t then fs else past n fs) ≡ f ∷ fs
    go true e = refl
    go false e = ap (λ x. f ∷ x) e

pub acknowledged_size : (n : ℕ) (q : FareQueue) → queue_size (acknowledged n q) + fares_size (up_to n q.fares) ≡ queue_size q
unfolding acknowledged
acknowledged_size n q =
    omega (arith, size_more (up_to n q.fares) (past n q.fares), ap fares_size (up_to_past n q.fares))
