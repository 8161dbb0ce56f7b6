-- `queue_bytes` and `queue` are inverse: bytes are a queue exactly where they are the layout of an allowed queue, and of this one alone.
use Prim.Native.Nat.{ℕ, zero, suc, ◌+◌, ◌-◌, ◌≤◌}
use mathlib.Core.Bool.{true}
use mathlib.Core.List.{List, [], ◌∷◌, ◌++◌, append-nil}
use mathlib.Core.Option.{some}
use mathlib.Core.Path.{◌≡◌, refl, sym, ap, ◌∙◌}
use native.Mathlib.Nat.{not-suc-le-zero, le_of_suc-le-suc}
use native.Mathlib.Omega.{arith}
use lib.ListN.{length, length-append, take, drop}
use lib.Seq.{take_at, drop_at}
use Rattle.rules.specs.Basic.{little_endian_at, little_endian_4, little_endian_4_at, is_some}
use Rattle.rules.specs.Queue.{Fare, FareQueue, empty_queue, fare_head, queue_head, fare_size, queue_allowed, fare_bytes, fares_bytes, queue_bytes, read_fare, read_fares, read_queue, queue, queue_in}
use Rattle.laws.proofs.Tests.{some_else, same_refl, read_checked}
use Rattle.laws.proofs.Inverse.{two_bytes}

-- sizes ---------------------------------------------------------------------------------------------------------------------

unfoldable pub fares_size : List Fare → ℕ
fares_size [] = 0
fares_size (f ∷ fs) = fare_size f + fares_size fs

-- what an object's used is
abbrev pub queue_size : FareQueue → ℕ
queue_size q = queue_head + fares_size q.fares

-- four bytes --------------------------------------------------------------------------------------------------------------

pub four_bytes : (n : ℕ) (r : List ℕ) → little_endian_4_at 0 (little_endian_4 n ++ r) ≡ n
unfolding little_endian_4_at little_endian_4 little_endian_at
four_bytes n r = omega arith

pub four_long : (n : ℕ) → length (little_endian_4 n) ≡ 4
unfolding little_endian_4
four_long n = refl

-- one fare ----------------------------------------------------------------------------------------------------------------

pub fare_length : (f : Fare) → length (fare_bytes f) ≡ fare_size f
unfolding fare_bytes little_endian_4
fare_length f = simp (append-nil) (omega arith)

-- what its bytes say, whatever follows
module _ (f : Fare) (r : List ℕ) where
  pub size_first : little_endian_at 0 (fare_bytes f ++ r) ≡ fare_size f
  unfolding fare_bytes little_endian_at
  size_first = two_bytes (fare_size f)

  pub kind_second : little_endian_at 2 (fare_bytes f ++ r) ≡ 1
  unfolding fare_bytes little_endian_at
  kind_second = refl

  pub number_third : little_endian_4_at 4 (fare_bytes f ++ r) ≡ f.number
  unfolding fare_bytes little_endian_4_at little_endian_4 little_endian_at
  number_third = omega arith

  pub body_last : drop fare_head (fare_bytes f ++ r) ≡ f.body ++ r
  unfolding fare_bytes little_endian_4
  body_last = ap (λ x. x ++ r) (append-nil f.body)

  pub fare_read : read_fare (fare_bytes f ++ r) ≡ f
  unfolding read_fare
  fare_read = λ i. record { number = number_third i; body = body i }
    where
      b : List ℕ
      b = fare_bytes f ++ r

      n : little_endian_at 0 b - fare_head ≡ length f.body
      n = omega (arith, size_first)

      body : take (little_endian_at 0 b - fare_head) (drop fare_head b) ≡ f.body
      body = ap (λ k. take k (drop fare_head b)) n ∙ ap (take (length f.body)) body_last ∙ take_at f.body r (length f.body) refl

  pub fare_passed : drop (fare_size f) (fare_bytes f ++ r) ≡ r
  fare_passed = drop_at (fare_bytes f) r (fare_size f) (fare_length f)

-- all fares ---------------------------------------------------------------------------------------------------------------

-- the first of several fares is read, and the reading goes on after it
pub first_read : (n : ℕ) (f : Fare) (r : List ℕ) → read_fares (suc n) (fare_bytes f ++ r) ≡ f ∷ read_fares n r
first_read n f r =
    step ∙ (λ i. fare_read f r i ∷ read_fares n (drop (size_first f r i) (fare_bytes f ++ r))) ∙
    ap (λ x. f ∷ read_fares n x) (fare_passed f r)
  where
    step : read_fares (suc n) (fare_bytes f ++ r) ≡
        read_fare (fare_bytes f ++ r) ∷ read_fares n (drop (little_endian_at 0 (fare_bytes f ++ r)) (fare_bytes f ++ r))
    step = unfold read_fares fare_bytes in refl

pub fares_read : (n : ℕ) (fs : List Fare) → length fs ≤ n → read_fares n (fares_bytes fs) ≡ fs
unfolding fares_bytes
fares_read zero [] l = unfold read_fares in refl
fares_read (suc n) [] l = unfold read_fares in refl
fares_read zero (f ∷ fs) l = absurd (not-suc-le-zero l)
fares_read (suc n) (f ∷ fs) l = first_read n f (fares_bytes fs) ∙ ap (λ x. f ∷ x) (fares_read n fs (le_of_suc-le-suc l))

pub fares_length : (fs : List Fare) → length (fares_bytes fs) ≡ fares_size fs
unfolding fares_bytes fares_size
fares_length [] = refl
fares_length (f ∷ fs) = length-append (fare_bytes f) (fares_bytes fs) ∙ (λ i. fare_length f i + fares_length fs i)

-- more bytes than fares
pub fares_count : (fs : List Fare) → length fs ≤ fares_size fs
unfolding fares_size
fares_count [] = omega arith
fares_count (f ∷ fs) = let l = fares_count fs in omega arith

pub queue_length : (q : FareQueue) → length (queue_bytes q) ≡ queue_size q
unfolding queue_bytes
queue_length q = length-append (little_endian_4 q.next) (fares_bytes q.fares) ∙ (λ i. four_long q.next i + fares_length q.fares i)

-- what a queue's bytes say
pub next_first : (q : FareQueue) → little_endian_4_at 0 (queue_bytes q) ≡ q.next
unfolding queue_bytes
next_first q = four_bytes q.next (fares_bytes q.fares)

pub fares_last : (q : FareQueue) → drop queue_head (queue_bytes q) ≡ fares_bytes q.fares
unfolding queue_bytes little_endian_4
fares_last q = refl

pub queue_read : (q : FareQueue) → read_queue (queue_bytes q) ≡ q
unfolding read_queue
queue_read q = λ i. record { next = next_first q i; fares = fares i }
  where
    enough : length q.fares ≤ length (queue_bytes q)
    enough = omega (arith, fares_count q.fares, queue_length q)

    fares : read_fares (length (queue_bytes q)) (drop queue_head (queue_bytes q)) ≡ q.fares
    fares = ap (read_fares (length (queue_bytes q))) (fares_last q) ∙ fares_read (length (queue_bytes q)) q.fares enough

-- the two theorems --------------------------------------------------------------------------------------------------------

-- an allowed queue is read back from its layout
pub queue_of_bytes : (q : FareQueue) → queue_allowed q ≡ true → queue (queue_bytes q) ≡ some q
unfolding queue
queue_of_bytes q h = rw (queue_read q, h, same_refl (queue_bytes q))

-- bytes that are read are the layout of what is read, which is allowed
pub bytes_of_queue : (b : List ℕ) (q : FareQueue) → queue b ≡ some q → (queue_bytes q ≡ b) × (queue_allowed q ≡ true)
unfolding queue
bytes_of_queue b q h = read_checked queue_allowed queue_bytes b (read_queue b) q h

-- bytes are a queue where they are the layout of an allowed one
pub layout_sound : (b : List ℕ) (q : FareQueue) → queue_bytes q ≡ b → queue_allowed q ≡ true → is_some (queue b) ≡ true
layout_sound b q e h = ap (λ x. is_some (queue x)) (sym e) ∙ ap is_some (queue_of_bytes q h)

-- and the layout of the one that they are read as
pub sound_layout : (b : List ℕ) → is_some (queue b) ≡ true → (queue_bytes (queue_in b) ≡ b) × (queue_allowed (queue_in b) ≡ true)
sound_layout b h = bytes_of_queue b (queue_in b) (some_else (queue b) (empty_queue 0) h)
