-- A fare at a place of the bytes: what its bytes say, and when bytes are a fare.
use Prim.Native.Nat.{ℕ, ◌+◌, ◌-◌, ◌≤◌}
use mathlib.Core.Bool.{true}
use mathlib.Core.List.{List, [], ◌++◌, append-nil, append_assoc}
use mathlib.Core.Path.{◌≡◌, sym, ap, ◌∙◌}
use native.Mathlib.Omega.{arith}
use native.Mathlib.Nat.{add-zero, add_assoc}
use borrow.Author.Tests.{eq-eqb, eqb-true, le-leb, leb-true}
use lib.Dec.{eqb}
use lib.ListN.{length, take, drop, length-append, length-drop, take-append-drop}
use lib.Seq.{drop_at, drop-drop, length-take-le}
use Rattle.rules.specs.Basic.{all, little_endian, little_endian_at, little_endian_4, little_endian_4_at}
use Rattle.rules.specs.Queue.{Fare, fare, fare_head, fare_size, fare_kind, body_allowed, fare_bytes}
use Rattle.laws.proofs.Tests.{at_place}
use Rattle.laws.proofs.Queues.{fare_length, size_first, kind_second, number_third}
use Rattle.laws.proofs.QueueChanges.{body_sizes, body_of_size}
use Rattle.expression.proofs.Numbers.{Bytes, low_drop, low_4_drop, two_back, four_back}
use Rattle.queue.specs.Fares.{whole_fare}

-- a fare that stands at p, before r -----------------------------------------------------------------------------------------

module _ (p : ℕ) (b : List ℕ) (f : Fare) (r : List ℕ) (e : drop p b ≡ fare_bytes f ++ r) where
  pub size_here : little_endian_at p b ≡ fare_size f
  size_here = ap (λ k. little_endian_at k b) (sym (add-zero p)) ∙ sym (low_drop p 0 b) ∙ ap (little_endian_at 0) e ∙ size_first f r

  kind_here : little_endian_at (p + 2) b ≡ fare_kind
  kind_here = sym (low_drop p 2 b) ∙ ap (little_endian_at 2) e ∙ kind_second f r

  pub number_here : little_endian_4_at (p + 4) b ≡ f.number
  number_here = sym (low_4_drop p 4 b) ∙ ap (little_endian_4_at 4) e ∙ number_third f r

  pub length_here : length b - p ≡ fare_size f + length r
  length_here = sym (length-drop p b) ∙ ap length e ∙ length-append (fare_bytes f) r ∙ ap (λ n. n + length r) (fare_length f)

  pub rest_here : drop (p + fare_size f) b ≡ r
  rest_here = sym (drop-drop (fare_size f) p b) ∙ ap (drop (fare_size f)) e ∙ drop_at (fare_bytes f) r (fare_size f) (fare_length f)

  pub whole_here : body_allowed f.body ≡ true → whole_fare p f.number b ≡ true
  unfolding whole_fare all
  whole_here h =
      let (l, m) = body_sizes f.body h in
      rw (
        le-leb (fare_head + 1) (length b - p) (omega (arith, length_here)),
        le-leb (fare_head + 1) (little_endian_at p b) (omega (arith, size_here)),
        le-leb (little_endian_at p b) (fare_head + 200) (omega (arith, size_here)),
        le-leb (little_endian_at p b) (length b - p) (omega (arith, size_here, length_here)),
        eq-eqb (little_endian_at (p + 2) b) fare_kind kind_here,
        eq-eqb (little_endian_4_at (p + 4) b) f.number number_here,
      )

-- bytes that are a fare -----------------------------------------------------------------------------------------------------

-- what the check of a fare at p found
pub record Whole (p n : ℕ) (b : List ℕ) : Type 0 where
  pub least : fare_head + 1 ≤ little_endian_at p b
  pub most : little_endian_at p b ≤ fare_head + 200
  pub fits : little_endian_at p b ≤ length b - p
  pub kind : little_endian_at (p + 2) b ≡ fare_kind
  pub number : little_endian_4_at (p + 4) b ≡ n

pub whole : (p n : ℕ) (b : List ℕ) → whole_fare p n b ≡ true → Whole p n b
unfolding whole_fare
whole p n b h =
    record {
      least = leb-true (fare_head + 1) (little_endian_at p b) (at_place _ h 1);
      most = leb-true (little_endian_at p b) (fare_head + 200) (at_place _ h 2);
      fits = leb-true (little_endian_at p b) (length b - p) (at_place _ h 3);
      kind = eqb-true (little_endian_at (p + 2) b) fare_kind (at_place _ h 4);
      number = eqb-true (little_endian_4_at (p + 4) b) n (at_place _ h 5);
    }

-- the only fare numbered n that the bytes at p can be
abbrev pub fare_at : ℕ → ℕ → List ℕ → Fare
fare_at p n b = fare n (take (little_endian_at p b - fare_head) (drop (p + fare_head) b))

module _ (b : List ℕ) (bytes : Bytes b) (p n : ℕ) (w : Whole p n b) where
  body_long : length (fare_at p n b).body ≡ little_endian_at p b - fare_head
  body_long = length-take-le (little_endian_at p b - fare_head) (drop (p + fare_head) b) (rw length-drop (omega (arith, w.fits)))

  pub body_back : body_allowed (fare_at p n b).body ≡ true
  body_back = body_of_size (fare_at p n b).body (omega (arith, body_long, w.least)) (omega (arith, body_long, w.most))

  pub fare_back : drop p b ≡ fare_bytes (fare_at p n b) ++ drop (p + little_endian_at p b) b
  unfolding fare_bytes
  fare_back =
      let z = little_endian_at p b in
      let body = (fare_at p n b).body in
      let end : p + z ≡ p + fare_head + (z - fare_head) = omega (arith, w.least) in
      let size : z ≡ fare_size (fare_at p n b) = omega (arith, body_long, w.least) in
      let last : body ++ drop (p + z) b ≡ drop (p + fare_head) b =
      rw (end, ← drop-drop (z - fare_head) (p + fare_head) b) (take-append-drop (z - fare_head) (drop (p + fare_head) b)) in
      let number = four_back b bytes (p + 4) n (omega (arith, w.fits, w.least)) w.number in
      let kind = two_back b bytes (p + 2) fare_kind (omega (arith, w.fits, w.least)) w.kind in
      let first = two_back b bytes p (fare_size (fare_at p n b)) (omega (arith, w.fits, w.least)) size in
      sym (ap (λ x. little_endian (fare_size (fare_at p n b)) ++ (little_endian fare_kind ++ x))
      (append_assoc (little_endian_4 n) (body ++ []) _ ∙ rw (append-nil, last) (rw add_assoc at number)) ∙
      ap (λ x. little_endian (fare_size (fare_at p n b)) ++ x) (rw add_assoc at kind) ∙ first)

-- a test of a call's result
pub as_eqb : {x a : ℕ} (b : ℕ) → x ≡ a → eqb x b ≡ eqb a b
as_eqb b e = ap (λ k. eqb k b) e
