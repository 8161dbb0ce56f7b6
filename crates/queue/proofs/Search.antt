-- The search for a fare: how far it has come, and each of its ways out.
use Prim.Native.Nat.{ℕ, ◌+◌, ◌-◌, ◌<◌, ◌≤◌}
use mathlib.Core.Bool.{true}
use mathlib.Core.List.{List, [], ◌∷◌, ◌++◌}
use mathlib.Core.Path.{◌≡◌, refl, sym, ap, ◌∙◌}
use native.Mathlib.Omega.{arith}
use borrow.Author.Tests.{eq-eqb, ne_eqb}
use lib.Dec.{eqb}
use lib.ListN.{length, drop, length-drop, drop_of_length-le}
use Rattle.std.specs.Prelude.{Some, None, if◌then◌else◌}
use Rattle.rules.specs.Basic.{is_some, little_endian_at, little_endian_4_at}
use Rattle.rules.specs.Queue.{Fare, queue_head, fare_size, fare_bytes, fares_bytes, queue, queue_in}
use Rattle.laws.proofs.Queues.{fares_length, fares_count, queue_length, next_first, fares_last, sound_layout}
use Rattle.queue.specs.Ends.{ends_behind, fare_end}
use Rattle.queue.proofs.Fares.{size_here, number_here, length_here, rest_here}

-- `first_number`, `next_number`
module _ (b : List ℕ) (h : is_some (queue b) ≡ true) where
  pub head_long : queue_head ≤ length b
  head_long = omega (arith, ap length (sound_layout b h).0, queue_length (queue_in b))

  pub head_inside : 0 + 3 < length b
  head_inside = omega (arith, head_long)

  pub next_by : (r : ℕ) → r ≡ little_endian_4_at 0 b → r ≡ (queue_in b).next
  next_by r e = e ∙ ap (little_endian_4_at 0) (sym (sound_layout b h).0) ∙ next_first (queue_in b)

-- what is left of a search that has come to `at`
pub record Ahead (n : ℕ) (b : List ℕ) (at : ℕ) : Type 0 where
  pub fares : List Fare
  pub bytes : drop at b ≡ fares_bytes fares
  pub same : fare_end n (queue_in b) ≡ ends_behind at n fares
  pub inside : at ≤ length b

pub start : (n : ℕ) (b : List ℕ) → is_some (queue b) ≡ true → Ahead n b queue_head
start n b h =
    let q = queue_in b in
    record {
      fares = q.fares;
      bytes = ap (drop queue_head) (sym (sound_layout b h).0) ∙ fares_last q;
      same = unfold fare_end in refl;
      inside = omega (arith, head_inside b h);
    }

module _ (n at : ℕ) (b : List ℕ) where
  -- the fare that stands there
  record First (a : Ahead n b at) : Type 0 where
    fare : Fare
    others : List Fare
    split : a.fares ≡ fare ∷ others
    here : drop at b ≡ fare_bytes fare ++ fares_bytes others

  first : (a : Ahead n b at) → at < length b → First a
  first a h = go a.fares refl
    where
      go : (fs : List Fare) → a.fares ≡ fs → First a
      go [] e =
          let z : drop at b ≡ [] = a.bytes ∙ ap fares_bytes e ∙ (unfold fares_bytes in refl) in
          absurd (omega (arith, simp length-drop at (ap length z)))
      go (f ∷ fs) e = record { fare = f; others = fs; split = e; here = a.bytes ∙ ap fares_bytes e ∙ (unfold fares_bytes in refl) }

  module _ (a : Ahead n b at) (h : at < length b) where
    long : length b - at ≡ fare_size (first a h).fare + length (fares_bytes (first a h).others)
    long = let f = first a h in length_here at b f.fare (fares_bytes f.others) f.here

    pub size_in : at + 1 < length b
    size_in = omega (arith, long)

    pub number_in : at + 4 + 3 < length b
    number_in = omega (arith, long)

    module _ (z : ℕ) (ez : z ≡ little_endian_at at b) where
      size_is : fare_size (first a h).fare ≡ z
      size_is = let f = first a h in sym (ez ∙ size_here at b f.fare (fares_bytes f.others) f.here)

      pub falls : length b - (at + z) < length b - at
      falls = omega (arith, size_is, long)

      stays_in : at + z ≤ length b
      stays_in = omega (arith, size_is, long)

      module _ (k : ℕ) (ek : k ≡ little_endian_4_at (at + 4) b) where
        number_is : k ≡ (first a h).fare.number
        number_is = let f = first a h in ek ∙ number_here at b f.fare (fares_bytes f.others) f.here

        opened : fare_end n (queue_in b) ≡ (if eqb n k then Some (at + z) else ends_behind (at + z) n (first a h).others)
        opened =
            a.same ∙ ap (ends_behind at n) (first a h).split ∙ one ∙
            (λ i. if eqb n (sym number_is i) then Some (at + size_is i) else ends_behind (at + size_is i) n (first a h).others)
          where
            one : ends_behind at n ((first a h).fare ∷ (first a h).others) ≡
                (if eqb n (first a h).fare.number then Some (at + fare_size (first a h).fare) else
                ends_behind (at + fare_size (first a h).fare) n (first a h).others)
            one = unfold ends_behind in refl

        pub found_here : k ≡ n → Some (at + z) ≡ fare_end n (queue_in b)
        found_here e = sym (opened ∙ rw (eq-eqb n k (sym e)))

        pub go_on : (k ≡ n → ⊥) → Ahead n b (at + z)
        go_on e =
            let f = first a h in
            record {
              fares = f.others;
              bytes = ap (λ s. drop (at + s) b) (sym size_is) ∙ rest_here at b f.fare (fares_bytes f.others) f.here;
              same = opened ∙ rw (ne_eqb n k (λ p. e (sym p)));
              inside = stays_in;
            }

  pub search_end : Ahead n b at → length b ≤ at → None ≡ fare_end n (queue_in b)
  search_end a h = sym (a.same ∙ go a.fares refl)
    where
      go : (fs : List Fare) → a.fares ≡ fs → ends_behind at n a.fares ≡ None
      go [] e = ap (ends_behind at n) e ∙ (unfold ends_behind in refl)
      go (f ∷ fs) e =
          let none : fares_bytes a.fares ≡ [] = sym a.bytes ∙ drop_of_length-le b {i = at} h in
          absurd (omega (arith, fares_count a.fares, fares_length a.fares, ap length none, ap (λ x. length x) e))
