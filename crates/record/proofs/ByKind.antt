-- Kinds: that of a record by its number, and what the methods say of a kind.
use Rattle.std.specs.Prelude.{ℕ, List, Result, Ok, Err}
use Rattle.laws.proofs.Tests.{by_test}
use borrow.Author.Tests.{eqb-true, ne_eqb}
use lib.Dec.{eqb}
use native.Mathlib.Omega.{arith}
use mathlib.Core.Bool.{Bool, true, false, true≢false}
use mathlib.Core.Path.{◌≡◌, refl, sym, ap, ◌∙◌}
use Rattle.rules.specs.declared.Kind.{Kind}
use Rattle.rules.specs.declared.Kind.TheVariants.{Data, Counter, Queue, LifeCycle, Status}
use Rattle.rules.specs.declared.UnknownKind.{UnknownKind}
use Rattle.rules.specs.declared.Direction.{Direction}
use Rattle.rules.specs.declared.Direction.TheVariants.{Up, Down}
use Rattle.rules.specs.Kinds.{record_kind}
use Rattle.record.specs.Records.{kind_allowed}
use Rattle.rules.specs.Object.{kind_number, read_kind, data_allowed, is, of_session, is_counter, direction}

-- the number of a kind that is none of the session's is read as that kind
pub kind_back : (k : Kind) → of_session k ≡ false → record_kind (kind_number k) ≡ Ok k
unfolding of_session is kind_number
kind_back Data h = refl
kind_back (Counter Up) h = refl
kind_back (Counter Down) h = refl
kind_back Queue h = refl
kind_back LifeCycle h = absurd (true≢false h)
kind_back Status h = absurd (true≢false h)

-- a number that is read as a kind is that kind's
number_of : (n : ℕ) (k : Kind) → record_kind n ≡ Ok k → (n ≡ kind_number k) × (of_session k ≡ false)
unfolding of_session is kind_number
number_of n k h =
    by_test (eqb n 1) (λ t. that Data refl (eqb-true n 1 t)) (λ d.
    by_test (eqb n 2) (λ t. that (Counter Up) refl (eqb-true n 2 t)) (λ u.
    by_test (eqb n 3) (λ t. that Queue refl (eqb-true n 3 t)) (λ q.
    by_test (eqb n 4) (λ t. that (Counter Down) refl (eqb-true n 4 t)) (λ w.
    let none : record_kind n ≡ Err (record { 0 = n }) = rw (d, u, q, w) in
    let z : ◌≡◌ {A = ℕ} 0 1 = cc in absurd (omega arith)))))
  where
    that : (l : Kind) → of_session l ≡ false → n ≡ kind_number l → (n ≡ kind_number k) × (of_session k ≡ false)
    that l hl e =
        let same : Ok k ≡ Ok l = sym h ∙ ap record_kind e ∙ kind_back l hl in
        let p : k ≡ l = cc in
        rw p (e, hl)

-- `kind_ok`: the number is read as a kind, or as none
module _ (n m : ℕ) (b : List ℕ) (x : Result Kind UnknownKind) (ex : x ≡ record_kind n) where
  pub kind_by : (k l : Kind) → x ≡ Ok k → k ≡ l → (r : Bool) → r ≡ data_allowed l m b → r ≡ kind_allowed n m b
  kind_by k l h e r er =
      let (number, stored) = number_of n k (sym ex ∙ h) in
      er ∙ ap (λ y. data_allowed y m b) (sym e) ∙ sym (ap (λ y. kind_allowed y m b) number ∙ own k stored)
    where
      own : (k : Kind) → of_session k ≡ false → kind_allowed (kind_number k) m b ≡ data_allowed k m b
      own Data h = unfold kind_allowed read_kind kind_number in refl
      own (Counter Up) h = unfold kind_allowed read_kind kind_number in refl
      own (Counter Down) h = unfold kind_allowed read_kind kind_number in refl
      own Queue h = unfold kind_allowed read_kind kind_number in refl
      own LifeCycle h = absurd (true≢false (unfold of_session is kind_number in h))
      own Status h = absurd (true≢false (unfold of_session is kind_number in h))

  pub no_kind : (u : UnknownKind) → x ≡ Err u → false ≡ kind_allowed n m b
  unfolding kind_allowed read_kind kind_number of_session is
  no_kind u h = rw (ne_eqb n 1 (isnt Data refl), ne_eqb n 2 (isnt (Counter Up) refl), ne_eqb n 3 (isnt Queue refl), ne_eqb 4 n (λ e. isnt (Counter Down) refl (sym e)))
    where
      isnt : (l : Kind) → of_session l ≡ false → n ≡ kind_number l → ⊥
      isnt l hl e =
          let same : Err u ≡ Ok l = sym h ∙ ex ∙ ap record_kind e ∙ kind_back l hl in
          let z : ◌≡◌ {A = ℕ} 0 1 = cc in absurd (omega arith)

-- what the methods say of a kind k that they have as r
pub counter_is : (k r : Kind) → r ≡ k → (d : Direction) → r ≡ Counter d → true ≡ is_counter k
unfolding is_counter is kind_number
counter_is k r e Up q = rw (sym e ∙ q)
counter_is k r e Down q = rw (sym e ∙ q)

pub counter_not : (k r : Kind) → r ≡ k → ((d : Direction) → r ≡ Counter d → ⊥) → false ≡ is_counter k
unfolding is_counter is kind_number
counter_not Data r e n = refl
counter_not (Counter d) r e n = absurd (n d e)
counter_not Queue r e n = refl
counter_not LifeCycle r e n = refl
counter_not Status r e n = refl

pub way_is : (k r : Kind) → r ≡ k → (d : Direction) → r ≡ Counter d → d ≡ direction k
unfolding direction is kind_number
way_is k r e Up q = rw (sym e ∙ q)
way_is k r e Down q = rw (sym e ∙ q)

pub way_not : (k r : Kind) → r ≡ k → ((d : Direction) → r ≡ Counter d → ⊥) → Up ≡ direction k
unfolding direction is kind_number
way_not Data r e n = refl
way_not (Counter d) r e n = absurd (n d e)
way_not Queue r e n = refl
way_not LifeCycle r e n = refl
way_not Status r e n = refl

pub up_is : (k r : Kind) → r ≡ k → (d : Direction) → r ≡ Counter d → d ≡ Up → true ≡ is (Counter Up) k
unfolding is kind_number
up_is k r e d q u = rw (sym e ∙ q, u)

pub down_is : (k r : Kind) → r ≡ k → (d : Direction) → r ≡ Counter d → (d ≡ Up → ⊥) → false ≡ is (Counter Up) k
unfolding is kind_number
down_is k r e Up q n = absurd (n refl)
down_is k r e Down q n = rw (sym e ∙ q)

pub no_up : (k r : Kind) → r ≡ k → ((d : Direction) → r ≡ Counter d → ⊥) → false ≡ is (Counter Up) k
unfolding is kind_number
no_up Data r e n = refl
no_up (Counter d) r e n = absurd (n d e)
no_up Queue r e n = refl
no_up LifeCycle r e n = refl
no_up Status r e n = refl

pub queue_is : (k r : Kind) → r ≡ k → r ≡ Queue → true ≡ is Queue k
unfolding is kind_number
queue_is k r e q = rw (sym e ∙ q)

pub queue_not : (k r : Kind) → r ≡ k → (r ≡ Queue → ⊥) → false ≡ is Queue k
unfolding is kind_number
queue_not Data r e n = refl
queue_not (Counter Up) r e n = refl
queue_not (Counter Down) r e n = refl
queue_not Queue r e n = absurd (n e)
queue_not LifeCycle r e n = refl
queue_not Status r e n = refl
