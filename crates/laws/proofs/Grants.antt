-- What a grant looks at: the life cycles and the counters that its expression names. What it uses up is named there, and can be used.
use Prim.Native.Nat.{ℕ}
use mathlib.Core.Bool.{Bool, true, false, ◌||◌, false≢true}
use mathlib.Core.List.{List, [], ◌∷◌, ◌++◌}
use mathlib.Core.Path.{◌≡◌, refl, sym, ap, ◌∙◌}
use borrow.Author.Tests.{eqb-true, eq-eqb}
use lib.Dec.{eqb}
use Rattle.rules.specs.declared.Session.{Session}
use Rattle.std.specs.Prelude.{if◌then◌else◌}
use Rattle.rules.specs.Basic.{among}
use Rattle.rules.specs.Command.{asks_flush}
use Rattle.rules.specs.Expression.{Condition, names_counter, counter_number, Group, just, ◌and◌, Groups, only, ◌or◌, Expression, always, never, when}
use Rattle.rules.specs.Object.{Object}
use Rattle.rules.specs.Session.{with_error}
use Rattle.rules.specs.Access.{Seen, seen, present, state_holds, usable, condition_holds, group_holds}
use Rattle.rules.specs.Access.{condition_counters, group_counters, groups_counters, expression_counters, grant_if, groups_grant, grant}
use Rattle.rules.specs.Step.{flushed}
use Rattle.laws.proofs.Tests.{if_by, and_left, and_right}

-- numbers among two lists ------------------------------------------------------------------------------------------------

pub among_append : (xs ys : List ℕ) (n : ℕ) → among (xs ++ ys) n ≡ (among xs n || among ys n)
unfolding among
among_append [] ys n = refl
among_append (x ∷ xs) ys n = go (eqb n x) (among_append xs ys n)
  where
    go : (t : Bool) → among (xs ++ ys) n ≡ (among xs n || among ys n) → (t || among (xs ++ ys) n) ≡ ((t || among xs n) || among ys n)
    go true e = refl
    go false e = e

pub among_left : (xs ys : List ℕ) (n : ℕ) → among xs n ≡ true → among (xs ++ ys) n ≡ true
among_left xs ys n h = rw (among_append xs ys n, h)

pub among_right : (xs ys : List ℕ) (n : ℕ) → among ys n ≡ true → among (xs ++ ys) n ≡ true
among_right xs ys n h = among_append xs ys n ∙ go (among xs n) h
  where
    go : (t : Bool) → among ys n ≡ true → (t || among ys n) ≡ true
    go true e = refl
    go false e = e

-- a number is among the two lists: it is in one of them
pub among_either : {A : Type 0} (xs ys : List ℕ) (n : ℕ) → (among xs n ≡ true → A) → (among ys n ≡ true → A) → among (xs ++ ys) n ≡ true → A
among_either {A = A} xs ys n p q h = go (among xs n) refl (sym (among_append xs ys n) ∙ h)
  where
    go : (t : Bool) → among xs n ≡ t → (t || among ys n) ≡ true → A
    go true e h = p e
    go false e h = q h

-- two views with the same life cycles, and with the same counters where the expression names them, grant alike -----------

module _ (see other : Seen) (lcsg : see.session.lcsg ≡ other.session.lcsg) (lcsa : see.session.lcsa ≡ other.session.lcsa) (lcso : ℕ) where
  condition_alike : (c : Condition) → ((n : ℕ) → among (condition_counters c) n ≡ true → see.stored n ≡ other.stored n) →
      condition_holds see lcso c ≡ condition_holds other lcso c
  unfolding condition_holds condition_counters among state_holds present
  condition_alike c h = go (names_counter c) h
    where
      go : (t : Bool) → ((n : ℕ) → among (if t then counter_number c ∷ [] else []) n ≡ true → see.stored n ≡ other.stored n) →
          (if t then usable (see.stored (counter_number c)) else state_holds see lcso c) ≡
          (if t then usable (other.stored (counter_number c)) else state_holds other lcso c)
      go true h = ap usable (h (counter_number c) (rw (eq-eqb (counter_number c) (counter_number c) refl)))
      go false h = rw (lcsg, lcsa)

  group_alike : (g : Group) → ((n : ℕ) → among (group_counters g) n ≡ true → see.stored n ≡ other.stored n) →
      group_holds see lcso g ≡ group_holds other lcso g
  unfolding group_holds group_counters
  group_alike (just c) h = condition_alike c h
  group_alike (c and g) h =
      rw (
        condition_alike c (λ n k. h n (among_left (condition_counters c) (group_counters g) n k)),
        group_alike g (λ n k. h n (among_right (condition_counters c) (group_counters g) n k)),
      )

  groups_alike : (gs : Groups) → ((n : ℕ) → among (groups_counters gs) n ≡ true → see.stored n ≡ other.stored n) →
      groups_grant see lcso gs ≡ groups_grant other lcso gs
  unfolding groups_grant groups_counters
  groups_alike (only g) h = rw (group_alike g h)
  groups_alike (g or gs) h =
      rw (
        group_alike g (λ n k. h n (among_left (group_counters g) (groups_counters gs) n k)),
        groups_alike gs (λ n k. h n (among_right (group_counters g) (groups_counters gs) n k)),
      )

  pub grant_alike : (e : Expression) → ((n : ℕ) → among (expression_counters e) n ≡ true → see.stored n ≡ other.stored n) →
      grant see lcso e ≡ grant other lcso e
  unfolding grant expression_counters
  grant_alike always h = refl
  grant_alike never h = refl
  grant_alike (when gs) h = groups_alike gs h

-- what a grant uses up is named in the expression, and can be used ---------------------------------------------------------

module _ (see : Seen) (lcso n : ℕ) where
  none_used : {A : Type 0} → among [] n ≡ true → A
  unfolding among
  none_used h = absurd (false≢true h)

  condition_usable : (c : Condition) → condition_holds see lcso c ≡ true → among (condition_counters c) n ≡ true → usable (see.stored n) ≡ true
  unfolding condition_holds condition_counters among
  condition_usable c = go (names_counter c)
    where
      one : (t : Bool) → eqb n (counter_number c) ≡ t → usable (see.stored (counter_number c)) ≡ true → (t || false) ≡ true → usable (see.stored n) ≡ true
      one true e h k = ap (λ m. usable (see.stored m)) (eqb-true n (counter_number c) e) ∙ h
      one false e h k = absurd (false≢true k)

      go : (t : Bool) → (if t then usable (see.stored (counter_number c)) else state_holds see lcso c) ≡ true →
          among (if t then counter_number c ∷ [] else []) n ≡ true → usable (see.stored n) ≡ true
      go true h k = one (eqb n (counter_number c)) refl h k
      go false h k = absurd (false≢true k)

  group_usable : (g : Group) → group_holds see lcso g ≡ true → among (group_counters g) n ≡ true → usable (see.stored n) ≡ true
  unfolding group_holds group_counters
  group_usable (just c) h k = condition_usable c h k
  group_usable (c and g) h k =
      among_either (condition_counters c) (group_counters g) n (condition_usable c (and_left (condition_holds see lcso c) (group_holds see lcso g) h))
      (group_usable g (and_right (condition_holds see lcso c) (group_holds see lcso g) h)) k

  groups_use : (gs : Groups) → among (groups_grant see lcso gs).counters n ≡ true → (among (groups_counters gs) n ≡ true) × (usable (see.stored n) ≡ true)
  unfolding groups_grant groups_counters
  groups_use (only g) = go (group_holds see lcso g) refl
    where
      go : (t : Bool) → group_holds see lcso g ≡ t → among (grant_if t (group_counters g)).counters n ≡ true →
          (among (group_counters g) n ≡ true) × (usable (see.stored n) ≡ true)
      go true h k = (k, group_usable g h k)
      go false h k = none_used k
  groups_use (g or gs) = go (group_holds see lcso g) refl (groups_use gs)
    where
      go : (t : Bool) → group_holds see lcso g ≡ t →
          (among (groups_grant see lcso gs).counters n ≡ true → (among (groups_counters gs) n ≡ true) × (usable (see.stored n) ≡ true)) →
          among (if t then grant_if true (group_counters g) else groups_grant see lcso gs).counters n ≡ true →
          (among (group_counters g ++ groups_counters gs) n ≡ true) × (usable (see.stored n) ≡ true)
      go true h r k = (among_left (group_counters g) (groups_counters gs) n k, group_usable g h k)
      go false h r k = let (p, q) = r k in (among_right (group_counters g) (groups_counters gs) n p, q)

  pub grant_uses : (e : Expression) → among (grant see lcso e).counters n ≡ true → (among (expression_counters e) n ≡ true) × (usable (see.stored n) ≡ true)
  unfolding grant expression_counters
  grant_uses always k = none_used k
  grant_uses never k = none_used k
  grant_uses (when gs) k = groups_use gs k

-- the last error and the flush ---------------------------------------------------------------------------------------------

-- two sessions with all but the last error in common
pub record SameStates (s x : Session) : Type 0 where
  pub opened : s.opened ≡ x.opened
  pub lcsg : s.lcsg ≡ x.lcsg
  pub lcsa : s.lcsa ≡ x.lcsa

pub same_states : (s : Session) → SameStates s s
same_states s = search

-- the last error is none of them
pub error_aside : (n : ℕ) (s : Session) → SameStates (with_error n s) s
unfolding with_error
error_aside n s = search

-- a flush changes the last error alone
pub flush_keeps : (c : List ℕ) (s : Session) → SameStates (flushed c s) s
unfolding flushed
flush_keeps c s = if_by (λ x. SameStates x s) (asks_flush c) (with_error 0 s) s (λ e. error_aside 0 s) (λ e. same_states s)

pub flush_grant : (c : List ℕ) (s : Session) (os : List Object) (lcso : ℕ) (e : Expression) → grant (seen os (flushed c s)) lcso e ≡ grant (seen os s) lcso e
unfolding seen
flush_grant c s os lcso e = let f = flush_keeps c s in grant_alike (seen os (flushed c s)) (seen os s) f.lcsg f.lcsa lcso e (λ n k. refl)
