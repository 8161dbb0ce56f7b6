-- Expressions judged chunk by chunk, as the loops do, what that says of the rules' grants, and those of the slots.
use Prim.Native.Nat.{ℕ, ◌+◌, ◌-◌, ◌*◌, ◌%◌, ◌≤◌, ◌<◌, min}
use mathlib.Core.Path.{◌≡◌, refl, sym, ap, ◌∙◌}
use mathlib.Core.Bool.{Bool, true, false, true≢false, ◌&&◌}
use mathlib.Core.Logic.{◌⊎◌}
use mathlib.Core.List.{List, [], ◌∷◌, ◌++◌, append-nil, append_assoc}
use native.Mathlib.Omega.{arith}
use lib.Dec.{eqb}
use lib.ListN.{length, get_or, drop, length-append, drop_of_length-le}
use lib.Seq.{drop_at}
use Rattle.std.specs.Prelude.{if◌then◌else◌}
use Rattle.std.proofs.Common.{inl, inr, lt-ltb, le-ltb}
use Rattle.std.proofs.lemmas.Bool.{cases_lt}
use Rattle.std.proofs.lemmas.List.{nil_from_length}
use Rattle.rules.specs.declared.Action.{Action}
use Rattle.rules.specs.declared.Action.TheVariants.{GetData, GetMetadata, Write, EraseAndWrite, SetMetadata, Count, Append, Acknowledge}
use Rattle.rules.specs.declared.Kind.TheVariants.{Queue}
use Rattle.rules.specs.declared.Slot.{Slot}
use Rattle.rules.specs.declared.Slot.TheVariants.{Change, Read}
use Rattle.rules.specs.Basic.{is_some}
use Rattle.rules.specs.Expression.{Condition, names_counter, counter_number, Group, just, ◌and◌, Groups, only, ◌or◌, Expression, always, never, when, slot_size, condition_bytes, group_bytes, groups_bytes, expression_bytes, read_expression, expression}
use Rattle.rules.specs.Object.{Object, is, of_session, object_allowed, expression_in}
use Rattle.rules.specs.Access.{Seen, condition_holds, group_holds, condition_counters, group_counters, Grant, grant_if, groups_grant, grant, asked, access}
use Rattle.laws.proofs.Facts.{storable, allowed}
use Rattle.laws.proofs.Tests.{and_assoc}
use Rattle.laws.proofs.Expressions.{groups_length, expression_length, read_bytes}
use Rattle.expression.specs.Conditions.{condition_at}
use Rattle.expression.proofs.Forms.{read_allowed, groups_of}
use Rattle.access.specs.Groups.{ends_group, first_group}
use Rattle.access.proofs.Chunks.{last_chunk, joined_chunk, total}

-- `deciding_group`: what the rest grants -----------------------------------------------------------------------------------

-- `before`: the conditions before it, in its first group, hold; that group names `mine`
unfoldable pub rest_grant : Seen → ℕ → Bool → List ℕ → List ℕ → Grant
rest_grant v l before mine (a ∷ b ∷ c ∷ j ∷ rest) =
    let held = before && condition_holds v l (record { subject = a; relation = b; reference = c }) in
    let later = rest_grant v l true (first_group rest) rest in
    let same = rest_grant v l held mine rest in
    if eqb j 0xFE then (if held then grant_if true mine else later) else same
rest_grant v l before mine (a ∷ b ∷ c ∷ []) =
    grant_if (before && condition_holds v l (record { subject = a; relation = b; reference = c })) mine
rest_grant v l before mine (a ∷ b ∷ []) = grant_if false []
rest_grant v l before mine (a ∷ []) = grant_if false []
rest_grant v l before mine [] = grant_if false []

-- with the chunk x of the condition taken, and r left, what the rest grants; held: the first group holds with x
abbrev pub chosen : Seen → ℕ → List ℕ → List ℕ → List ℕ → Bool → Grant
chosen v l mine x r held =
    if ends_group x then (if held then grant_if true mine else rest_grant v l true (first_group r) r) else rest_grant v l held mine r

-- the rest s begins with the chunk x, before r
module _ (s x r : List ℕ) (parts : s ≡ x ++ r) (size : length x ≡ min 4 (length s)) (whole : length s % 4 ≡ 3) where
  none_left : length x < 4 → r ≡ []
  none_left h = nil_from_length r (omega (arith, total s x r parts size whole, size, whole))

  -- what is left after four bytes
  pub rest_is : r ≡ drop 4 s
  rest_is = elim (cases_lt (length x) 4) [
    | inl h ↦ none_left h ∙ sym (drop_of_length-le s {i = 4} (omega (arith, size, h)))
    | inr h ↦ sym (ap (drop 4) parts ∙ drop_at x r 4 (omega (arith, size, h)))
  ]

  -- what is left needs no more room, with no counter listed
  pub room_next : (n : ℕ) → 4 * n + length s ≤ slot_size - 1 → length r ≤ slot_size - 1
  room_next n room = omega (arith, total s x r parts size whole, room)

  short_ends : length x < 4 → ends_group x ≡ true
  short_ends h = rw (lt-ltb (length x) 4 h)

  long_ends : 4 ≤ length x → ends_group x ≡ eqb (get_or x 3 0) 0xFE
  long_ends h = rw (le-ltb (length x) 4 h)

  module _ (v : Seen) (l : ℕ) (w : Grant) (t : Bool) (mine : List ℕ) (inv : w ≡ rest_grant v l t mine s) where
    opened : w ≡ chosen v l mine x r (t && condition_holds v l (condition_at 0 x))
    unfolding rest_grant condition_at
    opened = elim (cases_lt (length x) 4) [
      | inl h ↦
          inv ∙ ap (rest_grant v l t mine) (last_chunk s x r parts size whole h)
          ∙ rw (short_ends h, none_left h)
          (last (t && condition_holds v l (record { subject = get_or x 0 0; relation = get_or x 1 0; reference = get_or x 2 0 })))
      | inr h ↦ inv ∙ ap (rest_grant v l t mine) (joined_chunk s x r parts size whole h) ∙ rw (long_ends h) refl
    ]
      where
        last : (h : Bool) → grant_if h mine ≡ (if h then grant_if true mine else grant_if false [])
        last true = refl
        last false = refl

    -- held: what `condition_holds` said, where the conditions before it held
    module _ (held : Bool) (e : held ≡ (t && condition_holds v l (condition_at 0 x))) where
      taken : w ≡ chosen v l mine x r held
      taken = rw e opened

      pub group_decides : ends_group x ≡ true → held ≡ true → w ≡ grant_if true mine
      group_decides f h = rw (f, h) at taken

      pub next_group : ends_group x ≡ true → held ≡ false → w ≡ rest_grant v l true (first_group r) r
      next_group f h = rw (f, h) at taken

      pub same_group : ends_group x ≡ false → w ≡ rest_grant v l held mine r
      same_group f = rw f at taken

pub nothing_left : (v : Seen) (l : ℕ) (w : Grant) (t : Bool) (mine s : List ℕ) → w ≡ rest_grant v l t mine s → length s ≡ 0 → w ≡ grant_if false []
unfolding rest_grant
nothing_left v l w t mine s e h = e ∙ ap (rest_grant v l t mine) (nil_from_length s h)

-- the first group of an expression's bytes is its first group
first_only : (x : Group) → first_group (group_bytes x) ≡ group_counters x
unfolding first_group group_bytes condition_bytes group_counters
first_only (just c) = refl
first_only (c and x) = rw (first_only x)

first_or : (x : Group) (b : List ℕ) → first_group (group_bytes x ++ 0xFE ∷ b) ≡ group_counters x
unfolding first_group group_bytes condition_bytes group_counters
first_or (just c) b = append-nil (condition_counters c)
first_or (c and x) b = rw (first_or x b)

module _ (v : Seen) (l : ℕ) where
  -- a group before b grants what its last condition does, f
  rest_group : (b mine : List ℕ) (f : Bool → Grant) →
      ((t : Bool) (c : Condition) → rest_grant v l t mine (condition_bytes c ++ b) ≡ f (t && condition_holds v l c)) →
      (x : Group) (t : Bool) → rest_grant v l t mine (group_bytes x ++ b) ≡ f (t && group_holds v l x)
  unfolding rest_grant group_bytes condition_bytes group_holds
  rest_group b mine f last (just c) t = last t c
  rest_group b mine f last (c and x) t =
      rest_group b mine f last x (t && condition_holds v l c) ∙ ap f (and_assoc t (condition_holds v l c) (group_holds v l x))

  rest_groups : (gs : Groups) → rest_grant v l true (first_group (groups_bytes gs)) (groups_bytes gs) ≡ groups_grant v l gs
  unfolding rest_grant condition_bytes groups_bytes groups_grant
  rest_groups (only x) = rw first_only (rw append-nil at (rest_group [] (group_counters x) (λ t. grant_if t (group_counters x)) (λ t c. refl) x true))
  rest_groups (x or gs) =
      let later = groups_bytes gs in
      rw (first_or x later)
      (rest_group (0xFE ∷ later) (group_counters x)
      (λ t. if t then grant_if true (group_counters x) else rest_grant v l true (first_group later) later) (λ t c. refl) x true ∙
      ap (λ y. if group_holds v l x then grant_if true (group_counters x) else y) (rest_groups gs))

  -- the bytes of an expression grant what it does
  pub grant_joined : (s : List ℕ) → is_some (expression s) ≡ true → (length s ≡ 1 → ⊥) →
      grant v l (read_expression s) ≡ rest_grant v l true (first_group s) s
  unfolding grant
  grant_joined s h n = let (gs, q, b) = groups_of s h n in rw q (sym (rest_groups gs) ∙ ap (λ x. rest_grant v l true (first_group x) x) b)

  pub grant_one : (s : List ℕ) (g : Grant) → is_some (expression s) ≡ true → length s ≡ 1 →
      g ≡ grant_if (eqb (get_or s 0 0) 0x00) [] → g ≡ grant v l (read_expression s)
  unfolding expression_bytes grant
  grant_one s g h n p = go (read_expression s) (read_allowed s h).1
    where
      go : (e : Expression) → expression_bytes e ≡ s → g ≡ grant v l e
      go always b = p ∙ rw (← b)
      go never b = p ∙ rw (← b)
      go (when gs) b = absurd (omega (arith, groups_length gs, ap length b))

-- the conditions fill the bytes
pub conditions_fill : (s : List ℕ) → is_some (expression s) ≡ true → (length s ≡ 1 → ⊥) → (length s % 4 ≡ 3) × (length s ≤ slot_size - 1)
conditions_fill s h n =
    let (gs, q, b) = groups_of s h n in
    let (k, e) = read_allowed s h in
    (omega (arith, groups_length gs, ap length b), omega (arith, expression_length (read_expression s) k, ap length e))

-- the counters of a group, condition by condition ---------------------------------------------------------------------------

at_most_one : (c : Condition) → length (condition_counters c) ≤ 1
unfolding condition_counters
at_most_one c = go (names_counter c)
  where
    go : (t : Bool) → length (if t then counter_number c ∷ [] else []) ≤ 1
    go true = omega arith
    go false = omega arith

-- ns: those listed so far; ms: with those of the condition in x
module _ (s x r : List ℕ) (parts : s ≡ x ++ r) (size : length x ≡ min 4 (length s)) (whole : length s % 4 ≡ 3)
    (w ns ms : List ℕ) (inv : w ≡ ns ++ first_group s) (f : ms ≡ ns ++ condition_counters (condition_at 0 x)) where
  group_opened : w ≡ ms ++ (if ends_group x then [] else first_group r)
  unfolding first_group condition_at
  group_opened = elim (cases_lt (length x) 4) [
    | inl h ↦
        inv ∙ ap (λ b. ns ++ first_group b) (last_chunk s x r parts size whole h)
        ∙ rw (short_ends s x r parts size whole h, f) (sym (append-nil _))
    | inr h ↦
        inv ∙ ap (λ b. ns ++ first_group b) (joined_chunk s x r parts size whole h)
        ∙ rw (long_ends s x r parts size whole h, f) (sym (append_assoc ns _ _))
  ]

  -- a condition names at most one
  pub room_left : ends_group x ≡ false → 4 * length ns + length s ≤ slot_size - 1 → 4 * length ms + length r ≤ slot_size - 1
  room_left h room = elim (cases_lt (length x) 4) [
    | inl k ↦ absurd (true≢false (sym (short_ends s x r parts size whole k) ∙ h))
    | inr k ↦ omega (arith, total s x r parts size whole, ap length f, length-append ns (condition_counters (condition_at 0 x)), at_most_one (condition_at 0 x), k)
  ]

  pub group_ends : ends_group x ≡ true → ms ≡ w
  group_ends h = sym (rw h at group_opened ∙ append-nil ms)

  pub group_on : ends_group x ≡ false → w ≡ ms ++ first_group r
  group_on h = rw h at group_opened

-- `granted` --------------------------------------------------------------------------------------------------------------------

-- the expression that an action asks of the object o
module _ (a : Action) (o : Object) where
  pub asks_read : a ≡ GetData → asked a o ≡ expression_in Read o
  unfolding asked expression_in
  asks_read e = rw e

  pub write_asks_change : (a ≡ Write) ⊎ (a ≡ EraseAndWrite) → is Queue o.kind ≡ false → asked a o ≡ expression_in Change o
  unfolding asked expression_in
  write_asks_change (inl e) h = rw (e, h)
  write_asks_change (inr e) h = rw (e, h)

  module _ (ok : object_allowed o ≡ true) where
    stored_kind : of_session o.kind ≡ false
    stored_kind = (storable o.kind o.maximum o.content (allowed o ok).content).not_of_session

    pub asks_change : (a ≡ SetMetadata) ⊎ (a ≡ Count) ⊎ (a ≡ Append) ⊎ (a ≡ Acknowledge) → asked a o ≡ expression_in Change o
    unfolding asked expression_in
    asks_change (inl e) = rw (e, stored_kind)
    asks_change (inr (inl e)) = rw e
    asks_change (inr (inr (inl e))) = rw e
    asks_change (inr (inr (inr e))) = rw e

    pub metadata_free : (v : Seen) (ns : List ℕ) → a ≡ GetMetadata → ns ≡ [] → grant_if true ns ≡ access a o v
    unfolding access asked grant
    metadata_free v ns e f = rw (e, f, stored_kind)

  pub queue_closed : (v : Seen) → (a ≡ Write) ⊎ (a ≡ EraseAndWrite) → is Queue o.kind ≡ true → grant_if false [] ≡ access a o v
  unfolding access asked grant
  queue_closed v (inl e) h = rw (e, h)
  queue_closed v (inr e) h = rw (e, h)

  -- what is granted by the slot that it asks
  pub slot_grants : (v : Seen) (w : Slot) (part : List ℕ) (l : ℕ) (g : Grant) → asked a o ≡ expression_in w o →
      part ≡ expression_bytes (expression_in w o) → l ≡ o.lcso → g ≡ grant v l (read_expression part) → g ≡ access a o v
  unfolding access
  slot_grants v w part l g q e f h =
      h ∙ (λ i. grant v (f i) (read_expression (e i))) ∙ ap (grant v o.lcso) (read_bytes (expression_in w o) ∙ sym q)
