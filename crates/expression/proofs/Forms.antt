-- Expressions checked byte by byte, as the loop of `well_formed` does, and what that says of the rules' expressions.
use Prim.Native.Nat.{ℕ, zero, suc, ◌*◌, ◌/◌, ◌+◌, ◌-◌, ◌≤◌, ◌<◌}
use mathlib.Core.Path.{◌≡◌, refl, sym, ap, ◌∙◌}
use mathlib.Core.Bool.{Bool, true, false, ◌&&◌, ◌||◌, false≢true, and-false}
use mathlib.Core.List.{List, [], ◌∷◌, ◌++◌, append-nil}
use borrow.Author.Tests.{eqb-true, le-leb, leb-true, ltb-true, lt-ltb}
use native.Mathlib.Omega.{arith}
use native.Mathlib.Nat.{add-zero, zero-add}
use lib.Dec.{eqb, ltb}
use lib.ListN.{length, get_or, take, drop, length-drop}
use lib.Seq.{drop-drop, get_or-take, get_or-drop}
use Rattle.std.specs.Prelude.{Option, Some, None, if◌then◌else◌}
use Rattle.std.specs.Simd.{first_chunks}
use Rattle.std.proofs.lemmas.Option.{none-some}
use Rattle.rules.specs.Basic.{all, same, is_some}
use Rattle.rules.specs.Expression.{slot_size, Condition, Group, just, ◌and◌, Groups, only, ◌or◌, Expression, always, never, when}
use Rattle.rules.specs.Expression.{condition_bytes, group_bytes, groups_bytes, expression_bytes}
use Rattle.rules.specs.Expression.{in_first, read_groups, read_expression, expression_with, expression}
use Rattle.rules.specs.Expression.{condition_allowed, group_allowed, groups_allowed, expression_allowed_with, expression_allowed}
use Rattle.rules.specs.Expression.{conditions, groups, most_conditions, most_groups}
use Rattle.laws.proofs.Tests.{and_left, and_right, at_place, some_else}
use Rattle.laws.proofs.Expressions.{groups_length, expression_length, expression_back, expression_read, read_bytes}
use Rattle.expression.specs.Conditions.{condition_at, groups_after}
use Rattle.expression.proofs.Tests.{same_test, some_is}
use Rattle.expression.proofs.Conditions.{four, three}

abbrev pub left_and : Option ℕ → (ℕ → Bool) → Bool
left_and None f = false
left_and (Some h) f = f h

-- conditions joined, in at most g groups
unfoldable pub fits : ℕ → List ℕ → Bool
fits g (a ∷ b ∷ c ∷ j ∷ rest) =
    condition_allowed (record { subject = a; relation = b; reference = c }) && left_and (groups_after j g) (λ h. fits h rest)
fits g (a ∷ b ∷ c ∷ []) = condition_allowed (record { subject = a; relation = b; reference = c })
fits g (a ∷ b ∷ []) = false
fits g (a ∷ []) = false
fits g [] = false

fits_short : (g : ℕ) (xs : List ℕ) → length xs < 3 → fits g xs ≡ false
unfolding fits
fits_short g [] h = refl
fits_short g (a ∷ []) h = refl
fits_short g (a ∷ b ∷ []) h = refl
fits_short g (a ∷ b ∷ c ∷ xs) h = let z : ⊥ = omega arith in absurd z

-- the loop
module _ (w : Bool) (s : List ℕ) (g i : ℕ) (inv : w ≡ fits g (drop i s)) where
  pub fits_stops : i + 3 < length s → condition_allowed (condition_at i s) ≡ false → false ≡ w
  unfolding fits condition_at
  fits_stops h e = sym (inv ∙ ap (fits g) (four s i h) ∙ rw e)

  pub fits_ends : i + 3 < length s → groups_after (get_or s (i + 3) 0) g ≡ None → false ≡ w
  unfolding fits condition_at
  fits_ends h e = sym (inv ∙ ap (fits g) (four s i h) ∙ rw (e, and-false))

  pub fits_on : (left : ℕ) → i + 3 < length s → condition_allowed (condition_at i s) ≡ true → groups_after (get_or s (i + 3) 0) g ≡ Some left →
      w ≡ fits left (drop (i + 4) s)
  unfolding fits condition_at
  fits_on left h e f = inv ∙ ap (fits g) (four s i h) ∙ rw (e, f)

  pub fits_last : (r : Bool) → length s - i ≡ 3 → r ≡ condition_allowed (condition_at i s) → r ≡ w
  unfolding fits condition_at
  fits_last r h e = e ∙ sym (inv ∙ ap (fits g) (three s i h))

  pub fits_none : length s ≤ i + 3 → (length s - i ≡ 3 → ⊥) → false ≡ w
  fits_none h n = sym (inv ∙ fits_short g (drop i s) (rw length-drop (omega arith)))

-- the loop goes over pieces of four bytes
piece : (s : List ℕ) (n i : ℕ) → i < n → get_or (first_chunks 4 n s) i [] ≡ take 4 (drop (4 * i) s)
piece s zero i h = absurd (omega arith)
piece s (suc n) zero h = refl
piece s (suc n) (suc i) h =
    let past : 4 + 4 * i ≡ 4 * suc i = omega arith in
    piece (drop 4 s) n i (omega arith) ∙ ap (take 4) (drop-drop (4 * i) 4 s ∙ ap (λ (k : ℕ). drop k s) past)

module _ (w : Bool) (s : List ℕ) (ps : List (List ℕ)) (g i : ℕ) (inv : w ≡ fits g (drop (4 * i) s)) (e : ps ≡ first_chunks 4 (length s / 4) s)
    (n : length ps ≡ length s / 4) where
  in_piece : i < length ps → (j : ℕ) → j < 4 → get_or (get_or ps i []) j 0 ≡ get_or s (4 * i + j) 0
  in_piece h j k = rw (e, piece s (length s / 4) i (omega arith), get_or-take 4 (drop (4 * i) s) j 0 k) (get_or-drop (4 * i) s j 0)

  piece_condition : i < length ps → condition_at 0 (get_or ps i []) ≡ condition_at (4 * i) s
  unfolding condition_at
  piece_condition h = rw (in_piece h 0 (omega arith), in_piece h 1 (omega arith), in_piece h 2 (omega arith)) (simp add-zero)

  pub piece_stops : i < length ps → condition_allowed (condition_at 0 (get_or ps i [])) ≡ false → false ≡ w
  piece_stops h f = fits_stops w s g (4 * i) inv (omega arith) (rw (piece_condition h) at f)

  pub piece_ends : i < length ps → groups_after (get_or (get_or ps i []) 3 0) g ≡ None → false ≡ w
  piece_ends h f = fits_ends w s g (4 * i) inv (omega arith) (rw (in_piece h 3 (omega arith)) at f)

  pub piece_on : (left : ℕ) → i < length ps → condition_allowed (condition_at 0 (get_or ps i [])) ≡ true →
      groups_after (get_or (get_or ps i []) 3 0) g ≡ Some left → w ≡ fits left (drop (4 * (i + 1)) s)
  piece_on left h f k =
      let past : 4 * (i + 1) ≡ 4 * i + 4 = omega arith in
      rw past (fits_on w s g (4 * i) inv left (omega arith) (rw (piece_condition h) at f) (rw (in_piece h 3 (omega arith)) at k))

  pub last_piece : (r : Bool) (t : List ℕ) → i ≤ length ps → length ps ≤ i → t ≡ drop (length s / 4 * 4) s → length t ≡ 3 →
      r ≡ condition_allowed (condition_at 0 t) → r ≡ w
  unfolding condition_at
  last_piece r t h k f l q =
      let past : length s / 4 * 4 ≡ 4 * i = omega arith in
      let three : length s - 4 * i ≡ 3 = omega (arith, length-drop (length s / 4 * 4) s, ap length f) in
      fits_last w s g (4 * i) inv r three (q ∙ rw (f, past) (simp (get_or-drop, add-zero, zero-add)))

-- what fits is the bytes of the groups that are read from it
record Joined (g : ℕ) (gs : Groups) (s : List ℕ) : Type 0 where
  bytes : groups_bytes gs ≡ s
  allowed : groups_allowed gs ≡ true
  few : groups gs ≤ g

module _ (k : Condition) (g : ℕ) (rest : List ℕ) (p : condition_allowed k ≡ true) where
  first_joined : (gs : Groups) → Joined g gs rest → Joined g (in_first k gs) (condition_bytes k ++ 0xFD ∷ rest)
  unfolding groups_bytes group_bytes condition_bytes groups_allowed group_allowed groups in_first
  first_joined (only x) r = record { bytes = ap (λ y. condition_bytes k ++ 0xFD ∷ y) r.bytes; allowed = rw p r.allowed; few = r.few }
  first_joined (x or gs) r = record { bytes = ap (λ y. condition_bytes k ++ 0xFD ∷ y) r.bytes; allowed = rw p r.allowed; few = r.few }

  join : (j left : ℕ) (gs : Groups) → Joined left gs rest → (t u : Bool) → eqb j 0xFD ≡ t → (eqb j 0xFE && ltb 1 g) ≡ u →
      groups_after j g ≡ Some left → Joined g (if t then in_first k gs else just k or gs) (condition_bytes k ++ j ∷ rest)
  unfolding groups_after groups_bytes group_bytes groups_allowed group_allowed groups
  join j left gs r true u e f q =
      let n : Some g ≡ Some left = rw e at q in
      let same : g ≡ left = cc in
      rw (eqb-true j 0xFD e) (first_joined gs (rw (← same) at r))
  join j left gs r false true e f q =
      let n : Some (g - 1) ≡ Some left = rw (e, f) at q in
      let same : g - 1 ≡ left = cc in
      let more = ltb-true 1 g (and_right (eqb j 0xFE) (ltb 1 g) f) in
      record { bytes = rw (r.bytes, eqb-true j 0xFE (and_left (eqb j 0xFE) (ltb 1 g) f)); allowed = rw p r.allowed; few = omega (arith, r.few) }
  join j left gs r false false e f q =
      let n : None ≡ Some left = rw (e, f) at q in
      absurd (none-some left n)

-- one group at least may come
pub left_some : (j g left : ℕ) → 1 ≤ g → groups_after j g ≡ Some left → 1 ≤ left
unfolding groups_after
left_some j g left l q = go (eqb j 0xFD) (eqb j 0xFE && ltb 1 g) refl q
  where
    go : (t u : Bool) → (eqb j 0xFE && ltb 1 g) ≡ u → if t then Some g else (if u then Some (g - 1) else None) ≡ Some left → 1 ≤ left
    go true u e n = let same : g ≡ left = cc in omega arith
    go false true e n = let same : g - 1 ≡ left = cc in omega (arith, ltb-true 1 g (and_right (eqb j 0xFE) (ltb 1 g) e))
    go false false e n = absurd (none-some left n)

some_left : (o : Option ℕ) (f : ℕ → Bool) → left_and o f ≡ true → (h : ℕ) × (o ≡ Some h) × (f h ≡ true)
some_left None f e = absurd (false≢true e)
some_left (Some h) f e = (h, refl, e)

fits_joined : (g : ℕ) (s : List ℕ) → 1 ≤ g → fits g s ≡ true → Joined g (read_groups s) s
unfolding fits condition_bytes groups_bytes group_bytes groups_allowed group_allowed groups read_groups
fits_joined g (a ∷ b ∷ c ∷ j ∷ rest) l h =
    let k : Condition = record { subject = a; relation = b; reference = c } in
    let after = left_and (groups_after j g) (λ n. fits n rest) in
    let (left, e, f) = some_left (groups_after j g) (λ n. fits n rest) (and_right (condition_allowed k) after h) in
    let r = fits_joined left rest (left_some j g left l e) f in
    join k g rest (and_left (condition_allowed k) after h) j left _ r (eqb j 0xFD) (eqb j 0xFE && ltb 1 g) refl refl e
fits_joined g (a ∷ b ∷ c ∷ []) l h = record { bytes = refl; allowed = h; few = l }
fits_joined g (a ∷ b ∷ []) l h = absurd (false≢true h)
fits_joined g (a ∷ []) l h = absurd (false≢true h)
fits_joined g [] l h = absurd (false≢true h)

-- the bytes of groups fit
groups_one : (gs : Groups) → 1 ≤ groups gs
unfolding groups
groups_one (only g) = omega arith
groups_one (g or gs) = omega arith

-- a group before t fits where its last condition does
fits_group : (g : ℕ) (x : Group) (t : List ℕ) → 1 ≤ g → group_allowed x ≡ true →
    ((c : Condition) → condition_allowed c ≡ true → fits g (condition_bytes c ++ t) ≡ true) → fits g (group_bytes x ++ t) ≡ true
unfolding fits group_allowed group_bytes condition_bytes groups_after
fits_group g (just c) t l h last = last c h
fits_group g (c and x) t l h last = rw (and_left (condition_allowed c) (group_allowed x) h) (fits_group g x t l (and_right (condition_allowed c) (group_allowed x) h) last)

fits_groups : (g : ℕ) (gs : Groups) → groups gs ≤ g → groups_allowed gs ≡ true → fits g (groups_bytes gs) ≡ true
unfolding fits groups groups_allowed groups_bytes condition_bytes groups_after
fits_groups g (only x) l h = rw append-nil at (fits_group g x [] l h (λ c k. k))
fits_groups g (x or gs) l h =
    let more = fits_groups (g - 1) gs (omega arith) (and_right (group_allowed x) (groups_allowed gs) h) in
    let some_left = lt-ltb 1 g (omega (arith, groups_one gs)) in
    fits_group g x (0xFE ∷ groups_bytes gs) (omega arith) (and_left (group_allowed x) (groups_allowed gs) h) (λ c k. rw (k, some_left) more)

-- the bytes of an expression are those of the one that is read from them
pub read_allowed : (v : List ℕ) → is_some (expression v) ≡ true → (expression_allowed (read_expression v) ≡ true) × (expression_bytes (read_expression v) ≡ v)
read_allowed v h =
    let (b, a) = expression_read v _ (some_else (expression v) (read_expression v) h) in
    rw (ap read_expression (sym b) ∙ read_bytes _) (a, b)

-- more than one byte are those of groups
pub groups_of : (s : List ℕ) → is_some (expression s) ≡ true → (length s ≡ 1 → ⊥) → (gs : Groups) × (read_expression s ≡ when gs) × (groups_bytes gs ≡ s)
unfolding expression_bytes
groups_of s h n = go (read_expression s) refl (read_allowed s h).1
  where
    go : (e : Expression) → read_expression s ≡ e → expression_bytes e ≡ s → (gs : Groups) × (read_expression s ≡ when gs) × (groups_bytes gs ≡ s)
    go always q b = absurd (n (ap length (sym b)))
    go never q b = absurd (n (ap length (sym b)))
    go (when gs) q b = (gs, q, b)

fits_when : (s : List ℕ) (gs : Groups) → Joined most_groups gs s → length s ≤ slot_size - 1 → is_some (expression s) ≡ true
unfolding expression_bytes expression_allowed_with all
fits_when s gs r l =
    let n : conditions gs ≤ most_conditions slot_size = omega (arith, groups_length gs, ap length r.bytes) in
    let h : expression_allowed (when gs) ≡ true = rw (r.allowed, le-leb _ _ n, le-leb _ _ r.few) in
    some_is (expression s) (when gs) (ap expression (sym r.bytes) ∙ expression_back (when gs) h)

pub well_formed_joined : (s : List ℕ) → (length s ≡ 1 → ⊥) → length s ≤ slot_size - 1 → is_some (expression s) ≡ fits most_groups s
unfolding expression_allowed_with
well_formed_joined s n l =
    same_test (is_some (expression s)) (fits most_groups s)
    (λ h. let (gs, q, b) = groups_of s h n in
    let a : expression_allowed (when gs) ≡ true = rw q at (read_allowed s h).0 in
    rw b at (fits_groups most_groups gs (leb-true (groups gs) most_groups (at_place _ a 2)) (at_place _ a 0)))
    (λ h. fits_when s _ (fits_joined most_groups s (omega arith) h) l)

pub well_formed_long : (s : List ℕ) → slot_size - 1 < length s → false ≡ is_some (expression s)
well_formed_long s l =
    same_test false (is_some (expression s)) (λ h. absurd (false≢true h))
    (λ h. let (a, b) = read_allowed s h in absurd (omega (arith, expression_length (read_expression s) a, ap length b)))

pub well_formed_three : (r : Bool) (s : List ℕ) → length s ≡ 3 → r ≡ condition_allowed (condition_at 0 s) → r ≡ is_some (expression s)
well_formed_three r s l e =
    fits_last (is_some (expression s)) s most_groups 0
    (well_formed_joined s (λ h. let z : ⊥ = omega (arith, h) in z) (omega arith)) r (omega arith) e

single_is : (x : ℕ) (t u : Bool) → eqb x 0x00 ≡ t → eqb x 0xFF ≡ u → (t || u) ≡ is_some (expression (x ∷ []))
unfolding expression_with expression_allowed_with expression_bytes read_expression read_groups groups_bytes group_bytes condition_bytes same
single_is x true u e f = rw (eqb-true x 0x00 e)
single_is x false true e f = rw (eqb-true x 0xFF f)
single_is x false false e f = simp (e, f, and-false)

pub single_by : (r : Bool) (x : ℕ) → r ≡ (eqb x 0x00 || eqb x 0xFF) → r ≡ is_some (expression (x ∷ []))
single_by r x e = e ∙ single_is x (eqb x 0x00) (eqb x 0xFF) refl refl

pub well_formed_one : (r : Bool) (s : List ℕ) → length s ≡ 1 → r ≡ is_some (expression (get_or s 0 0 ∷ [])) → r ≡ is_some (expression s)
well_formed_one r [] l e = absurd (omega arith)
well_formed_one r (x ∷ []) l e = e
well_formed_one r (x ∷ y ∷ s) l e = absurd (omega arith)

-- what the code of `well_formed` comes to
pub ruleset forms = (well_formed_one, well_formed_long, well_formed_joined, piece_stops, piece_ends, piece_on, left_some, last_piece, fits_none)
