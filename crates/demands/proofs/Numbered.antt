-- Objects put under their numbers: a lookup of another number does not see it, and two such puts may change places. Where the numbers rise, the
-- objects under some numbers, each put back changed, are all objects changed.
use Prim.Native.Nat.{ℕ, ◌<◌}
use mathlib.Core.Bool.{Bool, true, false}
use mathlib.Core.List.{List, [], ◌∷◌, map}
use mathlib.Core.Logic.{◌≢◌}
use mathlib.Core.Option.{Option, none, some, none-ne-some, some-injective}
use mathlib.Core.Path.{◌≡◌, refl, sym, ap, ◌∙◌}
use native.Mathlib.Omega.{arith}
use borrow.Author.Tests.{eqb-true, eq-eqb, ne_eqb, ltb-true}
use lib.Dec.{eqb, ltb}
use Rattle.mixing.specs.Runs.{All}
use Rattle.mixing.specs.Cells.{Put, puts}
use Rattle.mixing.proofs.Frame.{AllAt}
use Rattle.std.specs.Prelude.{if◌then◌else◌}
use Rattle.rules.specs.Basic.{among, rising_from, rising}
use Rattle.rules.specs.Object.{Object}
use Rattle.rules.specs.Layout.{find, replaced}
use Rattle.laws.proofs.Tests.{if_by, by_test, and_left, and_right}
use Rattle.laws.proofs.Facts.{numbers}
use Rattle.laws.proofs.Grants.{among_right}

-- the object, under a number
unfoldable pub numbered : ℕ → Object → Object
numbered n o =
    record { number = n; kind = o.kind; maximum = o.maximum; lcso = o.lcso; change = o.change; read = o.read; execute = o.execute; content = o.content }

pub renumber : (n : ℕ) (o : Object) → o.number ≡ n → numbered n o ≡ o
unfolding numbered
renumber n o q = rw (← q)

-- an object in the place of the one of number n
unfoldable pub put : ℕ → Object → List Object → List Object
put n o os = replaced (numbered n o) os

pub put_other : (k j : ℕ) (v : Object) (os : List Object) → k ≢ j → find k (put j v os) ≡ find k os
unfolding put numbered replaced find
put_other k j v [] h = refl
put_other k j v (o ∷ os) h =
    let ih = put_other k j v os h in
    if_by (λ x. (if eqb k x.number then some x else find k (put j v os)) ≡ (if eqb k o.number then some o else find k os))
    (eqb o.number j) (numbered j v) o (λ e. rw (ne_eqb k j h, ne_eqb k o.number (λ q. h (q ∙ eqb-true o.number j e))) ih) (λ e. rw ih)

pub puts_swap : (k j : ℕ) (v w : Object) (os : List Object) → k ≢ j → put k v (put j w os) ≡ put j w (put k v os)
unfolding put numbered replaced
puts_swap k j v w [] h = refl
puts_swap k j v w (o ∷ os) h = λ i. go (eqb o.number k) refl (eqb o.number j) refl i ∷ puts_swap k j v w os h i
  where
    go : (a : Bool) → eqb o.number k ≡ a → (b : Bool) → eqb o.number j ≡ b →
        (if eqb (if b then numbered j w else o).number k then numbered k v else (if b then numbered j w else o)) ≡
        (if eqb (if a then numbered k v else o).number j then numbered j w else (if a then numbered k v else o))
    go true ea true eb = absurd (h (sym (eqb-true o.number k ea) ∙ eqb-true o.number j eb))
    go true ea false eb = rw (ea, ne_eqb k j h)
    go false ea true eb = rw (eb, ne_eqb j k (λ q. h (sym q)))
    go false ea false eb = rw (ea, eb)

-- objects changed under their numbers -----------------------------------------------------------------------------------------------

-- what follows of each follows of all
pub all_by : {A : Type 0} {P Q : A → Type 0} → ((x : A) → P x → Q x) → (xs : List A) → All P xs → All Q xs
all_by f [] h = tt
all_by f (x ∷ xs) h = (f x h.0, all_by f xs h.1)

-- where the numbers rise, each object is found under its number
found_above : (k : ℕ) (os : List Object) → rising_from k (numbers os) ≡ true → All (λ o. (k < o.number) × (find o.number os ≡ some o)) os
unfolding rising_from numbers find
found_above k [] h = tt
found_above k (o ∷ os) h =
    let above : k < o.number = ltb-true k o.number (and_left (ltb k o.number) _ h) in
    let later = found_above o.number os (and_right (ltb k o.number) _ h) in (
      (above, rw (eq-eqb o.number o.number refl)),
      all_by (λ p f. let l = f.0 in (omega arith, rw (ne_eqb p.number o.number (λ e. omega arith)) f.1)) os later,
    )

each_found : (os : List Object) → rising (numbers os) ≡ true → All (λ o. find o.number os ≡ some o) os
unfolding rising numbers find
each_found [] h = tt
each_found (o ∷ os) h = (
  rw (eq-eqb o.number o.number refl),
  all_by (λ p f. let l = f.0 in rw (ne_eqb p.number o.number (λ e. omega arith)) f.1) os (found_above o.number os h),
)

-- one that is found among changed objects is a found one, changed
pub found_changed : (new : Object → Object) → ((o : Object) → (new o).number ≡ o.number) → (n : ℕ) (os : List Object) (o : Object) →
    find n (map new os) ≡ some o → (p : Object) × (find n os ≡ some p) × (new p ≡ o)
unfolding find
found_changed new keeps n [] o h = absurd (none-ne-some o h)
found_changed new keeps n (p ∷ os) o h =
    let numbers : eqb n (new p).number ≡ eqb n p.number = ap (eqb n) (keeps p) in
    by_test (eqb n p.number) (λ t. (p, rw t, some-injective _ _ (rw (numbers ∙ t) at h)))
    (λ t. let (q, found, same) = found_changed new keeps n os o (rw (numbers ∙ t) at h) in (q, rw t found, same))

-- the object found under number k, changed, before others
unfoldable pub change : (Object → Object) → ℕ → Option Object → List (Put ℕ Object) → List (Put ℕ Object)
change new k none later = later
change new k (some o) later = record { at = k; what = new o } ∷ later

-- the objects that f finds under these numbers, changed
unfoldable pub changes : (Object → Object) → List ℕ → (ℕ → Option Object) → List (Put ℕ Object)
changes new [] f = []
changes new (k ∷ ks) f = change new k (f k) (changes new ks f)

-- they are put under these numbers alone
pub changes_at : (P : ℕ → Type 0) (new : Object → Object) (ks : List ℕ) (f : ℕ → Option Object) → ((k : ℕ) → among ks k ≡ true → P k) →
    AllAt P (changes new ks f)
unfolding changes change among
changes_at P new [] f h = tt
changes_at P new (k ∷ ks) f h = go (f k) (changes_at P new ks f (λ j a. h j (among_right (k ∷ []) ks j a)))
  where
    go : (m : Option Object) → AllAt P (changes new ks f) → AllAt P (change new k m (changes new ks f))
    go none later = later
    go (some o) later = (h k (rw (eq-eqb k k refl)), later)

-- and depend on what is found there
pub changes_alike : (new : Object → Object) (ks : List ℕ) (f g : ℕ → Option Object) → ((k : ℕ) → among ks k ≡ true → f k ≡ g k) →
    changes new ks f ≡ changes new ks g
unfolding changes among
changes_alike new [] f g h = refl
changes_alike new (k ∷ ks) f g h =
    rw (h k (rw (eq-eqb k k refl)), changes_alike new ks f g (λ j a. h j (among_right (k ∷ []) ks j a)))

-- nothing is put where there is nothing
puts_nowhere : (ps : List (Put ℕ Object)) → puts put ps [] ≡ []
unfolding put replaced
puts_nowhere [] = refl
puts_nowhere (p ∷ ps) = puts_nowhere ps

module _ (new : Object → Object) (keeps : (o : Object) → (new o).number ≡ o.number)
    (f : ℕ → Option Object) (o : Object) (found : f o.number ≡ some o) where
  -- what is put in the place of o is o changed
  same_new : (k : ℕ) (v : Object) → f k ≡ some v → eqb o.number k ≡ true → numbered k (new v) ≡ new o
  same_new k v e t =
      let q = eqb-true o.number k t in
      let same : v ≡ o = some-injective _ _ (sym e ∙ ap f (sym q) ∙ found) in
      rw same (renumber k (new o) (keeps o ∙ q))

  put_there : (ks : List ℕ) (k : ℕ) (v : Object) (os : List Object) → numbered k (new v) ≡ new o →
      puts put (changes new ks f) (new o ∷ os) ≡ new o ∷ puts put (changes new ks f) os →
      puts put (changes new ks f) (numbered k (new v) ∷ os) ≡ new o ∷ puts put (changes new ks f) os
  put_there ks k v os e h = ap (λ x. puts put (changes new ks f) (x ∷ os)) e ∙ h

  -- it stays
  stays_new : (ks : List ℕ) (os : List Object) → puts put (changes new ks f) (new o ∷ os) ≡ new o ∷ puts put (changes new ks f) os
  unfolding changes change put numbered replaced
  stays_new [] os = refl
  stays_new (k ∷ ks) os =
      elim (f k) as (λ m. f k ≡ m → puts put (change new k m (changes new ks f)) (new o ∷ os) ≡ new o ∷ puts put (change new k m (changes new ks f)) os) [
        | none ↦ λ e. stays_new ks os
        | some v ↦ λ e.
            if_by (λ x. puts put (changes new ks f) (x ∷ put k (new v) os) ≡ new o ∷ puts put (changes new ks f) (put k (new v) os))
            (eqb (new o).number k) (numbered k (new v)) (new o)
            (λ t. put_there ks k v (put k (new v) os) (same_new k v e (rw (keeps o) at t)) (stays_new ks (put k (new v) os)))
            (λ t. stays_new ks (put k (new v) os))
      ] refl

  -- and it comes there: where its number is none of these it is as it was
  becomes_new : (ks : List ℕ) (os : List Object) → (among ks o.number ≡ false → new o ≡ o) →
      puts put (changes new ks f) (o ∷ os) ≡ new o ∷ puts put (changes new ks f) os
  unfolding changes change put numbered replaced among
  becomes_new [] os h = ap (λ x. x ∷ os) (sym (h refl))
  becomes_new (k ∷ ks) os h =
      elim (f k) as (λ m. f k ≡ m → puts put (change new k m (changes new ks f)) (o ∷ os) ≡ new o ∷ puts put (change new k m (changes new ks f)) os) [
        | none ↦ λ e.
            by_test (eqb o.number k)
            (λ t. absurd (none-ne-some o (sym e ∙ ap f (sym (eqb-true o.number k t)) ∙ found)))
            (λ t. becomes_new ks os (λ a. h (rw (t, a))))
        | some v ↦ λ e.
            if_by (λ x. puts put (changes new ks f) (x ∷ put k (new v) os) ≡ new o ∷ puts put (changes new ks f) (put k (new v) os))
            (eqb o.number k) (numbered k (new v)) o
            (λ t. put_there ks k v (put k (new v) os) (same_new k v e t) (stays_new ks (put k (new v) os)))
            (λ t. becomes_new ks (put k (new v) os) (λ a. h (rw (t, a))))
      ] refl

module _ (new : Object → Object) (keeps : (o : Object) → (new o).number ≡ o.number)
    (ks : List ℕ) (others : (o : Object) → among ks o.number ≡ false → new o ≡ o) where
  each_changed : (f : ℕ → Option Object) (os : List Object) → All (λ o. f o.number ≡ some o) os → puts put (changes new ks f) os ≡ map new os
  each_changed f [] h = puts_nowhere (changes new ks f)
  each_changed f (o ∷ os) h = becomes_new new keeps f o h.0 ks os (others o) ∙ ap (λ x. new o ∷ x) (each_changed f os h.1)

  -- where all others stay as they are, all objects are changed
  pub all_changed : (os : List Object) → rising (numbers os) ≡ true → puts put (changes new ks (λ k. find k os)) os ≡ map new os
  all_changed os h = each_changed (λ k. find k os) os (each_found os h)
