-- The way of a search: in a sound store it leads to every number, and what is found on it is what is found in the store; what follows
-- it does not matter.
use Prim.Native.Nat.{ℕ, zero, suc, ◌+◌, ◌-◌, ◌≤◌}
use mathlib.Core.Path.{◌≡◌, refl, sym, ap, ◌∙◌}
use mathlib.Core.List.{List, [], ◌∷◌, ◌++◌, append_assoc, append-nil}
use mathlib.Core.Bool.{true, false, false≢true}
use native.Mathlib.Omega.{arith}
use borrow.Author.Tests.{ltb-true, leb-true, ne_eqb}
use lib.Dec.{eqb, ltb, leb}
use lib.ListN.{length, take, length-append}
use lib.Seq.{take_at}
use Rattle.rules.specs.Found.{Found}
use Rattle.std.specs.Prelude.{Some, None, if◌then◌else◌}
use Rattle.rules.specs.Basic.{is_some, or_else, rising_from, rising}
use Rattle.rules.specs.Object.{Object, object_allowed, all_allowed, all_allowed_with}
use Rattle.rules.specs.Layout.{slot_size, record_size, record_bytes, size, objects_allowed, pack, unpack, read_record, read_records_with, pack_with, size_with, found_behind, found}
use Rattle.laws.proofs.Tests.{by_test, and_left, and_right, or_left, or_right, same_refl, some_else}
use Rattle.laws.proofs.Facts.{allowed, numbers, all_allowed_facts}
use Rattle.laws.proofs.Inverse.{record_length, records_then, nothing_read, pack_same, pack_unpack}
use Rattle.laws.proofs.Places.{pack_append, pack_length}
use Rattle.store.specs.Way.{up_to, reaches, way, front, leads}
use Rattle.store.proofs.Search.{way_in, Leads, way_allowed, front_packed, leads_facts, first}

-- objects up to the first at or above n ------------------------------------------------------------------------------------

module _ (n : ℕ) where
  -- those behind it
  unfoldable past : List Object → List Object
  past [] = []
  past (o ∷ os) = let rest = past os in if leb n o.number then os else rest

  split : (os : List Object) → os ≡ up_to n os ++ past os
  unfolding up_to past
  split [] = refl
  split (o ∷ os) = by_test (leb n o.number) (λ t. rw t) (λ t. rw t (ap (λ x. o ∷ x) (split os)))

  up_to_allowed : (os : List Object) → all_allowed os ≡ true → all_allowed (up_to n os) ≡ true
  unfolding up_to all_allowed_with
  up_to_allowed [] h = refl
  up_to_allowed (o ∷ os) h =
      let ok = and_left (object_allowed o) _ h in
      by_test (leb n o.number) (λ t. rw (t, ok)) (λ t. rw (t, ok) (up_to_allowed os (and_right (object_allowed o) _ h)))

  -- where one of them is at or above n, those that follow do not matter
  up_to_there : (os ps : List Object) → reaches n os ≡ true → up_to n (os ++ ps) ≡ up_to n os
  unfolding up_to reaches
  up_to_there [] ps h = absurd (false≢true h)
  up_to_there (o ∷ os) ps h = by_test (leb n o.number) (λ t. rw t) (λ t. rw t (ap (λ x. o ∷ x) (up_to_there os ps (rw t at h))))

  up_to_again : (os : List Object) → up_to n (up_to n os) ≡ up_to n os
  unfolding up_to
  up_to_again [] = refl
  up_to_again (o ∷ os) = by_test (leb n o.number) (λ t. rw t) (λ t. rw t (ap (λ x. o ∷ x) (up_to_again os)))

  -- numbers that rise: what is above n is not found
  none_above : (q k : ℕ) (os : List Object) → n ≤ k → rising_from k (numbers os) ≡ true → found_behind q n os ≡ None
  unfolding found_behind rising_from numbers
  none_above q k [] l h = refl
  none_above q k (o ∷ os) l h =
      let above = ltb-true k o.number (and_left (ltb k o.number) _ h) in
      rw (ne_eqb n o.number (λ e. omega arith)) (none_above (q + record_size o) o.number os (omega arith) (and_right (ltb k o.number) _ h))

  rises_on : (k : ℕ) (ms : List ℕ) → rising_from k ms ≡ true → rising ms ≡ true
  unfolding rising_from rising
  rises_on k [] h = refl
  rises_on k (m ∷ ms) h = and_right (ltb k m) _ h

  -- so nothing is lost with those behind it
  found_up_to : (q : ℕ) (os : List Object) → rising (numbers os) ≡ true → found_behind q n (up_to n os) ≡ found_behind q n os
  unfolding found_behind up_to rising numbers
  found_up_to q [] h = refl
  found_up_to q (o ∷ os) h =
      let on = q + record_size o in
      ap (λ x. if eqb n o.number then Some q else x)
      (by_test (leb n o.number)
      (λ t. rw t (sym (none_above on o.number os (leb-true n o.number t) h)))
      (λ t. rw t (found_up_to on os (rises_on o.number (numbers os) h))))

-- the way in a packing, and in what begins with one ------------------------------------------------------------------------

-- the way in b is sound, and has the objects os up to the first numbered at or above n
pub record Led (n : ℕ) (os : List Object) (b : List ℕ) : Type 0 where
  pub sound : leads n b ≡ true
  pub same : way n b ≡ up_to n os
  pub bytes : front n b ≡ pack (up_to n os)

-- there are no more objects than bytes
few : (os : List Object) → length os ≤ size os
unfolding size_with
few [] = omega arith
few (o ∷ os) = omega (arith, few os)

module _ (n : ℕ) (os : List Object) (h : all_allowed os ≡ true) where
  opens : (x : List ℕ) → way n (pack os ++ x) ≡ up_to n (os ++ read_records_with slot_size (length (pack os ++ x) - length os) x)
  unfolding way
  opens x =
      let k = length (pack os ++ x) - length os in
      let count : length (pack os ++ x) ≡ length os + k = omega (arith, few os, pack_length os h, length-append (pack os) x) in
      ap (up_to n) (ap (λ m. read_records_with slot_size m (pack os ++ x)) count ∙ records_then k os x h)

  led : (x : List ℕ) → way n (pack os ++ x) ≡ up_to n os → Led n os (pack os ++ x)
  unfolding leads
  led x e =
      let ok = up_to_allowed n os h in
      let laid : pack os ++ x ≡ pack (up_to n os) ++ (pack (past n os) ++ x) =
      ap (λ ps. pack ps ++ x) (split n os) ∙ ap (λ y. y ++ x) (pack_append (up_to n os) (past n os)) ∙ append_assoc (pack (up_to n os)) (pack (past n os)) x in
      let bytes : take (size (up_to n os)) (pack os ++ x) ≡ pack (up_to n os) =
      rw laid (take_at (pack (up_to n os)) _ (size (up_to n os)) (pack_length (up_to n os) ok)) in
      record { sound = rw (e, bytes, ok, same_refl (pack (up_to n os))); same = e; bytes = rw e bytes }

  -- one of them is numbered at or above n: whatever follows
  pub led_there : reaches n os ≡ true → (x : List ℕ) → Led n os (pack os ++ x)
  led_there r x = led x (opens x ∙ up_to_there n os _ r)

  -- nothing follows
  pub led_whole : Led n os (pack os)
  led_whole =
      rw (append-nil (pack os)) at (led [] (opens [] ∙ ap (λ ps. up_to n (os ++ ps)) (nothing_read _) ∙ ap (up_to n) (append-nil os)))

-- a sound store leads to every number, and what is found on the way is what is found in the store --------------------------

module _ (n : ℕ) (b : List ℕ) (h : is_some (unpack b) ≡ true) where
  abbrev objects : List Object
  objects = or_else (unpack b) []

  packed : (pack objects ≡ b) × (objects_allowed objects ≡ true)
  packed = pack_unpack b objects (some_else (unpack b) [] h)

  sound_led : Led n objects b
  sound_led = rw packed.0 at (led_whole n objects (all_allowed_facts objects packed.1).each)

  pub sound_leads : leads n b ≡ true
  sound_leads = sound_led.sound

  pub sound_find : (r : Found) → r ≡ found n (way n b) → r ≡ found n (or_else (unpack b) [])
  unfolding found
  sound_find r e = e ∙ ap (found n) sound_led.same ∙ found_up_to n 0 objects (all_allowed_facts objects packed.1).rises

-- what follows the way does not matter -------------------------------------------------------------------------------------

-- whatever follows the way: it leads there, and up to the same place
pub whatever_follows : (n : ℕ) (b : List ℕ) → leads n b ≡ true → reaches n (way n b) ≡ true → (x : List ℕ) →
    (leads n (front n b ++ x) ≡ true) × (front n (front n b ++ x) ≡ front n b)
unfolding way
whatever_follows n b h r x =
    let packed = front_packed n b h in
    let l = rw packed at (led_there n (way n b) (way_allowed n b h) r x) in
    (l.sound, l.bytes ∙ ap pack (up_to_again n _) ∙ packed)

-- two searches whose ways are the same bytes find the same
pub same_find : (n : ℕ) (a b : List ℕ) (r r' : Found) → leads n a ≡ true → leads n b ≡ true → r ≡ found n (way n a) → r' ≡ found n (way n b) →
    front n a ≡ front n b → r ≡ r'
same_find n a b r r' h k e e' q =
    let ways = pack_same (way n a) (way n b) (way_allowed n a h) (way_allowed n b k) (front_packed n a h ∙ q ∙ sym (front_packed n b k)) in
    e ∙ ap (found n) ways ∙ sym e'

-- where no record is numbered at or above n, the way is the whole store
whole : (n k : ℕ) (b : List ℕ) → Leads n k b → length b ≤ k → reaches n (way_in n k b) ≡ false → pack (way_in n k b) ≡ b
unfolding up_to reaches pack_with
whole n zero [] a l r = rw (nothing_read 0)
whole n zero (x ∷ xs) a l r = absurd (omega arith)
whole n (suc k) [] a l r = rw (nothing_read (suc k))
whole n (suc k) (x ∷ xs) a l r =
    let f = first n k (x ∷ xs) a (omega arith) in
    let o = read_record (x ∷ xs) in
    let r' = rw f.opened at r in
    let t = or_left (leb n o.number) _ r' in
    let on = rw t at (or_right (leb n o.number) _ r') in
    let short : length f.rest ≤ k = omega (arith, ap length f.here, length-append (record_bytes o) f.rest, record_length o (allowed o f.ok)) in
    rw (f.opened, t, whole n k f.rest (f.behind t) short on) (sym f.here)

pub whole_front : (n : ℕ) (b : List ℕ) → leads n b ≡ true → reaches n (way n b) ≡ false → front n b ≡ b
unfolding way
whole_front n b h r = sym (front_packed n b h) ∙ whole n (length b) b (leads_facts n b h) (omega arith) r
