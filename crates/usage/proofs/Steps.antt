-- The steps of listed counters: laws for the ways out of the functions.
use Prim.Native.Nat.{ℕ, ◌+◌, ◌≤◌, ◌<◌}
use mathlib.Core.Bool.{Bool, true, false, ◌||◌}
use mathlib.Core.List.{List, [], ◌∷◌}
use mathlib.Core.Option.{some}
use mathlib.Core.Path.{◌≡◌, refl, sym, ap, ◌∙◌}
use native.Mathlib.Omega.{arith}
use native.Mathlib.Numerals.{add-one}
use lib.Dec.{eqb}
use lib.ListN.{length, get_or, take, drop, drop_of_length-le}
use lib.Seq.{take-suc, drop-cons}
use borrow.Author.Tests.{eq-eqb, ne_eqb}
use Rattle.rules.specs.Found.{Found}
use Rattle.std.proofs.lemmas.Grind.{common_steps}
use Rattle.std.proofs.lemmas.List.{take_all}
use Rattle.std.specs.List.{list_any}
use Rattle.std.specs.Prelude.{Some, None, if◌then◌else◌}
use Rattle.rules.specs.declared.Kind.TheVariants.{Counter}
use Rattle.rules.specs.declared.Direction.TheVariants.{Up}
use Rattle.rules.specs.Basic.{among, is_some, or_else}
use Rattle.rules.specs.Object.{Object, is, is_counter, direction, with_content}
use Rattle.rules.specs.Counter.{after_count}
use Rattle.rules.specs.Layout.{objects_allowed, pack, unpack, find, replaced, found}
use Rattle.rules.specs.Access.{one_up, used_up, all_used_up}
use Rattle.laws.proofs.Tests.{some_else}
use Rattle.laws.proofs.Inverse.{pack_unpack}
use Rattle.laws.proofs.Places.{replaced_itself}
use Rattle.laws.proofs.Fitting.{up_is_counter, up_direction, used_up_fits}
use Rattle.laws.proofs.UsedUp.{none_used_up}
use Rattle.laws.proofs.UsedOnce.{used_up_packed, no_counter_kept, absent_kept, one_used_up, found_steps, all_one_more}
use Rattle.record.specs.Places.{object_at, Stored, with_record}
use Rattle.change.specs.Change.{counted_at}
use Rattle.change.proofs.Changed.{stands_allowed}
use Rattle.store.specs.Way.{way}
use Rattle.store.proofs.Ways.{sound_find}
use Rattle.store.proofs.Placing.{nowhere, finds_it, stored_there, recorded_there}

-- a number among others, as `contains` looks for it
pub contained : (ns : List ℕ) (n : ℕ) → list_any (λ m. eqb m n) ns ≡ among ns n
unfolding among
contained [] n = refl
contained (m ∷ ms) n = rw (eqb_sym m n, contained ms n)
  where
    eqb_sym : (m n : ℕ) → eqb m n ≡ eqb n m
    eqb_sym m n = grind (arith, common_steps)

-- the numbers before the place i, by another name of it
pub looked : (ns : List ℕ) (n i j : ℕ) (t : Bool) → t ≡ among (take j ns) n → j ≡ i → t ≡ among (take i ns) n
looked ns n i j t h e = h ∙ ap (λ k. among (take k ns) n) e

-- `is_listed`: what is left to look through
module _ (ns : List ℕ) (n i : ℕ) (w : Bool) (inv : w ≡ among (drop i ns) n) where
  module _ (more : i < length ns) where
    opened : w ≡ (eqb n (get_or ns i 0) || among (drop (i + 1) ns) n)
    unfolding among
    opened = inv ∙ rw (add-one i, drop-cons ns i 0 more) refl

    pub listed_here : get_or ns i 0 ≡ n → true ≡ w
    listed_here e = sym (opened ∙ rw (eq-eqb n (get_or ns i 0) (sym e)) refl)

    pub listed_on : (get_or ns i 0 ≡ n → ⊥) → w ≡ among (drop (i + 1) ns) n
    listed_on e = opened ∙ rw (ne_eqb n (get_or ns i 0) (λ h. e (sym h))) refl

  pub listed_end : length ns ≤ i → false ≡ w
  unfolding among
  listed_end h = sym (inv ∙ rw (drop_of_length-le ns {i = i} h) refl)

-- the objects of a sound store
module _ (b : List ℕ) (sound : is_some (unpack b) ≡ true) where
  abbrev objects : List Object
  objects = or_else (unpack b) []

  unpacked : unpack b ≡ some objects
  unpacked = some_else (unpack b) [] sound

  packed : pack objects ≡ b
  packed = (pack_unpack b objects unpacked).0

  ok : objects_allowed objects ≡ true
  ok = (pack_unpack b objects unpacked).1

  module _ (n : ℕ) (r : Found) (on_way : r ≡ found n (way n b)) where
    in_all : r ≡ found n objects
    in_all = sound_find n b sound r on_way

    pub step_nothing : r ≡ None → b ≡ pack (all_used_up (n ∷ []) objects)
    step_nothing h = sym (ap pack (absent_kept n objects (nowhere n objects (sym in_all ∙ h))) ∙ packed)

    module _ (p : ℕ) (h : r ≡ Some p) where
      there : found n objects ≡ Some p
      there = sym in_all ∙ h

      pub step_stored : Stored p b
      step_stored = stored_there n p b objects unpacked there

      finds : find n objects ≡ some (object_at p b)
      finds = finds_it n p b objects unpacked there

      -- the object there alone
      alone : all_used_up (n ∷ []) objects ≡ replaced (used_up (n ∷ []) (object_at p b)) objects
      alone = one_used_up n objects (object_at p b) ok finds

      -- o is the object there, t what `is_up_counter` said of it
      module _ (o : Object) (eo : o ≡ object_at p b) (t : Bool) (et : t ≡ is (Counter Up) o.kind) where
        kind_up : (w : Bool) → t ≡ w → is (Counter Up) (object_at p b).kind ≡ w
        kind_up w k = ap (λ x. is (Counter Up) x.kind) (sym eo) ∙ sym et ∙ k

        pub step_counter : t ≡ true → is_counter (object_at p b).kind ≡ true
        step_counter k = up_is_counter _ (kind_up true k)

        pub step_counted : t ≡ true → (s : List ℕ) → s ≡ counted_at p 1 b → s ≡ pack (all_used_up (n ∷ []) objects)
        unfolding one_up
        step_counted k s q =
            let x = object_at p b in
            let up = kind_up true k in
            let new = used_up (n ∷ []) x in
            let fits = used_up_fits (n ∷ []) x (stands_allowed p b step_stored) in
            let counted : with_content (after_count (direction x.kind) 1 x.content) x ≡ new =
            ap (λ w. with_content (after_count w 1 x.content) x) (up_direction x.kind up) ∙ sym (found_steps n objects x finds up) in
            q ∙ ap (λ y. with_record p y b) counted ∙ recorded_there n p b objects unpacked there new fits.allowed fits.number fits.maximum ∙
            ap pack (sym alone)

        -- what is no counter up stays as it is
        pub step_other : t ≡ false → b ≡ pack (all_used_up (n ∷ []) objects)
        step_other k =
            let stays = no_counter_kept (n ∷ []) (object_at p b) (kind_up false k) in
            sym (ap pack (alone ∙ ap (λ x. replaced x objects) stays ∙ replaced_itself n objects (object_at p b) ok finds) ∙ packed)

  -- `use_up` -----------------------------------------------------------------------------------------------------------------

  pub use_start : (ns : List ℕ) → b ≡ pack (all_used_up (take 0 ns) objects)
  use_start ns = sym (ap pack (none_used_up objects) ∙ packed)

  -- the store after the first i numbers; r: whether the next is among them
  module _ (ns : List ℕ) (i : ℕ) (s : List ℕ) (inv : s ≡ pack (all_used_up (take i ns) objects)) where
    pub use_sound : is_some (unpack s) ≡ true
    use_sound = rw (inv, used_up_packed (take i ns) objects ok)

    more : i < length ns → all_used_up (if among (take i ns) (get_or ns i 0) then [] else get_or ns i 0 ∷ []) (all_used_up (take i ns) objects)
        ≡ all_used_up (take (i + 1) ns) objects
    more h = rw (add-one i, take-suc ns i 0 h) (all_one_more (take i ns) (get_or ns i 0) objects)

    module _ (n : ℕ) (e : n ≡ get_or ns i 0) (t : Bool) (f : t ≡ list_any (λ m. eqb m n) (take i ns)) (h : i < length ns) where
      told : among (take i ns) (get_or ns i 0) ≡ t
      told = sym (f ∙ contained (take i ns) n ∙ ap (among (take i ns)) e)

      pub use_again : t ≡ true → s ≡ pack (all_used_up (take (i + 1) ns) objects)
      use_again k = inv ∙ ap pack (sym (none_used_up (all_used_up (take i ns) objects)) ∙ rw (told, k) at (more h))

      pub use_on : t ≡ false → (r : List ℕ) → r ≡ pack (all_used_up (n ∷ []) (or_else (unpack s) [])) → r ≡ pack (all_used_up (take (i + 1) ns) objects)
      use_on k r q =
          let read : or_else (unpack s) [] ≡ all_used_up (take i ns) objects = rw (inv, used_up_packed (take i ns) objects ok) in
          q ∙ rw (read, e) (ap pack (rw (told, k) at (more h)))

    pub use_end : length ns ≤ i → (w : List ℕ) → ns ≡ w → s ≡ pack (all_used_up w objects)
    use_end h w e = inv ∙ ap (λ x. pack (all_used_up x objects)) (take_all i ns h ∙ e)
