-- Fields judged one after the other, as the loop of `content_allowed` does, and what that says of the rules' metadata.
use Prim.Native.Nat.{ℕ, ◌-◌, ◌≤◌, ◌<◌}
use mathlib.Core.Path.{◌≡◌, refl, sym, ap, ◌∙◌}
use mathlib.Core.Bool.{Bool, true, false, false≢true}
use mathlib.Core.List.{List, [], ◌∷◌, ◌++◌}
use native.Mathlib.Omega.{arith}
use borrow.Author.Tests.{leb-true, le-leb, lt-ltb}
use lib.ListN.{length, get_or, drop, length-drop, drop_of_length-le}
use Rattle.rules.specs.Basic.{all, rising_from}
use Rattle.rules.specs.Metadata.{field, fields_bytes, led_by_20, read_fields, sent_fields, field_allowed, fields_allowed, metadata_allowed}
use Rattle.laws.proofs.Tests.{and_both, at_place, same_refl, same_eq}
use Rattle.laws.proofs.Fields.{fields_read}
use Rattle.std.specs.Prelude.{Option, Some, None, Result, Ok, Err}
use Rattle.reader.specs.declared.Field as code
use Rattle.reader.specs.declared.Malformed.{Malformed}
use Rattle.reader.specs.Content.{told, seen, field_at, place_after}
use Rattle.reader.proofs.Fields.{two, bytes, past, before, ended, broke, gave, passed}
use Rattle.content.proofs.Filling.{Filling, First, first, none_left, few, from_zero, some_alike}

-- w tells whether what is left at k is filled
pub record Judged (w : Bool) (lcso last k : ℕ) (m : List ℕ) : Type 0 where
  pub to : w ≡ true → Filling lcso last (drop k m)
  pub back : Filling lcso last (drop k m) → w ≡ true

refused : (w : Bool) → (w ≡ true → ⊥) → false ≡ w
refused true n = absurd (n refl)
refused false n = refl

module _ (w : Bool) (lcso last k : ℕ) (m : List ℕ) (inv : Judged w lcso last k m) (r : Option (Result code.Field Malformed)) (is : seen r ≡ field_at k m) where
  pub judged_end : r ≡ None → true ≡ w
  unfolding fields_bytes rising_from fields_allowed
  judged_end h = sym (inv.back (record { fs = []; bytes = drop_of_length-le m (past k m (ended k m r is h)); rise = refl; allowed = refl }))

  module _ (n : Result code.Field Malformed) (some : r ≡ Some n) where
    pub judged_malformed : (e : Malformed) → n ≡ Err e → false ≡ w
    unfolding fields_bytes
    judged_malformed e err = refused w (λ y.
        let f = inv.to y in
        let there = broke k m r is n some e err in
        let none = none_left k m f.fs f.bytes (λ g q. let z : Some (Err e) ≡ Some (Ok g) = sym there ∙ q in cc) in
        omega (arith, length-drop k m, ap length (f.bytes ∙ ap fields_bytes none), before k m e there))

    module _ (f : code.Field) (ok : n ≡ Ok f) where
      its_first : (y : w ≡ true) → First lcso last k (told f) m (inv.to y).fs
      its_first y = first lcso last k m (told f) (gave k m r is n some f ok) (inv.to y)

      pub judged_falls : f.tag ≤ last → false ≡ w
      unfolding field
      judged_falls l = refused w (λ e. omega (arith, (its_first e).above))

      module _ (yes : Bool) (says : yes ≡ field_allowed lcso (told f)) where
        pub judged_refused : yes ≡ false → false ≡ w
        judged_refused n = refused w (λ y. false≢true (sym n ∙ says ∙ (its_first y).allowed))

        pub judged_next : last < f.tag → yes ≡ true → (p : ℕ) → p ≡ place_after k m → Judged w lcso f.tag p m
        unfolding fields_bytes rising_from fields_allowed field
        judged_next l t p q =
            let stood = gave k m r is n some f ok in
            rw (q ∙ passed k m (told f) stood)
            (record {
              to = λ y. (its_first y).rest;
              back = λ g. inv.back (record {
                fs = told f ∷ g.fs;
                bytes = bytes k m (told f) stood ∙ ap (λ x. f.tag ∷ length f.value.now ∷ f.value.now ++ x) g.bytes;
                rise = and_both _ _ (lt-ltb last f.tag l) g.rise;
                allowed = and_both _ _ (sym says ∙ t) g.allowed;
              });
            })

-- the rules' metadata ----------------------------------------------------------------------------------------------------------

module _ (lcso : ℕ) (m : List ℕ) where
  pub whole : metadata_allowed lcso m ≡ true → led_by_20 (fields_bytes (sent_fields m)) ≡ m
  unfolding metadata_allowed
  whole h = same_eq _ m (at_place _ h 1)

  -- the fields of allowed content fill it behind 20 and L
  unfoldable pub filling : metadata_allowed lcso m ≡ true → Filling lcso 0 (drop 2 m)
  unfolding metadata_allowed led_by_20
  filling h =
      let fs = sent_fields m in
      record { fs = fs; bytes = ap (drop 2) (sym (whole h)); rise = sym (from_zero lcso fs (at_place _ h 3)) ∙ at_place _ h 2; allowed = at_place _ h 3 }

  -- `content_allowed`
  pub too_short : length m ≤ 2 → false ≡ metadata_allowed lcso m
  unfolding led_by_20 metadata_allowed
  too_short l = refused _ (λ h. omega (arith, ap length (whole h), some_alike (sent_fields m), leb-true 1 (length (sent_fields m)) (at_place _ h 0)))

  pub not_led : (get_or m 0 0 ≡ 0x20 → ⊥) → false ≡ metadata_allowed lcso m
  unfolding led_by_20
  not_led n = refused _ (λ h. n (sym (ap (λ x. get_or x 0 0) (whole h))))

  pub not_filling : (get_or m 1 0 ≡ length m - 2 → ⊥) → false ≡ metadata_allowed lcso m
  unfolding led_by_20
  not_filling n = refused _ (λ h. n (omega (arith, ap (λ x. get_or x 1 0) (whole h), ap length (whole h))))

  pub by_fields : 2 < length m → get_or m 0 0 ≡ 0x20 → get_or m 1 0 ≡ length m - 2 → Judged (metadata_allowed lcso m) lcso 0 2 m
  unfolding led_by_20 metadata_allowed sent_fields all
  by_fields l f s = record { to = filling; back = back }
    where
      led : 0x20 ∷ length (drop 2 m) ∷ drop 2 m ≡ m
      led = let n : length (drop 2 m) ≡ get_or m 1 0 = length-drop 2 m ∙ sym s in (λ i. sym f i ∷ n i ∷ drop 2 m) ∙ sym (two m 0 (omega arith))

      back : Filling lcso 0 (drop 2 m) → metadata_allowed lcso m ≡ true
      back g =
          let fs = g.fs in
          let sent : read_fields 4 (drop 2 m) ≡ fs = ap (read_fields 4) g.bytes ∙ fields_read 4 fs (few lcso 0 fs g.rise g.allowed) in
          let one : 1 ≤ length fs = omega (arith, some_alike fs, ap length g.bytes, length-drop 2 m) in
          rw (sent, le-leb 1 (length fs) one, ← g.bytes, led, same_refl m, from_zero lcso fs g.allowed, g.rise, g.allowed)
