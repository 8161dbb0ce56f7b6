-- The table and what follows from it: each entry, where its record begins, and 6,024 bytes in all.
use Prim.Native.Nat.{ℕ, ◌+◌, ◌≤◌, ◌<◌}
use mathlib.Core.List.{List, [], ◌∷◌, ◌++◌, append-nil, map, map-append}
use mathlib.Core.Path.{◌≡◌, refl, ap, ◌∙◌}
use native.Mathlib.Omega.{arith}
use native.Mathlib.Numerals.{add-one}
use lib.ListN.{length, get_or, take, drop, length-append, length-replicate, take-append-drop, get_or-map}
use lib.Seq.{take-suc}
use Rattle.rules.specs.Expression.{expression_bytes, groups_bytes, group_bytes, condition_bytes}
use Rattle.rules.specs.Layout.{head_size, size, record_bytes, pack, pack_with, record_bytes_with, size_with, slot_of_with}
use Rattle.laws.proofs.Places.{pack_append}
use Rattle.rules.specs.Factory.{Entry, entry, table, made, before_operational, factory_objects}
use Rattle.factory.specs.declared.Entry as code
use Rattle.factory.specs.Table.{entries, all_bytes, entry_at, first, place, Listed}

-- the rules' table -----------------------------------------------------------------------------------------------------

pub made_record : (e : Entry) → length (record_bytes (made e)) ≡ head_size + e.maximum
unfolding record_bytes_with slot_of_with made before_operational expression_bytes groups_bytes group_bytes condition_bytes
made_record e = simp (length-append, length-replicate) (omega arith)

made_length : (es : List Entry) → length (pack (map made es)) ≡ size (map made es)
unfolding pack_with size_with made
made_length [] = refl
made_length (e ∷ es) = omega (arith, length-append (record_bytes (made e)) (pack (map made es)), made_record e, made_length es)

pub first_length : (i : ℕ) → length (pack (first i)) ≡ place i
unfolding place first
first_length i = made_length (take i table)

pub first_next : (i : ℕ) → i < entries → pack (first (i + 1)) ≡ pack (first i) ++ record_bytes (made (entry_at i))
unfolding first entry_at pack_with
first_next i h = rw (add-one i, take-suc table i (entry 0 0) (unfold table in h), map-append, pack_append, append-nil)

pub total_is : size factory_objects ≡ all_bytes
unfolding size_with factory_objects table made entry
total_is = refl

place_within : (i : ℕ) → place i ≤ all_bytes
unfolding first factory_objects
place_within i =
    let whole : pack (first i) ++ pack (map made (drop i table)) ≡ pack factory_objects = rw (← pack_append, ← map-append, take-append-drop) in
    omega (arith, simp length-append at (ap length whole), first_length i, made_length table, total_is)

place_next : (i m : ℕ) → i < entries → m ≡ (entry_at i).maximum → place (i + 1) ≡ place i + (head_size + m)
place_next i m h e = omega (arith, simp length-append at (ap length (first_next i h)), first_length i, first_length (i + 1), made_record (entry_at i))

-- the code's table ----------------------------------------------------------------------------------------------------------

-- an entry as the code has it
unfoldable pub coded : Entry → code.Entry
coded e = record { 0 = record { 0 = e.number }; 1 = record { 0 = e.maximum } }

-- each entry of the rules' table as the code has it: that all of the code's table is this is one computed test
pub listed : (i : ℕ) → i < entries → Listed i (get_or (map coded table) i (coded (entry 0 0))).0.0 (get_or (map coded table) i (coded (entry 0 0))).1.0
listed i h =
    let e = get_or-map coded table i (entry 0 0) in
    record {
      same = (λ j. entry (e j).0.0 (e j).1.0) ∙ (unfold coded entry entry_at in refl);
      next = place_next i _ h (ap (λ (x : code.Entry). x.1.0) e ∙ (unfold coded entry_at in refl));
      within = place_within (i + 1);
    }
