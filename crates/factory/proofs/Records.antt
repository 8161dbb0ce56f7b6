-- A factory record's bytes, and the records end to end.
use Prim.Native.Nat.{ℕ, ◌+◌, ◌*◌, ◌-◌, ◌≤◌, ◌<◌}
use mathlib.Core.List.{List, [], ◌∷◌, ◌++◌, append-nil, append_assoc}
use mathlib.Core.Path.{◌≡◌, refl, sym, ap, ◌∙◌}
use native.Mathlib.Omega.{arith}
use native.Mathlib.Nat.{sub-zero}
use lib.ListN.{length, take, drop, length-append, length-take, length-drop, replicate-append-replicate, drop_of_length-le}
use lib.Seq.{take_at, drop_at, drop-drop}
use Rattle.rules.specs.Basic.{zeros}
use Rattle.rules.specs.Expression.{expression_bytes, groups_bytes, group_bytes, condition_bytes}
use Rattle.rules.specs.Layout.{head_size, slots_at, slot_size, slot_of, record_bytes, pack, record_bytes_with, slot_of_with}
use Rattle.rules.specs.Factory.{entry, table, made, before_operational, factory_objects, factory_store}
use Rattle.primitives.specs.Bytes.{over}
use Rattle.rules.specs.declared.Kind.TheVariants.{Data}
use Rattle.record.specs.Records.{fixed}
use Rattle.factory.specs.Table.{entries, all_bytes, first, place, Listed}
use Rattle.factory.proofs.Table.{made_record, first_length, first_next, total_is}

-- one record ----------------------------------------------------------------------------------------------------------------

-- its first bytes and its slots put over zeros
laid_record : (n m : ℕ) →
    over (slots_at + 2 * slot_size) (slot_of (0x00 ∷ [])) (over (slots_at + slot_size) (slot_of (0x00 ∷ []))
    (over slots_at (slot_of (0xE1 ∷ 0xFC ∷ 0x07 ∷ [])) (over 0 (fixed Data n m 0 1) (zeros head_size ++ zeros m)))) ≡
    record_bytes (made (entry n m))
unfolding over fixed record_bytes_with made entry before_operational slot_of_with expression_bytes groups_bytes group_bytes condition_bytes
laid_record n m = simp (sub-zero, append-nil)

pub record_by : (n m : ℕ) (x r0 r1 r2 r3 r4 : List ℕ) → length x ≡ head_size + m → r0 ≡ zeros (length x) → r1 ≡ over 0 (fixed Data n m 0 1) r0 →
    r2 ≡ over slots_at (slot_of (0xE1 ∷ 0xFC ∷ 0x07 ∷ [])) r1 → r3 ≡ over (slots_at + slot_size) (slot_of (0x00 ∷ [])) r2 →
    r4 ≡ over (slots_at + 2 * slot_size) (slot_of (0x00 ∷ [])) r3 → r4 ≡ record_bytes (made (entry n m))
record_by n m x r0 r1 r2 r3 r4 l e0 e1 e2 e3 e4 = rw (e4, e3, e2, e1, e0, l, ← replicate-append-replicate {A = ℕ} head_size m 0) (laid_record n m)

-- records end to end ----------------------------------------------------------------------------------------------------------

-- the record of entry i, made in the part that was lent, behind those before it
pub fill_turn : (store₀ store r : List ℕ) (at i n m : ℕ) → i < entries → Listed i n m → at ≡ place i → store ≡ pack (first i) ++ drop at store₀ →
    r ≡ record_bytes (made (entry n m)) →
    take at store ++ (r ++ drop (at + head_size + m - at) (drop at store)) ≡ pack (first (i + 1)) ++ drop (at + head_size + m) store₀
fill_turn store₀ store r at i n m h l e inv er =
    let front = pack (first i) in
    let long : length front ≡ at = first_length i ∙ sym e in
    let k : at + head_size + m - at ≡ head_size + m = omega arith in
    let k' : at + (head_size + m) ≡ at + head_size + m = omega arith in
    rw (inv, take_at front (drop at store₀) at long, drop_at front (drop at store₀) at long, k, drop-drop, k', er, l.same, first_next i h)
    (simp append_assoc)

pub fill_length : (store₀ store r : List ℕ) (at i n m : ℕ) → Listed i n m → at ≡ place i → length store ≡ length store₀ → length store₀ ≡ all_bytes →
    r ≡ record_bytes (made (entry n m)) → length (take at store ++ (r ++ drop (at + head_size + m - at) (drop at store))) ≡ length store₀
fill_length store₀ store r at i n m l e k h er =
    let q : length r ≡ head_size + m = ap length er ∙ made_record (entry n m) ∙ (unfold entry in refl) in
    simp (length-append, length-take, length-drop) (omega (arith, l.next, l.within))

pub fill_end : (store₀ store : List ℕ) (at i : ℕ) → i ≤ entries → entries ≤ i → at ≡ place i → length store₀ ≡ all_bytes →
    store ≡ pack (first i) ++ drop at store₀ → store ≡ factory_store
fill_end store₀ store at i h k e l inv =
    let z : i ≡ entries = omega arith in
    let a : at ≡ all_bytes = e ∙ ap place z ∙ (unfold place first table factory_objects in total_is) in
    inv ∙ (λ j. pack (first (z j)) ++ drop (a j) store₀) ∙ ap (λ x. pack (first entries) ++ x) (drop_of_length-le store₀ {i = all_bytes} (omega arith)) ∙
    append-nil (pack (first entries)) ∙ (unfold first factory_store factory_objects table in refl)
