-- The search for a record: how far it has come, and each of its ways out.
use Prim.Native.Nat.{ℕ, suc, ◌+◌, ◌-◌, ◌<◌, ◌≤◌}
use mathlib.Core.Path.{◌≡◌, refl, sym, ap, ◌∙◌}
use mathlib.Core.List.{List, [], ◌∷◌, ◌++◌, append_assoc}
use mathlib.Core.Bool.{true, false}
use native.Mathlib.Omega.{arith}
use native.Mathlib.Nat.{zero-add}
use borrow.Author.Tests.{eq-eqb, ne_eqb, le-leb, lt-leb}
use lib.Dec.{leb}
use lib.ListN.{length, drop, length-drop, take-append-drop, drop_of_length-le}
use Rattle.std.specs.Prelude.{if◌then◌else◌, Some, None}
use Rattle.rules.specs.Object.{Object, object_allowed, all_allowed, all_allowed_with}
use Rattle.rules.specs.Layout.{slot_size, head_size, record_size, record_bytes, size, pack, read_record, read_records_with, pack_with, found_behind, found}
use Rattle.laws.proofs.Tests.{and_left, and_right, same_eq}
use Rattle.laws.proofs.Inverse.{nothing_read}
use Rattle.record.specs.Places.{object_at, Stored}
use Rattle.record.proofs.Standing.{size_here, rest_here, stands_here, stored_facts}
use Rattle.store.specs.Way.{up_to, way, front, leads}

module _ (n : ℕ) where
  -- the way in b, of at most k records
  abbrev pub way_in : ℕ → List ℕ → List Object
  way_in k b = up_to n (read_records_with slot_size k b)

  -- it is the records of allowed objects, at the front of b
  pub record Leads (k : ℕ) (b : List ℕ) : Type 0 where
    pub allowed : all_allowed (way_in k b) ≡ true
    pub rest : List ℕ
    pub bytes : b ≡ pack (way_in k b) ++ rest

  module _ (b : List ℕ) (h : leads n b ≡ true) where
    pub way_allowed : all_allowed (way n b) ≡ true
    unfolding leads
    way_allowed = and_left (all_allowed (way n b)) _ h

    pub front_packed : pack (way n b) ≡ front n b
    unfolding leads
    front_packed = same_eq (pack (way n b)) (front n b) (and_right (all_allowed (way n b)) _ h)

    pub leads_facts : Leads (length b) b
    unfolding way
    leads_facts = record { allowed = way_allowed; rest = drop (size (way n b)) b; bytes = rw front_packed (sym (take-append-drop (size (way n b)) b)) }

  -- the first record on it, which is that of o, and the way behind it
  pub record First (k : ℕ) (b : List ℕ) (o : Object) : Type 0 where
    pub rest : List ℕ
    pub ok : object_allowed o ≡ true
    pub here : b ≡ record_bytes o ++ rest
    pub opened : way_in (suc k) b ≡ o ∷ (if leb n o.number then [] else way_in k rest)
    pub behind : leb n o.number ≡ false → Leads k rest

  pub first : (k : ℕ) (b : List ℕ) → Leads (suc k) b → 1 ≤ length b → First k b (read_record b)
  unfolding up_to read_records_with all_allowed_with pack_with
  first k [] a h = absurd (omega arith)
  first k (x ∷ xs) a h =
      let b = x ∷ xs in
      let o = read_record b in
      let ok = and_left (object_allowed o) _ a.allowed in
      let e : b ≡ record_bytes o ++ _ = a.bytes ∙ append_assoc (record_bytes o) _ a.rest in
      let z = size_here 0 b o _ ok e in
      let behind = rw zero-add at (rest_here 0 b o _ ok e) in
      record {
        rest = drop (record_size o) b;
        ok = ok;
        here = e ∙ ap (λ r. record_bytes o ++ r) (sym behind);
        opened = rw z;
        behind = λ t. record { allowed = rw (z, t) at (and_right (object_allowed o) _ a.allowed); rest = a.rest; bytes = rw (z, t) at behind };
      }

-- what is left of a search that has come to `at`
pub record Ahead (n : ℕ) (b : List ℕ) (at : ℕ) : Type 0 where
  pub left : ℕ
  pub enough : length b - at ≤ left
  pub leading : Leads n left (drop at b)
  pub same : found n (way n b) ≡ found_behind at n (way_in n left (drop at b))
  pub inside : at ≤ length b

pub start : (n : ℕ) (b : List ℕ) → leads n b ≡ true → Ahead n b 0
unfolding way found
start n b h = record { left = length b; enough = omega arith; leading = leads_facts n b h; same = refl; inside = omega arith }

module _ (n at : ℕ) (b : List ℕ) (a : Ahead n b at) where
  pub search_end : length b ≤ at → None ≡ found n (way n b)
  unfolding up_to found_behind
  search_end h = sym (a.same ∙ rw (drop_of_length-le b h, nothing_read a.left))

  module _ (h : at < length b) where
    -- one record more may be read
    more : a.left ≡ suc (a.left - 1)
    more = omega (arith, a.enough)

    here : First n (a.left - 1) (drop at b) (object_at at b)
    unfolding object_at
    here = first n (a.left - 1) (drop at b) (rw more at a.leading) (rw length-drop (omega arith))

    pub here_stored : Stored at b
    here_stored = stored_facts at b (stands_here at b _ _ here.ok here.here)

    opened : found n (way n b) ≡ found_behind at n (object_at at b ∷ (if leb n (object_at at b).number then [] else way_in n (a.left - 1) here.rest))
    opened = a.same ∙ ap (λ k. found_behind at n (way_in n k (drop at b))) more ∙ ap (found_behind at n) here.opened

    -- what the calls gave: the number of the object there, and where its record ends
    module _ (k : ℕ) (ek : k ≡ (object_at at b).number) where
      pub found_here : n ≤ k → k ≤ n → Some at ≡ found n (way n b)
      unfolding found_behind
      found_here l u = sym (opened ∙ rw (eq-eqb n (object_at at b).number (omega arith)))

      pub passed : n < k → None ≡ found n (way n b)
      unfolding found_behind
      passed l = sym (opened ∙ rw (ne_eqb n (object_at at b).number (λ e. omega arith), le-leb n (object_at at b).number (omega arith)))

      pub go_on : (m : ℕ) → m ≡ at + head_size + (object_at at b).maximum → k < n → Ahead n b m
      unfolding found_behind
      go_on m em l =
          let q : m ≡ at + record_size (object_at at b) = omega arith in
          let t : leb n (object_at at b).number ≡ false = lt-leb n (object_at at b).number (omega arith) in
          let rest : drop m b ≡ here.rest = rw q (rest_here at b _ _ here.ok here.here) in
          record {
            left = a.left - 1;
            enough = omega (arith, a.enough);
            leading = rw rest (here.behind t);
            same = rw (rest, q) (opened ∙ rw (ne_eqb n (object_at at b).number (λ e. omega arith), t));
            inside = omega (arith, here_stored.inside);
          }
