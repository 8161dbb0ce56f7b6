-- What `field_at` says of the content's bytes, and what it says where they are those of fields.
use Prim.Native.Nat.{ℕ, ◌+◌, ◌-◌, ◌≤◌, ◌<◌}
use mathlib.Core.Path.{◌≡◌, refl, sym, ap, ◌∙◌}
use mathlib.Core.Bool.{Bool, true, false}
use mathlib.Core.List.{List, [], ◌∷◌, ◌++◌}
use native.Mathlib.Omega.{arith}
use native.Mathlib.Nat.{add_assoc}
use native.Mathlib.Numerals.{add-one}
use borrow.Author.Tests.{lt-ltb, le-ltb, ltb-false}
use lib.Dec.{ltb}
use lib.ListN.{length, get_or, take, drop, length-append, length-take, length-drop, take-append-drop}
use lib.Seq.{drop-cons, drop-drop, take-append_seam}
use Rattle.std.specs.Prelude.{if◌then◌else◌, Option, Some, None, Result, Ok, Err}
use Rattle.rules.specs.Metadata.{Field, field, fields_bytes}
use Rattle.reader.specs.declared.Field as code
use Rattle.reader.specs.declared.Malformed.{Malformed}
use Rattle.reader.specs.Content.{told, seen, field_in, field_at, end_of, place_after}

pub two : (s : List ℕ) (i : ℕ) → i + 2 ≤ length s → drop i s ≡ get_or s i 0 ∷ get_or s (i + 1) 0 ∷ drop (i + 2) s
two s i h = rw (drop-cons s i 0 (omega arith), ← add-one i, drop-cons s (i + 1) 0 (omega arith), ← add-one (i + 1), add_assoc i 1 1)

-- `step_from`: each way out, for the bytes behind a place
module _ (s : List ℕ) where
  pub lone : 0 < length s → length s < 2 → Some (Err (record {})) ≡ field_in s
  unfolding field_in
  lone h k = go s h k
    where
      go : (s : List ℕ) → 0 < length s → length s < 2 → Some (Err (record {})) ≡ field_in s
      go [] h k = absurd (omega arith)
      go (t ∷ []) h k = refl
      go (t ∷ n ∷ rest) h k = absurd (omega arith)

  pub short : 2 ≤ length s → length (drop 2 s) < get_or s 1 0 → Some (Err (record {})) ≡ field_in s
  unfolding field_in
  short h k = go s h k
    where
      go : (s : List ℕ) → 2 ≤ length s → length (drop 2 s) < get_or s 1 0 → Some (Err (record {})) ≡ field_in s
      go [] h k = absurd (omega arith)
      go (t ∷ []) h k = absurd (omega arith)
      go (t ∷ n ∷ rest) h k = rw (lt-ltb (length rest) n k)

  pub whole : 2 ≤ length s → get_or s 1 0 ≤ length (drop 2 s) → Some (Ok (field (get_or s 0 0) (take (get_or s 1 0) (drop 2 s)))) ≡ field_in s
  unfolding field_in
  whole h k = go s h k
    where
      go : (s : List ℕ) → 2 ≤ length s → get_or s 1 0 ≤ length (drop 2 s) →
          Some (Ok (field (get_or s 0 0) (take (get_or s 1 0) (drop 2 s)))) ≡ field_in s
      go [] h k = absurd (omega arith)
      go (t ∷ []) h k = absurd (omega arith)
      go (t ∷ n ∷ rest) h k = rw (le-ltb (length rest) n k)

-- what stands there, and the place behind it
pub step : (at : ℕ) (m : List ℕ) (n : Option (Result Field Malformed)) → n ≡ field_at at m → (n ≡ field_at at m) × (end_of n at ≡ place_after at m)
unfolding place_after
step at m n e = (e, ap (λ x. end_of x at) e)

-- what stands in front of bytes: a field and the bytes behind it, nothing, or bytes that are no field
abbrev Standing : List ℕ → Option (Result Field Malformed) → Type 0
Standing s None = length s ≤ 0
Standing s (Some (Ok f)) = s ≡ f.tag ∷ length f.value ∷ f.value ++ drop (length f.value) (drop 2 s)
Standing s (Some (Err e)) = 0 < length s

standing : (s : List ℕ) → Standing s (field_in s)
unfolding field_in field
standing [] = omega arith
standing (t ∷ []) = omega arith
standing (t ∷ n ∷ rest) = go (ltb (length rest) n) refl
  where
    go : (b : Bool) → ltb (length rest) n ≡ b →
        Standing (t ∷ n ∷ rest) (if◌then◌else◌ {A = Option (Result Field Malformed)} b (Some (Err (record {}))) (Some (Ok (field t (take n rest)))))
    go true e = omega arith
    go false e = let v : length (take n rest) ≡ n = length-take n rest ∙ omega (arith, ltb-false) in rw (v, take-append-drop n rest)

-- where the bytes of fields begin, the first of them stands
pub stands : (k : ℕ) (m : List ℕ) (f : Field) (fs : List Field) → drop k m ≡ fields_bytes (f ∷ fs) → field_at k m ≡ Some (Ok f)
unfolding fields_bytes field_at field_in field
stands k m f fs b = rw (b, le-ltb (length (f.value ++ fields_bytes fs)) (length f.value) (simp length-append (omega arith)), take-append_seam f.value (fields_bytes fs))

module _ (at : ℕ) (m : List ℕ) where
  its : (n : Option (Result Field Malformed)) → field_at at m ≡ n → Standing (drop at m) n
  unfolding field_at
  its n h = rw (sym h) (standing (drop at m))

  module _ (f : Field) (stood : field_at at m ≡ Some (Ok f)) where
    -- the field's bytes, and those behind it
    pub bytes : drop at m ≡ f.tag ∷ length f.value ∷ f.value ++ drop (at + 2 + length f.value) m
    bytes = rw (← drop-drop (length f.value) (at + 2) m, ← drop-drop 2 at m) (its (Some (Ok f)) stood)

    inside : at + 2 + length f.value ≤ length m
    inside = omega (arith, length-drop at m, length-drop (at + 2 + length f.value) m, simp length-append at (ap length bytes))

    -- the reader goes on behind the field
    pub passed : place_after at m ≡ at + 2 + length f.value
    unfolding place_after
    passed = ap (λ x. end_of x at) stood

  pub past : field_at at m ≡ None → length m ≤ at
  past h = omega (arith, length-drop at m, its None h)

  pub before : (e : Malformed) → field_at at m ≡ Some (Err e) → at < length m
  before e h = omega (arith, length-drop at m, its (Some (Err e)) h)

  -- what a reader gave
  module _ (r : Option (Result code.Field Malformed)) (is : seen r ≡ field_at at m) where
    pub ended : r ≡ None → field_at at m ≡ None
    ended h = sym is ∙ ap seen h

    module _ (n : Result code.Field Malformed) (some : r ≡ Some n) where
      pub broke : (e : Malformed) → n ≡ Err e → field_at at m ≡ Some (Err e)
      broke e err = sym is ∙ ap seen (some ∙ ap Some err)

      pub gave : (f : code.Field) → n ≡ Ok f → field_at at m ≡ Some (Ok (told f))
      gave f ok = sym is ∙ ap seen (some ∙ ap Some ok)

      pub less_left : (f : code.Field) → n ≡ Ok f → (p : ℕ) → p ≡ place_after at m → length m - p < length m - at
      less_left f ok p q = omega (arith, inside (told f) (gave f ok), passed (told f) (gave f ok))
