-- Bytes put at an offset, byte by byte: the bytes sent stand at the offset, all others stay, a gap reads as zero, and used becomes the
-- larger of used and offset + length. How many bytes a read shows, and which.
use Prim.Native.Nat.{ℕ, zero, suc, ◌+◌, ◌-◌, ◌<◌, max, min}
use mathlib.Core.Bool.{◌&&◌}
use mathlib.Core.List.{List, [], ◌∷◌, ◌++◌, append_assoc}
use mathlib.Core.Path.{◌≡◌, refl, sym, ap, ◌∙◌}
use native.Mathlib.Nat.{sub-zero, zero-sub, suc-sub-suc}
use native.Mathlib.Omega.{arith}
use borrow.Author.Tests.{ne_eqb, le-leb}
use lib.Dec.{eqb, leb}
use lib.ListN.{length, get_or, take, drop, length-append, length-take, length-drop, length-replicate, get_or-append}
use lib.Seq.{get_or-append-add, get_or-take, get_or-drop, take-nil, drop-nil, slice, length-slice}
use Rattle.std.specs.Prelude.{if◌then◌else◌}
use Rattle.rules.specs.Basic.{zeros}
use Rattle.rules.specs.Command.{offset, asked_length}
use Rattle.rules.specs.Operation.{shown, put_at}

zeros_zero : (n i : ℕ) → get_or (zeros n) i 0 ≡ 0
zeros_zero zero i = refl
zeros_zero (suc n) zero = refl
zeros_zero (suc n) (suc i) = zeros_zero n i

-- past its end a list reads as zero
padded_zero : (b : List ℕ) (n i : ℕ) → get_or (b ++ zeros n) i 0 ≡ get_or b i 0
padded_zero [] n i = zeros_zero n i
padded_zero (x ∷ b) n zero = refl
padded_zero (x ∷ b) n (suc i) = padded_zero b n i

module _ (k : ℕ) (b old : List ℕ) where
  pub put_used : length (put_at k b old) ≡ max (length old) (k + length b)
  unfolding put_at
  put_used = simp (length-append, length-take, length-drop, length-replicate) (omega arith)

  front : List ℕ
  front = take k (old ++ zeros (k - length old))

  front_length : length front ≡ k
  unfolding front
  front_length = simp (length-take, length-append, length-replicate) (omega arith)

  parts : put_at k b old ≡ front ++ (b ++ drop (k + length b) old)
  unfolding put_at front
  parts = append_assoc front b (drop (k + length b) old)

  -- behind the front, the bytes and what was past them
  behind : (i : ℕ) → get_or (put_at k b old) (k + i) 0 ≡ get_or (b ++ drop (k + length b) old) i 0
  behind i = (λ j. get_or (parts j) (sym front_length j + i) 0) ∙ get_or-append-add front (b ++ drop (k + length b) old) i 0

  pub put_there : (i : ℕ) → i < length b → get_or (put_at k b old) (k + i) 0 ≡ get_or b i 0
  put_there i h = behind i ∙ get_or-append b (drop (k + length b) old) 0 i h

  pub put_before : (i : ℕ) → i < k → get_or (put_at k b old) i 0 ≡ get_or old i 0
  unfolding front
  put_before i h =
      ap (λ x. get_or x i 0) parts ∙ get_or-append front (b ++ drop (k + length b) old) 0 i (omega (arith, front_length)) ∙
      get_or-take k (old ++ zeros (k - length old)) i 0 h ∙ padded_zero old (k - length old) i

  pub put_after : (i : ℕ) → get_or (put_at k b old) (k + (length b + i)) 0 ≡ get_or old (k + length b + i) 0
  put_after i = behind (length b + i) ∙ get_or-append-add b (drop (k + length b) old) i 0 ∙ get_or-drop (k + length b) old i 0

-- what a read shows -------------------------------------------------------------------------------------------------------

-- a part in the middle, by where it begins and how long it is
slice_part : (k end : ℕ) (b : List ℕ) → take (end - k) (drop k b) ≡ slice k end b
slice_part zero end b = rw sub-zero
slice_part (suc k) zero b = rw zero-sub
slice_part (suc k) (suc end) [] = take-nil (suc end - suc k)
slice_part (suc k) (suc end) (x ∷ b) = rw suc-sub-suc (slice_part k end b)

module _ (c content : List ℕ) where
  -- as many bytes as there are from offset to the smaller of used and offset + length
  pub shown_length : length (shown c content) ≡ min (length content) (offset c + asked_length c) - offset c
  unfolding shown
  shown_length = length-slice (offset c) _ content (omega arith)

  -- each is the stored one at its place
  pub shown_there : (i : ℕ) → i < length (shown c content) → get_or (shown c content) i 0 ≡ get_or content (offset c + i) 0
  unfolding shown
  shown_there i h =
      let within : offset c + i < min (length content) (offset c + asked_length c) = omega (arith, h, shown_length) in
      get_or-drop (offset c) _ i 0 ∙ get_or-take _ content (offset c + i) 0 within

  pub shown_part : take (min (length content) (offset c + asked_length c) - offset c) (drop (offset c) content) ≡ shown c content
  unfolding shown
  shown_part = slice_part (offset c) _ content

-- of one byte: that byte, at offset 0 with a length of 1 or more; else nothing
pub shown_byte : (c : List ℕ) (byte : ℕ) → shown c (byte ∷ []) ≡ (if eqb (offset c) 0 && leb 1 (asked_length c) then byte ∷ [] else [])
unfolding shown
shown_byte c byte = by (offset c) (asked_length c)
  where
    by : (k n : ℕ) → slice k (min 1 (k + n)) (byte ∷ []) ≡ (if eqb k 0 && leb 1 n then byte ∷ [] else [])
    by zero zero = refl
    by zero (suc n) = let whole : min 1 (0 + suc n) ≡ 1 = omega arith in rw (whole, le-leb 1 (suc n) (omega arith))
    by (suc k) n = let whole : min 1 (suc k + n) ≡ 1 = omega arith in rw (whole, ne_eqb (suc k) 0 (λ e. omega arith)) (drop-nil k)
