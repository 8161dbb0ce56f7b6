-- Laws of responses: put at the front, and written piece by piece.
use Prim.Native.Nat.{ℕ, ◌+◌, ◌≤◌}
use mathlib.Core.Path.{◌≡◌, refl, ap, ◌∙◌}
use mathlib.Core.List.{List, [], ◌∷◌, ◌++◌, append_assoc}
use lib.ListN.{length}
use native.Mathlib.Omega.{arith}
use native.Mathlib.Nat.{zero-add}
use Rattle.rules.specs.Basic.{big_endian}
use Rattle.rules.specs.Response.{put_in_front, done_response}
use Rattle.primitives.specs.Bytes.{over}
use Rattle.primitives.proofs.Over.{over_over}
use Rattle.response.specs.Begun.{begun}

pub front_by : (r y xs : List ℕ) → r ≡ over 0 y xs → r ≡ put_in_front y xs
unfolding over put_in_front
front_by r y xs e = rw zero-add at e

module _ (n : ℕ) (xs q : List ℕ) where
  pub begun_head : q ≡ over 0 (0x00 ∷ 0x00 ∷ big_endian n) xs → q ≡ begun n [] xs
  unfolding begun
  begun_head e = e

  pub begun_more : (x y r : List ℕ) (at : ℕ) → q ≡ begun n x xs → r ≡ over at y q → 4 + length x ≡ at → at + length y ≤ length xs → r ≡ begun n (x ++ y) xs
  unfolding begun
  begun_more x y r at e f p h =
      let front : List ℕ = 0x00 ∷ 0x00 ∷ big_endian n in
      let k : 0 + length (front ++ x) ≡ at = omega arith in
      f ∙ ap (over at y) e ∙ over_over 0 at (front ++ x) y xs k h ∙ ap (λ z. over 0 z xs) (append_assoc front x y)

  pub begun_done : (x : List ℕ) → n ≡ length x → q ≡ begun n x xs → q ≡ put_in_front (done_response x) xs
  unfolding begun done_response
  begun_done x l e = front_by q ((0x00 ∷ 0x00 ∷ big_endian (length x)) ++ x) xs (rw l at e)

-- with bytes right behind the head
pub head_then : (n : ℕ) (xs q r x : List ℕ) → q ≡ over 0 (0x00 ∷ 0x00 ∷ big_endian n) xs → r ≡ over 4 x q → n ≡ length x → 4 + length x ≤ length xs →
    r ≡ put_in_front (done_response x) xs
head_then n xs q r x e f l h = begun_done n xs r x l (begun_more n xs q [] x r 4 (begun_head n xs q e) f refl h)
