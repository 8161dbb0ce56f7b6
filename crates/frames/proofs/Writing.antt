-- Frames written part by part.
use Prim.Native.Nat.{ℕ, ◌+◌, ◌-◌, ◌≤◌}
use mathlib.Core.Path.{◌≡◌, ap, ◌∙◌}
use mathlib.Core.List.{List, ◌++◌}
use native.Mathlib.Omega.{arith}
use borrow.Author.Tests.{le-ltb}
use lib.ListN.{length, take, drop, length-append}
use lib.Seq.{take_at}
use Rattle.rules.specs.Basic.{little_endian}
use Rattle.primitives.specs.Bytes.{over}
use Rattle.primitives.proofs.Over.{over_over}
use Rattle.frames.specs.declared.Kind.{Kind}
use Rattle.std.specs.Prelude.{Ok}
use Rattle.remainder.specs.Remainder.{remainder}
use Rattle.frames.specs.Frames.{around, longest_body, in_frame, unchecked, frame_bytes, written, writing}

pub unchecked_length : (k : Kind) (body : List ℕ) → length (unchecked k body) ≡ length body + 4
unfolding unchecked
unchecked_length k body = omega arith

pub frame_length : (k : Kind) (body : List ℕ) → length (frame_bytes k body) ≡ length body + around
unfolding frame_bytes
frame_length k body = simp length-append (omega (arith, unchecked_length k body))

front_over : (y xs : List ℕ) (n : ℕ) → length y ≡ n → over 0 y xs ≡ y ++ drop n xs
unfolding over
front_over y xs n e = let z : 0 + length y ≡ n = omega arith in ap (λ m. y ++ drop m xs) z

-- `write_frame`: the check of what stands before it
pub frame_written : (k : Kind) (body room q r : List ℕ) → q ≡ over 0 (unchecked k body) room
    → r ≡ over (length body + 4) (little_endian (remainder (take (length body + 4 - 0) q))) q
    → length body ≤ longest_body → length body + around ≤ length room
    → written (Ok (in_frame (length body + around))) r ≡ writing k body room
unfolding writing frame_bytes
frame_written k body room q r e f h l =
    let u = unchecked k body in
    let lu = unchecked_length k body in
    let front : take (length body + 4) q ≡ u = ap (take (length body + 4)) (e ∙ front_over u room (length body + 4) lu) ∙ take_at u (drop (length body + 4) room) (length body + 4) lu in
    let c = little_endian (remainder u) in
    let all : length body + 4 - 0 ≡ length body + 4 = omega arith in
    let placed : r ≡ over 0 (u ++ c) room =
    f ∙ ap (λ i. over (length body + 4) (little_endian (remainder (take i q))) q) all ∙ ap (λ x. over (length body + 4) (little_endian (remainder x)) q) front ∙ ap (over (length body + 4) c) e
    ∙ over_over 0 (length body + 4) u c room (omega arith) (omega arith) in
    rw (le-ltb longest_body (length body) h, le-ltb (length room) (length body + around) l)
    (ap (written (Ok (in_frame (length body + around)))) (placed ∙ front_over (u ++ c) room (length body + around) (simp length-append (omega arith))))
