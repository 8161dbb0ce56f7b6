-- What the writer writes is read back by a stream between frames.
use Prim.Native.Nat.{ℕ, ◌+◌, ◌-◌, ◌*◌, ◌/◌, ◌%◌, ◌≤◌, ◌<◌}
use mathlib.Core.Path.{◌≡◌, refl, ap, ap₂, sym, ◌∙◌}
use mathlib.Core.Bool.{true}
use mathlib.Core.List.{List, [], ◌∷◌, ◌++◌, append_assoc}
use mathlib.Core.Logic.{inl, inr}
use native.Mathlib.Omega.{arith}
use native.Mathlib.Nat.{add-zero}
use borrow.Author.Tests.{eq-eqb, le-ltb}
use lib.ListN.{length, take, drop, get_or, length-append}
use lib.Seq.{take_at, get_or-append-add}
use Rattle.std.specs.Prelude.{Some}
use Rattle.rules.specs.Basic.{little_endian, little_endian_at}
use Rattle.frames.specs.declared.Kind.{Kind}
use Rattle.frames.specs.declared.Kind.TheVariants.{Command, Response}
use Rattle.frames.specs.declared.Step.TheVariants.{Whole, NotYet}
use Rattle.remainder.specs.Remainder.{remainder}
use Rattle.frames.specs.Frames.{around, longest, longest_body, in_frame, in_body, kind_number, kind_numbered, unchecked, frame_bytes, body_at}
use Rattle.frames.specs.Frames.{by_kind, judged_by_head, check_right, checked, judged, Writing, writing, written_number, HostWrites}
use Rattle.dock.specs.Streams.{Frame, Ran, State, collecting, between, shown, run, after, next, out, received}
use Rattle.dock.specs.Hosts.{Holding, held_state, Calls}
use Rattle.dock.proofs.Cutting.{before, run_append}
use Rattle.frames.proofs.Judgments.{by_ltb, low_or_high, number_front, length_to_come, kind_to_come, end_to_come}
use Rattle.dock.proofs.Received.{calls_as_rules}
use Rattle.frames.proofs.Writing.{frame_length}

low_whole : (n : ℕ) → n % 256 + 256 * (n / 256) ≡ n
low_whole n = omega arith

kind_back : (k : Kind) → kind_numbered (kind_number k) ≡ Some k
unfolding kind_numbered
kind_back Command = refl
kind_back Response = refl

low_behind : (u : List ℕ) (r : ℕ) → little_endian_at (length u) (u ++ little_endian r) ≡ r
unfolding little_endian_at
low_behind u r =
    let first : get_or (u ++ little_endian r) (length u) 0 ≡ r % 256 = ap (λ i. get_or (u ++ little_endian r) i 0) (sym (add-zero (length u))) ∙ get_or-append-add u (little_endian r) 0 0 in
    let second : get_or (u ++ little_endian r) (length u + 1) 0 ≡ r / 256 = get_or-append-add u (little_endian r) 1 0 in
    rw (first, second) (low_whole r)

-- a frame's length, kind, check and body
module _ (k : Kind) (body : List ℕ) where
  length_there : little_endian_at 0 (frame_bytes k body) ≡ length body + around
  unfolding little_endian_at frame_bytes unchecked
  length_there = low_whole (length body + around)

  kind_there : little_endian_at 2 (frame_bytes k body) ≡ kind_number k
  unfolding little_endian_at frame_bytes unchecked
  kind_there = low_whole (kind_number k)

  check_there : check_right (frame_bytes k body) ≡ true
  unfolding check_right frame_bytes
  check_there =
      let u = unchecked k body in
      let r = remainder u in
      let n : length (u ++ little_endian r) - 2 ≡ length u = omega (arith, length-append u (little_endian r)) in
      let front : take (length u) (u ++ little_endian r) ≡ u = take_at u (little_endian r) (length u) refl in
      rw (n, front, low_behind u r) (eq-eqb r r refl)

  body_there : body_at (length body) (frame_bytes k body) ≡ body
  unfolding frame_bytes unchecked body_at
  body_there = take_at body (little_endian (remainder (unchecked k body))) (length body) refl

  kind_frame : by_kind (Some k) (frame_bytes k body) ≡ Whole k (in_body (length body))
  unfolding by_kind
  kind_frame =
      let n : length body + around - around ≡ length body = omega arith in
      rw (frame_length k body, length_there, le-ltb (length body + around) (length body + around) (omega arith), n)

  module _ (fits : length body ≤ longest_body) where
    head_frame : judged_by_head (frame_bytes k body) ≡ Whole k (in_body (length body))
    unfolding judged_by_head
    head_frame =
        let n = length body + around in
        rw (frame_length k body, length_there, kind_there, kind_back k, le-ltb n 2 (omega arith), le-ltb n around (omega arith), le-ltb longest n (omega arith), le-ltb n n (omega arith), le-ltb n 4 (omega arith))
        kind_frame

    judged_frame : judged (frame_bytes k body) ≡ Whole k (in_body (length body))
    unfolding judged checked
    judged_frame = rw (head_frame, check_there)

    -- fewer bytes of it are not yet complete
    judged_front : (p q : List ℕ) → p ++ q ≡ frame_bytes k body → 0 < length q → judged p ≡ NotYet (in_frame (length p))
    judged_front p q e h =
        let short : length p < length body + around = omega (arith, length-append p q, ap length e, frame_length k body) in
        let there : (2 ≤ length p → little_endian_at 0 p ≡ length body + around) =
        λ l. number_front 0 p q (omega arith) ∙ ap (little_endian_at 0) e ∙ length_there in
        elim (low_or_high (length p) 2) [
          | inl s ↦ length_to_come p s
          | inr l ↦ elim (low_or_high (length p) 4) [
            | inl s ↦ kind_to_come p (length body + around) (there l) (omega arith) (omega arith) l s
            | inr m ↦
                end_to_come p (length body + around) (there l) (omega arith) (omega arith) k m
                (ap kind_numbered (number_front 2 p q (omega arith) ∙ ap (little_endian_at 2) e ∙ kind_there) ∙ kind_back k) short
          ]
        ]

    -- with p taken, the rest of the frame comes
    read_from : (q p : List ℕ) (b : ℕ) → p ++ (b ∷ q) ≡ frame_bytes k body
        → received (collecting p) (b ∷ q) ≡ record { frames = record { kind = k; body = body } ∷ []; state = between }
    unfolding received run next out shown after
    read_from [] p b e =
        rw (e, judged_frame) (ap (λ (x : List ℕ). record { frames = record { kind = k; body = x } ∷ []; state = between }) body_there)
    read_from (c ∷ q) p b e =
        let e' : (p ++ (b ∷ [])) ++ (c ∷ q) ≡ frame_bytes k body = append_assoc p (b ∷ []) (c ∷ q) ∙ e in
        rw (judged_front (p ++ (b ∷ [])) (c ∷ q) e' (omega arith)) (read_from q (p ++ (b ∷ [])) c e')

    -- A frame of any kind and body, however it comes, is read back whole by a stream between frames
    pub frame_read : received between (frame_bytes k body) ≡ record { frames = record { kind = k; body = body } ∷ []; state = between }
    unfolding frame_bytes unchecked
    frame_read = read_from _ [] _ refl

-- Whatever bytes follow a frame, it comes out before what they bring
pub frame_then : (k : Kind) (body rest : List ℕ) → length body ≤ longest_body
    → received between (frame_bytes k body ++ rest) ≡ before (record { kind = k; body = body } ∷ []) (received between rest)
unfolding received
frame_then k body rest fits =
    run_append next out between (frame_bytes k body) rest
    ∙ ap (λ (r : Ran State). before r.frames (run next out r.state rest)) (frame_read k body fits)

-- what the writer writes -----------------------------------------------------------------------------------------------------

record WroteFrame (k : Kind) (body after : List ℕ) : Type 0 where
  pub fits : length body ≤ longest_body
  pub front : take (length body + around) after ≡ frame_bytes k body

wrote_frame : (k : Kind) (body room after : List ℕ) → HostWrites k body room 0 after → WroteFrame k body after
unfolding writing written_number
wrote_frame k body room after w =
    let P = λ (a : Writing). 0 ≡ written_number a.answer → after ≡ a.room → WroteFrame k body after in
    by_ltb P longest_body (length body) (λ long e h. let z : ◌≡◌ {A = ℕ} 0 1 = e in absurd (omega arith)) (λ fits.
    by_ltb P (length room) (length body + around) (λ short e h. let z : ◌≡◌ {A = ℕ} 0 2 = e in absurd (omega arith)) (λ there e h.
    record {
      fits = fits;
      front = ap (take (length body + around)) h ∙ take_at (frame_bytes k body) (drop (length body + around) room) (length body + around) (frame_length k body);
    })) w.told w.left

-- What `dock_write_command` or `dock_write_response` wrote, fed in any pieces to a stream between frames, is read back: one frame
-- of that kind and body, and the stream is between frames again
pub written_read : (k : Kind) (body room after : List ℕ) → HostWrites k body room 0 after
    → {h end : Holding} {fs : List Frame} → length h.buffer ≡ longest → held_state h ≡ between
    → Calls h (take (length body + around) after) fs end → (fs ≡ record { kind = k; body = body } ∷ []) × (held_state end ≡ between)
written_read k body room after e {h} l s c =
    let w = wrote_frame k body room after e in
    let r = calls_as_rules l c in
    let back : received (held_state h) (take (length body + around) after) ≡ record { frames = record { kind = k; body = body } ∷ []; state = between } =
    ap₂ received s w.front ∙ frame_read k body w.fits in
    (r.frames ∙ ap (λ (x : Ran State). x.frames) back, r.state ∙ ap (λ (x : Ran State). x.state) back)
