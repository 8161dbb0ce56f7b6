-- A stream as a host holds it follows the rules: the same frames, and the state of the rules.
use Prim.Native.Nat.{ℕ, zero, suc, ◌+◌, ◌≤◌}
use mathlib.Core.Path.{◌≡◌, refl, ap, ap₂, sym, subst, ◌∙◌}
use mathlib.Core.List.{List, [], ◌∷◌, ◌++◌}
use mathlib.Core.Logic.{inl, inr}
use native.Mathlib.Omega.{arith}
use borrow.Author.Tests.{lt-ltb, le-ltb}
use lib.ListN.{length, take, drop, set, length-set, length-append, length-take}
use lib.Seq.{take_all, take-take}
use Rattle.frames.specs.declared.Fault.TheVariants.{BadLength}
use Rattle.dock.specs.declared.Stream.{Stream}
use Rattle.dock.specs.declared.Stream.TheVariants.{Collecting, Stopped as Stays}
use Rattle.frames.specs.declared.Step.{Step}
use Rattle.frames.specs.declared.Step.TheVariants.{Whole, NotYet, Stopped}
use Rattle.frames.specs.Frames.{around, longest, in_frame, body_at, judged}
use Rattle.dock.specs.Streams.{Frame, Ran, State, collecting, between, shown, run, after, next, out, received}
use Rattle.dock.specs.Held.{state_of, step_of, stream_after, buffer_after}
use Rattle.dock.specs.Host.{stream_of, host_of}
use Rattle.dock.specs.Hosts.{Holding, holding, held_state, Calls, AsRules, HoweverCut}
use Rattle.dock.proofs.Stepping.{front_more}
use Rattle.frames.proofs.Judgments.{low_or_high, Tells, judged_tells, judged_long}
use Rattle.dock.proofs.Cutting.{Held, held, next_held, out_held, held_run, inner, calls_run}

-- one byte --------------------------------------------------------------------------------------------------------------------

-- a part that ends before m is a part of the first m
part_of_front : (a n m : ℕ) (xs : List ℕ) → a + n ≤ m → take n (drop a xs) ≡ take n (drop a (take m xs))
part_of_front zero n m xs h = sym (take-take n m xs (omega arith))
part_of_front (suc a) n zero xs h = absurd (omega arith)
part_of_front (suc a) n (suc m) [] h = refl
part_of_front (suc a) n (suc m) (x ∷ xs) h = part_of_front a n m xs (omega arith)

body_of_front : (n m : ℕ) (xs : List ℕ) → n + around ≡ m → body_at n xs ≡ body_at n (take m xs)
unfolding body_at
body_of_front n m xs h = part_of_front 4 n m xs (omega arith)

-- the stream and the frames after a step, where xs begins with the bytes judged
module _ (xs bs : List ℕ) (m : ℕ) (front : take m xs ≡ bs) where
  state_kept : (s : Step) → Tells m s → state_of (stream_after s) xs ≡ after s bs
  unfolding state_of after
  state_kept (Whole k n) h = refl
  state_kept (NotYet n) h = ap collecting (ap (λ i. take i xs) h ∙ front)
  state_kept (Stopped f) h = refl

  frames_kept : (s : Step) → Tells m s → shown s xs ≡ shown s bs
  unfolding shown
  frames_kept (Whole k n) h =
      let e : body_at n.0 xs ≡ body_at n.0 bs = body_of_front n.0 m xs h ∙ ap (body_at n.0) front in
      ap (λ (b : List ℕ). record { kind = k; body = b } ∷ []) e
  frames_kept (NotYet n) h = refl
  frames_kept (Stopped f) h = refl

-- a byte taken by a stream so held, and by the rules
record Follows (h : Held) (b : ℕ) : Type 0 where
  pub state : state_of (next_held h b).stream (next_held h b).buffer ≡ next (state_of h.stream h.buffer) b
  pub frames : out_held h b ≡ out (state_of h.stream h.buffer) b
  pub size : length (next_held h b).buffer ≡ longest

follows : (s : Stream) (buffer : List ℕ) (b : ℕ) → length buffer ≡ longest → Follows (held s buffer) b
unfolding state_of step_of buffer_after next out shown after
follows (Stays f) buffer b l = record { state = refl; frames = refl; size = l }
follows (Collecting n) buffer b l =
    let bs = take n.0 buffer ++ (b ∷ []) in
    elim (low_or_high n.0 longest) [
      | inl h ↦
          let front : take (n.0 + 1) (set buffer n.0 b) ≡ bs = front_more buffer n.0 b (omega arith) in
          let size : length bs ≡ n.0 + 1 = simp (length-append, length-take) (omega arith) in
          let told : Tells (n.0 + 1) (judged bs) = rw size at (judged_tells bs) in
          let e = lt-ltb n.0 longest h in
          record {
            state = rw e (state_kept (set buffer n.0 b) bs (n.0 + 1) front (judged bs) told);
            frames = rw e (frames_kept (set buffer n.0 b) bs (n.0 + 1) front (judged bs) told);
            size = rw e (length-set buffer n.0 b ∙ l);
          }
      | inr h ↦
          let whole : take n.0 buffer ≡ buffer = take_all n.0 buffer (omega arith) in
          let past : judged bs ≡ Stopped BadLength = judged_long bs (rw whole (simp length-append (omega arith))) in
          let e = le-ltb n.0 longest h in
          record { state = rw (e, past); frames = rw (e, past); size = rw e l }
    ]

-- all bytes -------------------------------------------------------------------------------------------------------------------

record HeldAsRules (h : Held) (bytes : List ℕ) (fs : List Frame) (end : Held) : Type 0 where
  pub frames : fs ≡ (received (state_of h.stream h.buffer) bytes).frames
  pub state : state_of end.stream end.buffer ≡ (received (state_of h.stream h.buffer) bytes).state
  pub size : length end.buffer ≡ longest

held_as_rules : (h : Held) (bytes : List ℕ) → length h.buffer ≡ longest → HeldAsRules h bytes (held_run h bytes).frames (held_run h bytes).state
unfolding held_run received run
held_as_rules h [] l = record { frames = refl; state = refl; size = l }
held_as_rules h (b ∷ bs) l =
    let f = follows h.stream h.buffer b l in
    let r = held_as_rules (next_held h b) bs f.size in
    record {
      frames = ap₂ (λ (x y : List Frame). x ++ y) f.frames (r.frames ∙ ap (λ (s : State). (run next out s bs).frames) f.state);
      state = r.state ∙ ap (λ (s : State). (run next out s bs).state) f.state;
      size = r.size;
    }

-- Whatever pieces the bytes come in, the frames and the state are those of the rules, from any value of the stream
pub calls_as_rules : {h : Holding} {bytes : List ℕ} {fs : List Frame} {end : Holding} → length h.buffer ≡ longest → Calls h bytes fs end → AsRules h bytes fs end
calls_as_rules {h} {bytes} l c =
    let r = subst (λ (r : Ran Held). HeldAsRules (inner h) bytes r.frames r.state) (calls_run c) (held_as_rules (inner h) bytes l) in
    record { frames = r.frames; state = r.state; size = r.size }

-- what `dock_start` gives is between frames, whatever the lent bytes are
pub started : (buffer : List ℕ) → held_state (holding (host_of (Collecting (in_frame 0))) buffer) ≡ between
unfolding state_of stream_of host_of
started buffer = refl

-- Two ways to cut the same bytes, from the same state
pub however_cut : {h i : Holding} {bytes : List ℕ} {fs gs : List Frame} {end last : Holding} → length h.buffer ≡ longest → length i.buffer ≡ longest
    → held_state h ≡ held_state i → Calls h bytes fs end → Calls i bytes gs last → HoweverCut h i bytes fs gs end last
however_cut {bytes = bytes} l m s a b =
    let p = calls_as_rules l a in
    let q = calls_as_rules m b in
    record {
      frames = p.frames ∙ ap (λ (t : State). (received t bytes).frames) s ∙ sym q.frames;
      state = p.state ∙ ap (λ (t : State). (received t bytes).state) s ∙ sym q.state;
      first_by_rules = p;
      second_by_rules = q;
    }
