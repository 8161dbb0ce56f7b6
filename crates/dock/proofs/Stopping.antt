-- When a stream stops: each fault is told as soon as its bytes are there. A stopped stream: its fault is all that is left of it.
use Prim.Native.Nat.{ℕ, ◌+◌, ◌≤◌, ◌<◌}
use mathlib.Core.Path.{◌≡◌, refl, ap, sym, subst, ◌∙◌}
use mathlib.Core.List.{List, [], ◌∷◌, ◌++◌}
use mathlib.Core.Logic.{inl, inr}
use native.Mathlib.Omega.{arith}
use lib.ListN.{length, length-append}
use Rattle.rules.specs.Basic.{little_endian_at}
use Rattle.frames.specs.declared.Fault.{Fault}
use Rattle.frames.specs.declared.Fault.TheVariants.{BadLength, UnknownKind, BadCheck}
use Rattle.dock.specs.declared.Stream.{Stream}
use Rattle.dock.specs.declared.Stream.TheVariants.{Collecting, Stopped as Stays}
use Rattle.dock.specs.declared.HostStream.{HostStream}
use Rattle.frames.specs.declared.Step.{Step}
use Rattle.frames.specs.declared.Step.TheVariants.{Whole, NotYet, Stopped}
use Rattle.frames.specs.Frames.{in_frame, fault_number, kind_numbered, judged}
use Rattle.dock.specs.Streams.{State, collecting, stopped, run, after, next, out, received, Reached, Told}
use Rattle.frames.proofs.Judgments.{Judgment, no_length, too_short, too_long, passed, no_kind, unknown, no_end, whole, bad_check}
use Rattle.frames.proofs.Judgments.{judgment, Tells, judged_tells, number_front, Going, going, length_stops, kind_stops, check_stops}
use Rattle.dock.specs.Held.{feeding}
use Rattle.dock.specs.Host.{stream_of, host_of, host_told, host_fed, host_left, host_feeding}
use Rattle.dock.proofs.Feeding.{stopped_from}
use Rattle.dock.proofs.Telling.{told_stream}

reached_going : (bs : List ℕ) → Reached (collecting bs) → Going bs
reached_going bs (inl e) =
    let n : length bs ≡ 0 = ap length e in
    record { length_good = λ l. absurd (omega arith); kind_known = λ l. absurd (omega arith) }
reached_going bs (inr e) = going bs _ e

-- a step that stops is told in time
abbrev InTime : List ℕ → Step → Type 0
InTime bs (Whole k n) = Unit
InTime bs (NotYet n) = Unit
InTime bs (Stopped f) = Told f bs

module _ (bs : List ℕ) (b : ℕ) (g : Going bs) where
  more : length (bs ++ (b ∷ [])) ≡ length bs + 1
  more = length-append bs (b ∷ [])

  in_time : {s : Step} → Judgment (bs ++ (b ∷ [])) s → InTime (bs ++ (b ∷ [])) s
  in_time (no_length h) = tt
  in_time (too_short h l) = record { now = grind (arith, more, g.length_good, number_front 0 bs (b ∷ [])); why = inl l }
  in_time (too_long h l) = record { now = grind (arith, more, g.length_good, number_front 0 bs (b ∷ [])); why = inr l }
  in_time (passed h l n) = absurd (grind (arith, more, g.length_good, number_front 0 bs (b ∷ [])))
  in_time (no_kind q h) = tt
  in_time (unknown q l e) = record { now = grind (arith, more, g.kind_known, number_front 2 bs (b ∷ []), e); why = e }
  in_time (no_end q l e n) = tt
  in_time (whole q l e n c) = tt
  in_time (bad_check q l e n c) = record { now = n; why = c }

-- A stream that collects stops with a fault at the byte where it can first be told, and only where the frame has it
pub stops_in_time : (bs : List ℕ) (b : ℕ) (f : Fault) → Reached (collecting bs) → judged (bs ++ (b ∷ [])) ≡ Stopped f → Told f (bs ++ (b ∷ []))
stops_in_time bs b f r e = subst (InTime (bs ++ (b ∷ []))) e (in_time bs b (reached_going bs r) (judgment (bs ++ (b ∷ []))))

-- And each fault stops it, as soon as it can be told: a length
pub length_fault_stops : (bs : List ℕ) → Told BadLength bs → judged bs ≡ Stopped BadLength
length_fault_stops bs t = length_stops bs (omega (arith, t.now)) t.why

-- a kind, behind a length that passed; a check, behind a head that passed
module _ (bs : List ℕ) (b : ℕ) (r : Reached (collecting bs)) where
  size : length (bs ++ (b ∷ [])) ≡ length bs + 1
  size = length-append bs (b ∷ [])

  pub kind_fault_stops : Told UnknownKind (bs ++ (b ∷ [])) → judged (bs ++ (b ∷ [])) ≡ Stopped UnknownKind
  kind_fault_stops t =
      let l : 2 ≤ length bs = omega (arith, size, t.now) in
      let g = (reached_going bs r).length_good l in
      kind_stops (bs ++ (b ∷ [])) (little_endian_at 0 bs) (sym (number_front 0 bs (b ∷ []) l)) g.0 g.1
      (omega (arith, t.now)) (omega (arith, t.now, g.0)) t.why

  pub check_fault_stops : 4 ≤ length bs → Told BadCheck (bs ++ (b ∷ [])) → judged (bs ++ (b ∷ [])) ≡ Stopped BadCheck
  check_fault_stops l t =
      let two : 2 ≤ length bs = omega arith in
      let g = (reached_going bs r).length_good two in
      let k = (reached_going bs r).kind_known l in
      let a : little_endian_at 0 (bs ++ (b ∷ [])) ≡ little_endian_at 0 bs = sym (number_front 0 bs (b ∷ []) two) in
      check_stops (bs ++ (b ∷ [])) (little_endian_at 0 bs) a g.0 g.1 (omega (arith, size)) (omega (arith, t.now, a)) k.0
      (ap kind_numbered (sym (number_front 2 bs (b ∷ []) l)) ∙ k.1) (omega (arith, t.now, a)) t.why

after_reached : (bs : List ℕ) (s : Step) → judged bs ≡ s → Tells (length bs) s → Reached (after s bs)
unfolding after
after_reached bs (Whole k n) e t = inl refl
after_reached bs (NotYet n) e t = inr (e ∙ ap (λ (m : ℕ). NotYet (in_frame m)) t)
after_reached bs (Stopped f) e t = tt

next_reached : (s : State) (b : ℕ) → Reached (next s b)
unfolding next
next_reached (collecting bs) b = after_reached (bs ++ (b ∷ [])) (judged (bs ++ (b ∷ []))) refl (judged_tells (bs ++ (b ∷ [])))
next_reached (stopped f) b = tt

-- every state that bytes lead to is such
pub received_reached : (s : State) (bs : List ℕ) → Reached s → Reached (received s bs).state
unfolding received run
received_reached s [] r = r
received_reached s (b ∷ bs) r = received_reached (next s b) bs (next_reached s b)

-- the numbers of a stopped stream
stream_stopped : (f : Fault) (n : ℕ) → stream_of (record { collected = n; stop = fault_number f }) ≡ Stays f
unfolding stream_of
stream_stopped BadLength n = refl
stream_stopped UnknownKind n = refl
stream_stopped BadCheck n = refl

by_stream : (s : Stream) → 0 < (host_of s).stop → host_of s ≡ record { collected = 0; stop = (host_of s).stop }
unfolding host_of
by_stream (Collecting n) p = absurd (omega arith)
by_stream (Stays f) p = refl

-- By the rules no byte brings anything any more
pub stopped_stays : (f : Fault) (bs : List ℕ) → received (stopped f) bs ≡ record { frames = []; state = stopped f }
unfolding received run next out
stopped_stays f [] = refl
stopped_stays f (b ∷ bs) = stopped_stays f bs

-- A call passes over every piece, answers the number and leaves the lent bytes, whatever these and the other number are
pub stopped_answers : (f : Fault) (n : ℕ) (buffer piece : List ℕ)
    → host_feeding (record { collected = n; stop = fault_number f }) buffer piece
    ≡ host_left (record { stream = record { collected = 0; stop = fault_number f }; kind = 0; size = 0; taken = length piece }) buffer
unfolding host_feeding host_fed host_told host_of feeding
stopped_answers f n buffer piece =
    let e : 0 + length piece ≡ length piece = omega arith in
    rw (stream_stopped f n, stopped_from 0 f buffer piece, e)

-- of a stream that a call leaves stopped, nothing but the number is left
pub stop_alone : (h : HostStream) (buffer piece : List ℕ) → 0 < (host_feeding h buffer piece).answer.stream.stop
    → (host_feeding h buffer piece).answer.stream ≡ record { collected = 0; stop = (host_feeding h buffer piece).answer.stream.stop }
unfolding host_feeding host_fed
stop_alone h buffer piece p =
    let f = (feeding (stream_of h) buffer piece).answer in
    let e = told_stream (host_of f.stream) f.step f.taken in
    e ∙ by_stream f.stream (omega (arith, ap (λ (s : HostStream). s.stop) e)) ∙ ap (λ (s : HostStream). record { collected = 0; stop = s.stop }) (sym e)
