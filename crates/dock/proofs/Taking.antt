-- How much of a piece a call takes, so that a host's calls come to an end; and that there are calls for every way to cut.
use Prim.Native.Nat.{ℕ, zero, suc, ◌+◌, ◌≤◌, ◌<◌}
use mathlib.Core.Path.{◌≡◌, refl}
use mathlib.Core.List.{List, [], ◌∷◌, ◌++◌}
use native.Mathlib.Omega.{arith}
use lib.ListN.{length, drop, length-drop}
use Rattle.dock.specs.declared.Stream.{Stream}
use Rattle.frames.specs.declared.Step.{Step}
use Rattle.frames.specs.declared.Step.TheVariants.{Whole, NotYet, Stopped}
use Rattle.rules.specs.Basic.{joined}
use Rattle.frames.specs.declared.Kind.TheVariants.{Command, Response}
use Rattle.dock.specs.declared.HostStream.{HostStream}
use Rattle.dock.specs.Streams.{Frame, shown}
use Rattle.dock.specs.Held.{Feeding, step_of, stream_after, buffer_after, fed, whole_or, feeding_from, feeding}
use Rattle.dock.specs.Host.{stream_of, host_of, host_told, host_fed, host_feeding}
use Rattle.dock.specs.Hosts.{Holding, holding, told, Calls, over, call, Takes}
use Rattle.dock.proofs.Telling.{told_taken}

-- with i bytes taken and bs left
record TakesOn (i : ℕ) (bs : List ℕ) (r : Feeding) : Type 0 where
  pub least : i ≤ r.answer.taken
  pub some : 0 < length bs → i < r.answer.taken
  pub most : r.answer.taken ≤ i + length bs
  pub all : shown r.answer.step r.buffer ≡ [] → r.answer.taken ≡ i + length bs

goes_on : (i b : ℕ) (bs : List ℕ) (more : Feeding) → TakesOn (i + 1) bs more → TakesOn i (b ∷ bs) more
goes_on i b bs more t =
    record {
      least = omega (arith, t.least);
      some = λ h. omega (arith, t.least);
      most = omega (arith, t.most);
      all = λ e. omega (arith, t.all e);
    }

takes_more : (i b : ℕ) (bs kept : List ℕ) (step : Step) (later : Stream) (more : Feeding) → TakesOn (i + 1) bs more
    → TakesOn i (b ∷ bs) (whole_or step (fed (record { stream = later; step = step; taken = i + 1 }) kept) more)
unfolding whole_or shown
takes_more i b bs kept (Whole k n) later more t =
    record {
      least = omega arith;
      some = λ h. omega arith;
      most = omega arith;
      all = λ e. let z : ◌≡◌ {A = ℕ} 0 1 = cc in absurd (omega arith);
    }
takes_more i b bs kept (NotYet n) later more t = goes_on i b bs more t
takes_more i b bs kept (Stopped f) later more t = goes_on i b bs more t

takes_from : (i : ℕ) (s : Stream) (buffer bs : List ℕ) → TakesOn i bs (feeding_from i s buffer bs)
unfolding feeding_from
takes_from i s buffer [] = record { least = omega arith; some = λ h. absurd (omega arith); most = omega arith; all = λ e. omega arith }
takes_from i s buffer (b ∷ bs) =
    let step = step_of s buffer b in
    let kept = buffer_after s buffer b in
    takes_more i b bs kept step (stream_after step) _ (takes_from (i + 1) (stream_after step) kept bs)

-- a host that is told of no frame is shown none
none_shown : (h : HostStream) (s : Step) (n : ℕ) (buffer : List ℕ) → (host_told h s n).kind ≡ 0 → shown s buffer ≡ []
unfolding host_told shown
none_shown h (Whole Command m) n buffer e = let z : ◌≡◌ {A = ℕ} 1 0 = e in absurd (omega arith)
none_shown h (Whole Response m) n buffer e = let z : ◌≡◌ {A = ℕ} 2 0 = e in absurd (omega arith)
none_shown h (NotYet m) n buffer e = refl
none_shown h (Stopped f) n buffer e = refl

-- A call takes something of a piece that has bytes, and all of it where no frame comes out
pub feed_takes : (h : HostStream) (buffer piece : List ℕ) → Takes piece (host_feeding h buffer piece)
unfolding host_feeding host_fed feeding
feed_takes h buffer piece =
    let f = feeding_from 0 (stream_of h) buffer piece in
    let t = takes_from 0 (stream_of h) buffer piece in
    let n = told_taken (host_of f.answer.stream) f.answer.step f.answer.taken in
    record {
      some = λ p. omega (arith, n, t.some p);
      most = omega (arith, n, t.most);
      all = λ e. omega (arith, n, t.all (none_shown (host_of f.answer.stream) f.answer.step f.answer.taken f.buffer e));
    }

-- For every way to cut ---------------------------------------------------------------------------------------------------------

-- calls that hand over these bytes
pub record Called (h : Holding) (bytes : List ℕ) : Type 0 where
  pub frames : List Frame
  pub end : Holding
  pub calls : Calls h bytes frames end

-- a piece, and what is left of it, until all is taken; then the rest
piece_called : (n : ℕ) (piece rest : List ℕ) → length piece ≤ n → ((h : Holding) → Called h rest) → (h : Holding) → Called h (piece ++ rest)
piece_called zero [] rest l later h = later h
piece_called zero (b ∷ piece) rest l later h = absurd (omega arith)
piece_called (suc n) [] rest l later h = later h
piece_called (suc n) (b ∷ piece) rest l later h =
    let r = host_feeding h.stream h.buffer (b ∷ piece) in
    let t = feed_takes h.stream h.buffer (b ∷ piece) in
    let left : length (drop r.answer.taken (b ∷ piece)) ≤ n = omega (arith, length-drop r.answer.taken (b ∷ piece), t.some (omega arith)) in
    let c = piece_called n (drop r.answer.taken (b ∷ piece)) rest left later (holding r.answer.stream r.buffer) in
    record {
      frames = told r.answer r.buffer ++ c.frames;
      end = c.end;
      calls = call (b ∷ piece) rest r.answer r.buffer refl refl c.calls;
    }

-- There are calls for every list of pieces, each handed over until all of it is taken
pub pieces_called : (pieces : List (List ℕ)) (h : Holding) → Called h (joined pieces)
pieces_called [] h = record { frames = []; end = h; calls = over }
pieces_called (p ∷ ps) h = piece_called (length p) p (joined ps) (omega arith) (pieces_called ps) h
