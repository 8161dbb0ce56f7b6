-- However the bytes are cut: calls of `dock_feed` come to a run over their bytes one by one.
use Prim.Native.Nat.{ℕ, ◌+◌}
use mathlib.Core.Path.{◌≡◌, refl, ap, sym, ◌∙◌}
use mathlib.Core.List.{List, [], ◌∷◌, ◌++◌, append_assoc}
use lib.ListN.{drop}
use lib.Seq.{drop-drop}
use Rattle.dock.specs.declared.Stream.{Stream}
use Rattle.dock.specs.declared.Stream.TheVariants.{Collecting, Stopped as Stays}
use Rattle.frames.specs.declared.Step.{Step}
use Rattle.frames.specs.declared.Step.TheVariants.{Whole, NotYet, Stopped}
use Rattle.dock.specs.Streams.{Frame, Ran, shown, run}
use Rattle.dock.specs.Held.{Feeding, step_of, stream_after, buffer_after, resting, fed, whole_or, feeding_from, feeding}
use Rattle.dock.specs.Host.{stream_of, host_fed, HostFeeding, host_left, host_feeding}
use Rattle.dock.specs.Hosts.{Holding, told, Calls, over, call}
use Rattle.dock.proofs.Telling.{host_back, told_stream, told_taken, told_shown}

-- frames in front of what comes later
abbrev pub before : {S : Type 0} → List Frame → Ran S → Ran S
before fs r = record { frames = fs ++ r.frames; state = r.state }

-- a stream and the lent bytes, fed byte by byte
pub record Held : Type 0 where
  pub stream : Stream
  pub buffer : List ℕ

abbrev pub held : Stream → List ℕ → Held
held stream buffer = record { stream = stream; buffer = buffer }

abbrev pub next_held : Held → ℕ → Held
next_held h b = held (stream_after (step_of h.stream h.buffer b)) (buffer_after h.stream h.buffer b)

abbrev pub out_held : Held → ℕ → List Frame
out_held h b = shown (step_of h.stream h.buffer b) (buffer_after h.stream h.buffer b)

unfoldable pub held_run : Held → List ℕ → Ran Held
held_run h bs = run next_held out_held h bs

-- any machine: bytes in two parts
module _ {S : Type 0} (next : S → ℕ → S) (out : S → ℕ → List Frame) where
  pub run_append : (s : S) (xs ys : List ℕ) → run next out s (xs ++ ys) ≡ before (run next out s xs).frames (run next out (run next out s xs).state ys)
  unfolding run
  run_append s [] ys = refl
  run_append s (x ∷ xs) ys = ap (before (out s x)) (run_append (next s x) xs ys) ∙ rw append_assoc

-- one call --------------------------------------------------------------------------------------------------------------------

resting_shows : (s : Stream) (buffer : List ℕ) → shown (resting s) buffer ≡ []
unfolding shown
resting_shows (Collecting n) buffer = refl
resting_shows (Stays f) buffer = refl

-- what a call took, with what it left to later calls, is what all bytes come to
unfoldable after_call : Feeding → (piece rest : List ℕ) → Ran Held
after_call r piece rest =
    before (shown r.answer.step r.buffer) (held_run (held r.answer.stream r.buffer) (drop r.answer.taken piece ++ rest))

turned : (piece rest bs kept : List ℕ) (i : ℕ) (step : Step) (later : Stream) (more : Feeding) → drop (i + 1) piece ≡ bs
    → held_run (held later kept) (bs ++ rest) ≡ after_call more piece rest
    → before (shown step kept) (held_run (held later kept) (bs ++ rest))
    ≡ after_call (whole_or step (fed (record { stream = later; step = step; taken = i + 1 }) kept) more) piece rest
unfolding after_call whole_or shown
turned piece rest bs kept i (Whole k n) later more e ih = rw e
turned piece rest bs kept i (NotYet n) later more e ih = ih
turned piece rest bs kept i (Stopped f) later more e ih = ih

drop_more : (i : ℕ) (piece : List ℕ) (b : ℕ) (bs : List ℕ) → drop i piece ≡ b ∷ bs → drop (i + 1) piece ≡ bs
drop_more i piece b bs e = sym (drop-drop 1 i piece) ∙ ap (drop 1) e

call_from : (i : ℕ) (s : Stream) (buffer piece rest bs : List ℕ) → drop i piece ≡ bs
    → held_run (held s buffer) (bs ++ rest) ≡ after_call (feeding_from i s buffer bs) piece rest
unfolding held_run run feeding_from
call_from i s buffer piece rest [] e = unfold after_call in rw (resting_shows s buffer, e)
call_from i s buffer piece rest (b ∷ bs) e =
    let step = step_of s buffer b in
    let kept = buffer_after s buffer b in
    let e' = drop_more i piece b bs e in
    turned piece rest bs kept i step (stream_after step) _ e' (call_from (i + 1) (stream_after step) kept piece rest bs e')

-- all calls -------------------------------------------------------------------------------------------------------------------

-- what a host holds, as a stream
abbrev pub inner : Holding → Held
inner h = held (stream_of h.stream) h.buffer

-- what a call of a host took, with what it left, likewise
unfoldable after_host_call : HostFeeding → (piece rest : List ℕ) → Ran Held
after_host_call r piece rest =
    before (told r.answer r.buffer) (held_run (held (stream_of r.answer.stream) r.buffer) (drop r.answer.taken piece ++ rest))

same_call : (f : Feeding) (piece rest : List ℕ) → after_call f piece rest ≡ after_host_call (host_left (host_fed f.answer) f.buffer) piece rest
unfolding after_call after_host_call host_fed
same_call f piece rest = rw (told_shown, told_stream, told_taken, host_back)

-- What calls give is the run over their bytes, one by one
pub calls_run : {h : Holding} {bytes : List ℕ} {frames : List Frame} {end : Holding} → Calls h bytes frames end
    → held_run (inner h) bytes ≡ record { frames = frames; state = inner end }
unfolding held_run run feeding host_feeding after_host_call
calls_run over = refl
calls_run (call {stream = s} {buffer = buffer} piece rest r buffer' e f later) =
    ap (held_run (held (stream_of s) buffer)) e
    ∙ call_from 0 (stream_of s) buffer piece rest piece refl
    ∙ same_call (feeding_from 0 (stream_of s) buffer piece) piece rest
    ∙ ap (λ (a : HostFeeding). after_host_call a piece rest) (sym f)
    ∙ ap (before (told r buffer')) (calls_run later)

-- However the same bytes are cut for one stream, the same frames come out, and the same stream and every lent byte are left
pub cut_alike : {h : Holding} {bytes : List ℕ} {fs gs : List Frame} {end last : Holding} → Calls h bytes fs end → Calls h bytes gs last
    → (fs ≡ gs) × (inner end ≡ inner last)
cut_alike a b =
    let e = sym (calls_run a) ∙ calls_run b in
    (ap (λ (r : Ran Held). r.frames) e, ap (λ (r : Ran Held). r.state) e)
