-- Hosts: any calls of `dock_feed` that hand over the same bytes.
use Rattle.std.specs.Prelude.{ℕ, ◌≤◌, ◌<◌, ◌≡◌, Option, Some, None, List, [], ◌∷◌, ◌++◌, length, drop}
use Rattle.frames.specs.declared.Kind.{Kind}
use Rattle.frames.specs.Frames.{longest, kind_numbered, body_at}
use Rattle.dock.specs.declared.HostStream.{HostStream}
use Rattle.dock.specs.declared.HostFed.{HostFed}
use Rattle.dock.specs.Streams.{Frame, State, received}
use Rattle.dock.specs.Held.{state_of}
use Rattle.dock.specs.Host.{stream_of, HostFeeding, host_left, host_feeding}

-- the stream's two numbers and the lent bytes
pub record Holding : Type 0 where
  pub stream : HostStream
  pub buffer : List ℕ

abbrev pub holding : HostStream → List ℕ → Holding
holding stream buffer = record { stream = stream; buffer = buffer }

-- the state of the rules that this is
abbrev pub held_state : Holding → State
held_state h = state_of (stream_of h.stream) h.buffer

-- the frame that a host is told of, in the lent bytes
unfoldable pub named_frame : Option Kind → ℕ → List ℕ → List Frame
named_frame (Some k) n buffer = record { kind = k; body = body_at n buffer } ∷ []
named_frame None n buffer = []

unfoldable pub told : HostFed → List ℕ → List Frame
told r buffer = named_frame (kind_numbered r.kind) r.size buffer

-- Calls one after another, each on what the one before left. Each is lent a piece, of any size, of the bytes that are still to
-- come, meets the contract of `dock_feed`, and leaves what it did not take to the calls after it.
pub data Calls : Holding → List ℕ → List Frame → Holding → Type 0 where
  over : {h : Holding} → Calls h [] [] h
  call : {stream : HostStream} {buffer bytes : List ℕ} {frames : List Frame} {end : Holding} (piece rest : List ℕ) (r : HostFed) (buffer' : List ℕ)
      → bytes ≡ piece ++ rest
      → host_left r buffer' ≡ host_feeding stream buffer piece
      → Calls (holding r.stream buffer') (drop r.taken piece ++ rest) frames end
      → Calls (holding stream buffer) bytes (told r buffer' ++ frames) end

-- how much of a piece a call takes
pub record Takes (piece : List ℕ) (r : HostFeeding) : Type 0 where
  pub some : 0 < length piece → 0 < r.answer.taken
  pub most : r.answer.taken ≤ length piece
  pub all : r.answer.kind ≡ 0 → r.answer.taken ≡ length piece

-- What these calls gave, and what they left, is what the rules say of the same bytes
pub record AsRules (h : Holding) (bytes : List ℕ) (fs : List Frame) (end : Holding) : Type 0 where
  pub frames : fs ≡ (received (held_state h) bytes).frames
  pub state : held_state end ≡ (received (held_state h) bytes).state
  pub size : length end.buffer ≡ longest

-- The same bytes, cut in two ways and fed to two streams in the same state: the same frames come out and the same state is
-- left, whatever else the lent bytes hold, and all is as the rules say
pub record HoweverCut (h i : Holding) (bytes : List ℕ) (fs gs : List Frame) (end last : Holding) : Type 0 where
  pub frames : fs ≡ gs
  pub state : held_state end ≡ held_state last
  pub first_by_rules : AsRules h bytes fs end
  pub second_by_rules : AsRules i bytes gs last
