-- A stream as a host in C keeps it: two numbers, each of any value, and the lent bytes.
use Rattle.std.specs.Prelude.{ℕ, List, eqb, if◌then◌else◌}
use Rattle.frames.specs.declared.Fault.TheVariants.{BadLength, UnknownKind, BadCheck}
use Rattle.frames.specs.declared.Step.{Step}
use Rattle.frames.specs.declared.Step.TheVariants.{Whole, NotYet, Stopped}
use Rattle.frames.specs.Frames.{in_frame, kind_number, fault_number}
use Rattle.dock.specs.declared.Stream.{Stream}
use Rattle.dock.specs.declared.Stream.TheVariants.{Collecting, Stopped as Stays}
use Rattle.dock.specs.declared.Fed.{Fed}
use Rattle.dock.specs.declared.HostStream.{HostStream}
use Rattle.dock.specs.declared.HostFed.{HostFed}
use Rattle.dock.specs.Held.{feeding}

-- the stream that two numbers are: a stop that no fault has counts as a bad length
unfoldable pub stream_of : HostStream → Stream
stream_of h =
    if eqb h.stop 0 then Collecting (in_frame h.collected) else
    (if eqb h.stop 2 then Stays UnknownKind else
    (if eqb h.stop 3 then Stays BadCheck else
    Stays BadLength))

-- the numbers of a stream: of one that stopped, nothing but the fault's
unfoldable pub host_of : Stream → HostStream
host_of (Collecting n) = record { collected = n.0; stop = 0 }
host_of (Stays f) = record { collected = 0; stop = fault_number f }

-- what a call tells: kind and body size of a whole frame, or 0 and 0
unfoldable pub host_told : HostStream → Step → ℕ → HostFed
host_told h (Whole k n) taken = record { stream = h; kind = kind_number k; size = n.0; taken = taken }
host_told h (NotYet n) taken = record { stream = h; kind = 0; size = 0; taken = taken }
host_told h (Stopped f) taken = record { stream = h; kind = 0; size = 0; taken = taken }

unfoldable pub host_fed : Fed → HostFed
host_fed r = host_told (host_of r.stream) r.step r.taken

-- what a call answers, and the lent bytes as it leaves them
pub record HostFeeding : Type 0 where
  pub answer : HostFed
  pub buffer : List ℕ

abbrev pub host_left : HostFed → List ℕ → HostFeeding
host_left r buffer = record { answer = r; buffer = buffer }

unfoldable pub host_feeding : HostStream → List ℕ → List ℕ → HostFeeding
host_feeding h buffer piece =
    let f = feeding (stream_of h) buffer piece in
    host_left (host_fed f.answer) f.buffer
