-- What a host in C is told.
use Prim.Native.Nat.{ℕ}
use mathlib.Core.Path.{◌≡◌, refl}
use mathlib.Core.List.{List}
use Rattle.frames.specs.declared.BodyLength.{BodyLength}
use Rattle.frames.specs.declared.Kind.{Kind}
use Rattle.frames.specs.declared.Kind.TheVariants.{Command, Response}
use Rattle.frames.specs.declared.Fault.TheVariants.{BadLength, UnknownKind, BadCheck}
use Rattle.frames.specs.declared.Step.{Step}
use Rattle.frames.specs.declared.Step.TheVariants.{Whole, NotYet, Stopped}
use Rattle.frames.specs.Frames.{kind_numbered}
use Rattle.dock.specs.declared.Stream.{Stream}
use Rattle.dock.specs.declared.Stream.TheVariants.{Collecting, Stopped as Stays}
use Rattle.dock.specs.declared.HostStream.{HostStream}
use Rattle.dock.specs.Streams.{shown}
use Rattle.dock.specs.Hosts.{named_frame, told}
use Rattle.dock.specs.Host.{stream_of, host_of, host_told}

-- of a step that is no whole frame, a host is told kind 0 and size 0
pub none_told : (h : HostStream) (s : Step) (taken : ℕ) → ((k : Kind) (n : BodyLength) → s ≡ Whole k n → ⊥)
    → record { stream = h; kind = 0; size = 0; taken = taken } ≡ host_told h s taken
unfolding host_told
none_told h (Whole k n) taken e = absurd (e k n refl)
none_told h (NotYet n) taken e = refl
none_told h (Stopped f) taken e = refl

-- the numbers of a stream are that stream again
pub host_back : (s : Stream) → stream_of (host_of s) ≡ s
unfolding stream_of host_of
host_back (Collecting n) = refl
host_back (Stays BadLength) = refl
host_back (Stays UnknownKind) = refl
host_back (Stays BadCheck) = refl

-- what a host is told of the stream and of the bytes taken does not hang on the step
pub told_stream : (h : HostStream) (s : Step) (n : ℕ) → (host_told h s n).stream ≡ h
unfolding host_told
told_stream h (Whole k m) n = refl
told_stream h (NotYet m) n = refl
told_stream h (Stopped f) n = refl

pub told_taken : (h : HostStream) (s : Step) (n : ℕ) → (host_told h s n).taken ≡ n
unfolding host_told
told_taken h (Whole k m) n = refl
told_taken h (NotYet m) n = refl
told_taken h (Stopped f) n = refl

-- and a host is told of the frame that a step shows
pub told_shown : (h : HostStream) (s : Step) (n : ℕ) (buffer : List ℕ) → told (host_told h s n) buffer ≡ shown s buffer
unfolding told host_told shown named_frame kind_numbered
told_shown h (Whole Command m) n buffer = refl
told_shown h (Whole Response m) n buffer = refl
told_shown h (NotYet m) n buffer = refl
told_shown h (Stopped f) n buffer = refl
