-- Bytes taken at once: as many as come before the collected bytes are judged next.
use Rattle.std.specs.Prelude.{ℕ, ◌+◌, ◌-◌, min, List, ◌++◌, ◌&&◌, eqb, leb, ltb, length, take, if◌then◌else◌}
use Rattle.rules.specs.Basic.{little_endian_at}
use Rattle.primitives.specs.Bytes.{over}
use Rattle.frames.specs.declared.Fault.TheVariants.{BadLength}
use Rattle.frames.specs.declared.Step.{Step}
use Rattle.frames.specs.declared.Step.TheVariants.{Whole, NotYet, Stopped}
use Rattle.frames.specs.Frames.{around, longest, judged_by_head, judged}
use Rattle.dock.specs.declared.Stream.{Stream}
use Rattle.dock.specs.declared.Stream.TheVariants.{Collecting, Stopped as Stays}
use Rattle.dock.specs.declared.Part.{Part}

-- a frame that goes on is judged next where its length ends, where its kind ends, at its last byte; other bytes, with the next
unfoldable pub judged_after : Step → List ℕ → ℕ
judged_after (Whole k n) bs = length bs + 1
judged_after (NotYet n) bs = if ltb (length bs) 2 then 2 else (if ltb (length bs) 4 then 4 else little_endian_at 0 bs)
judged_after (Stopped f) bs = length bs + 1

unfoldable pub next_judged : List ℕ → ℕ
next_judged bs = judged_after (judged_by_head bs) bs

-- Where a frame begins with these bytes, and its head is among them and has no fault, it is judged next at its last byte.
unfoldable pub head_judged : List ℕ → ℕ
head_judged bytes = if ltb (length bytes) 4 then 0 else next_judged (take 4 bytes)

-- with n bytes collected and these to come
unfoldable pub reach : ℕ → List ℕ → List ℕ → ℕ
reach n buffer bytes = if eqb n 0 && leb around (head_judged bytes) then head_judged bytes else next_judged (take n buffer)

-- what `take_part` answers, and the lent bytes as it leaves them
pub record Parting : Type 0 where
  pub answer : Part
  pub buffer : List ℕ

abbrev pub parted : Part → List ℕ → Parting
parted r buffer = record { answer = r; buffer = buffer }

-- with so many of these bytes put behind the n collected
unfoldable pub judged_part : ℕ → List ℕ → List ℕ → ℕ → Parting
judged_part n buffer bytes k = parted (record { step = judged (take n buffer ++ take k bytes); taken = k }) (over n (take k bytes) buffer)

-- no frame has room for more than the longest
unfoldable pub collecting_part : ℕ → List ℕ → List ℕ → Parting
collecting_part n buffer bytes =
    if ltb n longest then judged_part n buffer bytes (min (reach n buffer bytes - n) (length bytes)) else
    parted (record { step = Stopped BadLength; taken = length bytes }) buffer

unfoldable pub part : Stream → List ℕ → List ℕ → Parting
part (Collecting n) buffer bytes = collecting_part n.0 buffer bytes
part (Stays f) buffer bytes = parted (record { step = Stopped f; taken = length bytes }) buffer
