-- The cases of the stream follow from its rules: antt computes the tables.
use mathlib.Core.Bool.{Bool, true}
use mathlib.Core.List.{List, ◌++◌}
use mathlib.Core.Path.{◌≡◌, refl}
use Rattle.rules.specs.Basic.{all}
use Rattle.frames.proofs.Cases.{computed as frames_computed}
use Rattle.dock.specs.Streams.{shown, run, after, next, out, received}
use Rattle.dock.specs.Held.{state_of, step_of, buffer_after, whole_or, feeding_from, feeding}
use Rattle.dock.specs.Host.{stream_of, host_of, host_told, host_fed, host_feeding}
use Rattle.dock.specs.Hosts.{named_frame, told}
use Rattle.dock.specs.Cases.{same_frames, same_state, same_stream, same_numbers, Case, right, all_right, stream_cases, held_cases, host_cases}

-- `unfolding computed` opens every rule
unfoldable pub computed : List Case → Bool
unfolding frames_computed all shown run after next out received state_of step_of buffer_after whole_or feeding_from feeding stream_of host_of host_told host_fed host_feeding named_frame told same_frames same_state same_stream same_numbers right all_right stream_cases held_cases host_cases
computed cs = all_right cs

-- over bytes, as a host holds it, as a host in C keeps it
pub dock_cases_right : all_right (stream_cases ++ held_cases ++ host_cases) ≡ true
unfolding computed
dock_cases_right = refl
