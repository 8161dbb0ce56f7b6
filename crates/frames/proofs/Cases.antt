-- The cases of frames follow from their rules: antt computes the tables.
use mathlib.Core.Bool.{Bool, true}
use mathlib.Core.List.{List}
use mathlib.Core.Path.{◌≡◌, refl}
use Rattle.rules.specs.Basic.{same, little_endian_at}
use Rattle.rules.specs.Hex.{ascii, digits, pairs, hex}
use Rattle.remainder.specs.Remainder.{bit_step, eight_steps, with_byte, remainder_from, remainder}
use Rattle.frames.specs.Frames.{kind_numbered, written_number, unchecked, frame_bytes, body_at, by_kind, judged_by_head, check_right, checked, judged, writing}
use Rattle.frames.specs.Cases.{same_kind, same_named, same_fault, same_step, same_refusal, same_written, Case, each_right, right, all_right}
use Rattle.frames.specs.Cases.{reading, reading_frame, done, done_frame, frame_300, longest_frame, frame_cases, longest_cases}

-- `unfolding computed` opens every rule
unfoldable pub computed : List Case → Bool
unfolding same little_endian_at ascii digits pairs hex bit_step eight_steps with_byte remainder_from remainder kind_numbered written_number unchecked frame_bytes body_at by_kind judged_by_head check_right checked judged writing same_kind same_named same_fault same_step same_refusal same_written each_right right all_right reading reading_frame done done_frame frame_300 longest_frame frame_cases longest_cases
computed cs = all_right cs

pub frame_cases_right : all_right frame_cases ≡ true
unfolding computed
frame_cases_right = refl

pub longest_cases_right : all_right longest_cases ≡ true
unfolding computed
longest_cases_right = refl
