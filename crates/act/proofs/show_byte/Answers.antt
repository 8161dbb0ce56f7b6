-- `act::show_byte` meets its contract.
use native.Mathlib.Omega.{arith}
use Rattle.act.proofs.Doing.{byte_fits, byte_small, byte_cleared, byte_answered}
use Rattle.act.proofs.show_byte.Goals as goal

pub slice_bounds-answer-end : goal.slice_bounds-answer-end
slice_bounds-answer-end c = omega arith

pub answer-requires : goal.answer-requires
answer-requires c = (search byte_fits, search byte_small)

pub returns : goal.returns
returns c = (search byte_cleared, search byte_answered)
