use mathlib.Core.Path.{◌≡◌}
use lib.ListN.{drop}
use Rattle.remainder.specs.Remainder.{remainder_from, remainder}
use Rattle.remainder.proofs.remainder.Given as goal

abbrev pub invariant-loop-byte : goal.invariant-loop-byte
invariant-loop-byte l = remainder_from l.x (drop l.byte-index l.bytes) ≡ remainder l.bytes
