use mathlib.Core.Path.{◌≡◌}
use lib.ListN.{drop}
use Rattle.rules.specs.Program.{upper_hex}
use Rattle.listing.proofs.Texts.{Onward}
use Rattle.listing.proofs.Output.put_hex.Given as goal

abbrev pub invariant-loop-byte : goal.invariant-loop-byte
invariant-loop-byte l =
    (l.self.bytes.ghost_name ≡ l.initial.self.bytes.ghost_name)
    × Onward l.initial.self.at (upper_hex l.bytes) l.initial.self.bytes.now l.self.at (upper_hex (drop l.byte-index l.bytes)) l.self.bytes.now
