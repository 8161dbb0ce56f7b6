use Prim.Native.Nat.{◌-◌}
use lib.ListN.{length}
use Rattle.rules.specs.Metadata.{metadata_allowed}
use Rattle.content.proofs.Judging.{Judged}
use Rattle.content.proofs.content_allowed.Given as goal

abbrev pub invariant-loop-next : goal.invariant-loop-next
invariant-loop-next l = Judged (metadata_allowed l.lcso l.content) l.lcso l.last l.reader.at l.reader.content.now

abbrev pub decreases-loop-next : goal.decreases-loop-next
decreases-loop-next l = length l.reader.content.now - l.reader.at
