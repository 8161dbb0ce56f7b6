use Rattle.runs.specs.Lists.{lent}
use Rattle.runs.proofs.Cutting.{Loop}
use Rattle.runs.proofs.run.Given as goal

abbrev pub invariant-loop-i : goal.invariant-loop-i
invariant-loop-i l = Loop (lent l.commands l.sizes l.initial.rooms l.spaces l.initial.outcomes l.initial.store l.initial.kept) l.store l.rooms l.outcomes l.kept l.at l.to l.i
