-- `put_lines`: what is left is the lines of the commands not yet carried out.
use mathlib.Core.Path.{refl}
use native.Mathlib.Omega.{arith}
use Rattle.listing.proofs.Texts.{onward_start}
use Rattle.listing.proofs.Lines.{lines_on, length_cut, lines_cut, lines_end}
use Rattle.listing.proofs.Output.put_lines.Goals as goal

pub loop-at-init : goal.loop-at-init
loop-at-init c = (refl, omega arith, refl, search onward_start)

pub returns-then-left-lt-LENGTH : goal.returns-then-left-lt-LENGTH
returns-then-left-lt-LENGTH c = (search length_cut, cc)

pub returns-then-left-size : goal.returns-then-left-size
returns-then-left-size c = (search lines_cut, cc)

pub loop-at-preserved : goal.loop-at-preserved
loop-at-preserved c = (cc, omega arith, omega arith, search lines_on)

pub returns : goal.returns
returns c = (search lines_end, c.loop-at.invariant.0)
