-- Outcome 2 where the sizes do not fit, and else the run in bytes.
use mathlib.Core.Path.{refl}
use Rattle.firmware.specs.Host.{session_of}
use Rattle.firmware.proofs.Sizes.{not_laid, ran}
use Rattle.firmware.proofs.element_run.Goals as goal

pub returns-then-not-fit : goal.returns-then-not-fit
returns-then-not-fit c = not_laid c.args.session.now _ _ _ _ _ _ _ _ _ refl refl c.fit.ensures (session_of c.args.session.now) c.if-not-fit.true

pub returns : goal.returns
returns c =
    ran c.args.session.now _ _ _ _ _ _ _ _ _ refl refl c.fit.ensures _ _ _ _ _ _ c.if-not-fit.false c.into.ensures c.run-after.ensures c.bytes_of.ensures
