-- One byte says always or never.
use mathlib.Core.Path.{refl}
use native.Mathlib.Omega.{arith}
use borrow.Author.Tests.{eq-eqb, ne_eqb}
use Rattle.access.proofs.Granting.{grant_one}
use Rattle.access.proofs.Sight.grant_of.Goals as goal

pub returns-in-len1 : goal.returns-in-len1
returns-in-len1 c =
    grant_one _ _ _ _ c.requires (omega (arith, c.in-len1.len_below, c.in-len1.len_at_least)) (rw (eq-eqb _ _ c.if-only-eq-ALWAYS.true, c.none.ensures) refl)

pub returns-in-len1-2 : goal.returns-in-len1-2
returns-in-len1-2 c = grant_one _ _ _ _ c.requires (omega (arith, c.in-len1.len_below, c.in-len1.len_at_least)) (rw (ne_eqb _ _ c.if-only-eq-ALWAYS.false) refl)
