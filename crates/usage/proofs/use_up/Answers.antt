-- Up to the place, the counters are used up.
use mathlib.Core.List.{[]}
use mathlib.Core.Path.{◌≡◌, refl, sym, ◌∙◌}
use native.Mathlib.Omega.{arith}
use lib.ListN.{get_or, take}
use Rattle.rules.specs.Basic.{among}
use Rattle.usage.proofs.Steps.{contained, looked, use_start, use_sound, use_on, use_again, use_end}
use Rattle.usage.proofs.use_up.Goals.{then-not-is_listed, else-not-is_listed}
use Rattle.usage.proofs.use_up.Goals as goal

pub loop-place-init : goal.loop-place-init
loop-place-init c = use_start _ c.requires []

pub step_counter-requires : goal.step_counter-requires
step_counter-requires c = use_sound _ c.requires _ _ _ c.loop-place.invariant

pub loop-place-preserved : goal.loop-place-preserved
loop-place-preserved c = let seen : c.is_listed.result ≡ among (take c.loop-place.place c.numbers-numbers.result.now) (get_or c.numbers-numbers.result.now c.loop-place.place 0) = looked _ _ _ _ _ c.is_listed.ensures (omega arith) in
    elim c.if-not-is_listed.branch [
      | then-not-is_listed w ↦
          w.store-is
          ∙ use_on _ c.requires _ _ _ c.loop-place.invariant _ refl _ (seen ∙ sym (contained _ _)) c.loop-place-test.true w.if-not-is_listed.true _ w.step_counter.ensures
      | else-not-is_listed w ↦
          w.store-is ∙ use_again _ c.requires _ _ _ c.loop-place.invariant _ refl _ (seen ∙ sym (contained _ _)) c.loop-place-test.true w.if-not-is_listed.false
    ]

pub returns : goal.returns
returns c = use_end _ c.requires _ _ _ c.loop-place.invariant c.loop-place-test.false _ c.numbers-numbers.ensures.list
