-- What is asked of all sizes is what is asked of those not yet seen.
use mathlib.Core.Path.{◌≡◌}
use native.Mathlib.Omega.{arith}
use lib.ListN.{length, take}
use lib.Seq.{length-take-le}
use Rattle.firmware.proofs.Sizes.{too_few, too_large, one_fits, all_seen}
use Rattle.firmware.proofs.all_fit.Goals as goal

pub returns-then-sizes-count : goal.returns-then-sizes-count
returns-then-sizes-count c = search too_few

pub returns-then-left-size : goal.returns-then-left-size
returns-then-left-size c =
    let n : length (take c.args.count c.args.sizes.now) ≡ c.args.count = length-take-le c.args.count c.args.sizes.now c.if-sizes-count.false in
    too_large _ _ _ _ _ (omega arith) c.loop-size.invariant (omega arith) c.if-left-size.true

pub loop-size-preserved : goal.loop-size-preserved
loop-size-preserved c =
    let n : length (take c.args.count c.args.sizes.now) ≡ c.args.count = length-take-le c.args.count c.args.sizes.now c.if-sizes-count.false in
    one_fits _ _ _ _ _ (omega arith) c.loop-size.invariant (omega arith) c.if-left-size.false

pub returns : goal.returns
returns c =
    let n : length (take c.args.count c.args.sizes.now) ≡ c.args.count = length-take-le c.args.count c.args.sizes.now c.if-sizes-count.false in
    all_seen _ _ _ _ _ (omega arith) c.loop-size.invariant
