-- `fill`: the front of the store is the records of the entries so far. The code's table is the rules' table, computed once for all entries.
use mathlib.Core.Path.{refl}
use native.Mathlib.Omega.{arith}
use lib.ListN.{length-take, length-drop}
use Rattle.rules.specs.Layout.{pack_with, size_with}
use Rattle.rules.specs.Factory.{table, entry}
use Rattle.factory.specs.Table.{place, first}
use Rattle.factory.proofs.Table.{coded, listed}
use Rattle.factory.proofs.Records.{fill_turn, fill_length, fill_end}
use Rattle.factory.proofs.fill.Goals as goal

pub loop-number-init : goal.loop-number-init
loop-number-init c = (unfold place first size_with in refl, refl, unfold first pack_with in refl)

pub overflow_add-end : goal.overflow_add-end
unfolding coded table entry
overflow_add-end c = let l = listed c.loop-number.number-index c.loop-number-test.true in omega (arith, l.next, l.within)

pub overflow_add-end-in-loop-number : goal.overflow_add-end-in-loop-number
unfolding coded table entry
overflow_add-end-in-loop-number c = let l = listed c.loop-number.number-index c.loop-number-test.true in omega (arith, l.next, l.within)

pub slice_bounds-put_record-end : goal.slice_bounds-put_record-end
unfolding coded table entry
slice_bounds-put_record-end c = let l = listed c.loop-number.number-index c.loop-number-test.true in omega (arith, l.next, l.within)

pub put_record-requires : goal.put_record-requires
unfolding coded table entry
put_record-requires c =
    let l = listed c.loop-number.number-index c.loop-number-test.true in
    (simp (length-take, length-drop) (omega (arith, l.next, l.within)), omega (arith, l.next, l.within))

pub loop-number-preserved : goal.loop-number-preserved
unfolding coded table entry
loop-number-preserved c =
    let l = listed c.loop-number.number-index c.loop-number-test.true in
    (omega (arith, l.next), search fill_length, search fill_turn)

pub returns : goal.returns
returns c = search fill_end
