-- What is left to judge is whether the rest is records with numbers from `least` on.
use borrow.Author.Tests.{le-leb, lt-leb}
use native.Mathlib.Omega.{arith}
use Prim.Native.Nat.{◌+◌, ◌-◌, ◌<◌, ◌≤◌}
use mathlib.Core.Path.{◌≡◌}
use Rattle.rules.specs.Basic.{all}
use Rattle.expression.proofs.Tests.{no, go, no_call, go_call, is_leb, isnt_leb, wrong_leb}
use Rattle.store.proofs.Checking.{records_by, records_last, records_on, records_end, same_record, record_stored, store_joined, store_long}
use Rattle.store.proofs.check_store.Goals as goal

pub returns-then-store-gt-BYTES : goal.returns-then-store-gt-BYTES
unfolding all
returns-then-store-gt-BYTES c = search store_long

pub loop-turn-init : goal.loop-turn-init
unfolding all
loop-turn-init c = (omega arith, search store_joined)

pub returns-then-rest-lt-SHORTEST : goal.returns-then-rest-lt-SHORTEST
unfolding all
returns-then-rest-lt-SHORTEST c = let h : 0 < 32 - c.loop-turn.turn = omega arith in search (records_by, no, lt-leb) depth 12 fits 50000

pub returns-then-rest-size : goal.returns-then-rest-size
unfolding all
returns-then-rest-size c = let h : 0 < 32 - c.loop-turn.turn = omega arith in search (records_by, no, go, le-leb, isnt_leb) depth 12 fits 50000

pub returns-then-not-record_ok : goal.returns-then-not-record_ok
unfolding all
returns-then-not-record_ok c = let h : 0 < 32 - c.loop-turn.turn = omega arith in search (records_by, same_record, no_call, go, le-leb, is_leb) depth 12 fits 50000

pub number_at-n-requires : goal.number_at-n-requires
unfolding all
number_at-n-requires c = search record_stored

pub returns-then-n-least : goal.returns-then-n-least
unfolding all
returns-then-n-least c = let h : 0 < 32 - c.loop-turn.turn = omega arith in search (records_by, same_record, no, go, go_call, le-leb, is_leb, wrong_leb) depth 12 fits 50000

pub returns-then-rest-size-2 : goal.returns-then-rest-size-2
unfolding all
returns-then-rest-size-2 c = let h : 0 < 32 - c.loop-turn.turn = omega arith in search records_last

pub loop-turn-preserved : goal.loop-turn-preserved
unfolding all
loop-turn-preserved c =
    let h : 0 < 32 - c.loop-turn.turn = omega arith in
    let e : 32 - (c.loop-turn.turn + 1) ≡ 32 - c.loop-turn.turn - 1 = omega arith in
    (omega arith, rw e (search records_on))

pub returns : goal.returns
unfolding all
returns c = let z : 32 - c.loop-turn.turn ≤ 0 = omega arith in search records_end
