-- What is left to search is the way from `at` on.
use Prim.Native.Nat.{◌<◌, ◌≤◌}
use mathlib.Core.Path.{◌≡◌}
use native.Mathlib.Omega.{arith}
use Rattle.std.specs.Prelude.{None}
use Rattle.rules.specs.Layout.{found}
use Rattle.store.specs.Way.{way}
use Rattle.store.proofs.Search.{start, here_stored, found_here, passed, go_on, search_end}
use Rattle.store.proofs.find_record.Goals as goal

pub loop-at-init : goal.loop-at-init
loop-at-init c = search start

pub data_end-next-requires : goal.data_end-next-requires
data_end-next-requires c = search here_stored

pub number_at-here-requires : goal.number_at-here-requires
number_at-here-requires c = search here_stored

pub returns-then-number-here : goal.returns-then-number-here
returns-then-number-here c =
    let gone : None ≡ found c.args.number.0 (way c.args.number.0 c.args.store.now) = search passed in
    cc

pub returns-then-number-here-2 : goal.returns-then-number-here-2
returns-then-number-here-2 c = let l : c.args.number.0 ≤ c.number_at-here.result.0 = omega arith in search found_here

pub loop-at-preserved : goal.loop-at-preserved
loop-at-preserved c = let l : c.number_at-here.result.0 < c.args.number.0 = omega arith in search go_on

pub returns : goal.returns
returns c = search search_end
