-- What demand 3 of the library's runs assumes is met: the two lists and the mix of the rules' Witnesses, laid out in buffers of the parameters'
-- types, are what three calls of `run` are lent, and demand 3 holds of them.
use Prim.Native.Nat.{ℕ, ◌<◌}
use mathlib.Core.Bool.{true}
use mathlib.Core.List.{List, [], ◌∷◌, ◌++◌, map, flat_map}
use mathlib.Core.Path.{◌≡◌, refl}
use native.Mathlib.Omega.{arith}
use borrow.Author.Tests.{ltb-true}
use lib.Dec.{ltb}
use lib.ListN.{length}
use Rattle.mixing.specs.Runs.{All}
use Rattle.rules.specs.Basic.{all}
use Rattle.rules.specs.Hex.{ascii, digits, pairs, hex}
use Rattle.rules.specs.Run.{Turn}
use Rattle.laws.proofs.Tests.{and_left, and_right}
use Rattle.demands.proofs.Witnesses.{room, P3, P4, last_byte, last_byte_back, on_F1D0, on_F1E0, in_turn, taken_in_turn, two_lists, begun}
use Rattle.runs.specs.Lists.{Given, by_rules, laid_out, Representable, InTypes}
use Rattle.runs.specs.Demand.{SideBySide, LibraryRun, library_run, IsRun, ran}
use Rattle.runs.proofs.LaidOut.{laid_out_given, every_list_laid_out}
use Rattle.runs.proofs.Demand3.{runs_mix}

-- bytes, by a test
bytes : (l : List ℕ) → all (map (λ n. ltb n 256) l) ≡ true → All (λ n. n < 256) l
unfolding all
bytes [] h = tt
bytes (n ∷ l) h = (ltb-true n 256 (and_left (ltb n 256) _ h), bytes l (and_right (ltb n 256) _ h))

pub in_turn_fits : Representable in_turn
unfolding in_turn P3 P4 last_byte last_byte_back room hex pairs digits ascii all flat_map
in_turn_fits =
    let commands : length (flat_map (λ (t : Turn). t.command) in_turn) ≡ 45 = refl in
    let rooms : length (flat_map (λ (t : Turn). t.room) in_turn) ≡ 256 = refl in
    let count : length in_turn ≡ 4 = refl in
    search (bytes P3 refl, bytes P4 refl, bytes last_byte refl, bytes last_byte_back refl, bytes room refl, arith) depth 8

pub in_turn_laid_out : InTypes (laid_out in_turn begun) × Given in_turn begun (laid_out in_turn begun)
in_turn_laid_out = every_list_laid_out in_turn begun in_turn_fits

-- a call of `run` on a list so laid out
abbrev run_of : List Turn → LibraryRun
run_of ts = library_run (laid_out ts begun) (by_rules (laid_out ts begun))

pub is_run : (ts : List Turn) → IsRun (run_of ts)
is_run ts = refl

pub mixed_runs : SideBySide taken_in_turn begun (ran (run_of in_turn)) (ran (run_of (on_F1D0 ++ on_F1E0))) (ran (run_of (on_F1E0 ++ on_F1D0)))
mixed_runs =
    runs_mix taken_in_turn begun two_lists (run_of in_turn) (run_of (on_F1D0 ++ on_F1E0)) (run_of (on_F1E0 ++ on_F1D0))
    (is_run in_turn) (is_run (on_F1D0 ++ on_F1E0)) (is_run (on_F1E0 ++ on_F1D0))
    in_turn_laid_out.1 (laid_out_given _ begun) (laid_out_given _ begun)
