-- Demand 3 of runs of the library.
use Prim.Native.Nat.{ℕ, zero, suc}
use mathlib.Core.Path.{◌≡◌, refl, ◌∙◌}
use mathlib.Core.List.{List, [], ◌∷◌, ◌++◌, map, flat_map, append_assoc}
use native.Mathlib.Omega.{arith}
use lib.ListN.{length, take, drop, length-append, length-drop}
use lib.Seq.{take_at, drop_at, length-take-le}
use Rattle.mixing.specs.Runs.{answers, end, Mix, Mixed}
use Rattle.rules.specs.Step.{After, step}
use Rattle.rules.specs.Run.{Turn, Reply, Kept, Ran, reply, left, run}
use Rattle.demands.specs.Demand.{TwoLists}
use Rattle.laws.proofs.Keeps.{step_room_length}
use Rattle.demands.proofs.Demand3.{lists_mix}
use Rattle.runs.specs.Lists.{Given, width, cut, behind, begun, by_rules}
use Rattle.runs.specs.Demand.{SideBySide, LibraryRun, IsRun, read, ran, ThreeRuns, Calls, over, call}

-- what is read in place are the rules' replies --------------------------------------------------------------------------------

abbrev replies : ℕ → (commands sizes rooms spaces : List ℕ) → Kept → List Reply
replies n commands sizes rooms spaces k = answers reply left (cut n commands sizes rooms spaces) k

-- all rooms, as a run leaves them
abbrev rooms_left : ℕ → (commands sizes rooms spaces : List ℕ) → Kept → List ℕ
rooms_left n commands sizes rooms spaces k = flat_map (λ (r : Reply). r.room) (replies n commands sizes rooms spaces k) ++ behind n rooms spaces

-- they are as long as they were, and what is read there are the replies
read_back : (n : ℕ) (commands sizes rooms spaces : List ℕ) (k : Kept) →
    (length (rooms_left n commands sizes rooms spaces k) ≡ length rooms) ×
    (read n (map (λ (r : Reply). r.outcome) (replies n commands sizes rooms spaces k)) (rooms_left n commands sizes rooms spaces k) spaces
    ≡ replies n commands sizes rooms spaces k)
unfolding read cut answers flat_map behind reply
read_back zero commands sizes rooms spaces k = (refl, refl)
read_back (suc n) commands sizes rooms spaces k =
    let w : ℕ = width spaces rooms in
    let t : Turn = record { command = take (width sizes commands) commands; room = take w rooms } in
    let later : List ℕ = rooms_left n (drop (width sizes commands) commands) (drop 1 sizes) (drop w rooms) (drop 1 spaces) (left t k) in
    let (l, ih) = read_back n (drop (width sizes commands) commands) (drop 1 sizes) (drop w rooms) (drop 1 spaces) (left t k) in
    let own : length (reply t k).room ≡ w = step_room_length t.command t.room k.store k.session ∙ length-take-le w rooms (omega arith) in
    let all : length ((reply t k).room ++ later) ≡ length rooms = length-append (reply t k).room later ∙ omega (arith, length-drop w rooms) in
    (rw append_assoc all, rw (append_assoc, all, take_at (reply t k).room later w own, drop_at (reply t k).room later w own, ih))

-- what a call of `run` gives is the rules' run of the commands that it was lent
pub run_by_rules : (u : LibraryRun) → IsRun u → {ts : List Turn} {k : Kept} → Given ts k u.lent → ran u ≡ run ts k
unfolding by_rules run
run_by_rules u h g =
    let l = u.lent in
    rw (h, (read_back (length l.outcomes) l.commands l.sizes l.rooms l.spaces (begun l)).1, ← g.commands, ← g.beginning)

-- what calls of `execute` give is the rules' run of their commands
pub calls_by_rules : {ts : List Turn} {k : Kept} {a : Ran} → Calls ts k a → a ≡ run ts k
unfolding run answers end reply left
calls_by_rules over = refl
calls_by_rules (call r room' store' e m) = let ih = calls_by_rules m in rw (ih, ← e)

-- and there are such calls for every list and beginning
pub every_list_called : (ts : List Turn) (k : Kept) → Calls ts k (run ts k)
unfolding run answers end reply left
every_list_called [] k = over
every_list_called (t ∷ ts) k =
    let a : After = step t.command t.room k.store k.session in
    call (record { outcome = a.outcome; session = a.session }) a.room a.store refl (every_list_called ts (left t k))

-- a call of `run` gives what calls of `execute` give
pub run_is_calls : (u : LibraryRun) → IsRun u → {ts : List Turn} {k : Kept} → Given ts k u.lent → Calls ts k (ran u)
run_is_calls u h {ts} {k} g = rw (run_by_rules u h g) (every_list_called ts k)

-- three runs of the rules, side by side -----------------------------------------------------------------------------------------

alike : {xs ys zs : List Turn} (m : Mix xs ys zs) (k : Kept) → TwoLists xs ys k → (mix here there : Ran)
    → mix ≡ run zs k → here ≡ run (xs ++ ys) k → there ≡ run (ys ++ xs) k → SideBySide m k mix here there
unfolding run
alike {xs} {ys} {zs} m k two mix here there p q r =
    let d : Mixed reply left xs ys zs m k = lists_mix m k two in
    rw (p, q, r) search

-- Demand 3 of any host that calls `execute` itself: for any two lists as the demand takes them, every mix of them, and any beginning
pub calls_mix : {xs ys zs : List Turn} (m : Mix xs ys zs) (k : Kept) → TwoLists xs ys k
    → {mix here there : Ran} → Calls zs k mix → Calls (xs ++ ys) k here → Calls (ys ++ xs) k there
    → SideBySide m k mix here there
calls_mix m k two {mix} {here} {there} a b c = alike m k two mix here there (calls_by_rules a) (calls_by_rules b) (calls_by_rules c)

-- and of the library's `run`, which makes such calls
pub runs_mix : {xs ys zs : List Turn} (m : Mix xs ys zs) (k : Kept) → TwoLists xs ys k
    → (mix here there : LibraryRun) → IsRun mix → IsRun here → IsRun there
    → Given zs k mix.lent → Given (xs ++ ys) k here.lent → Given (ys ++ xs) k there.lent
    → SideBySide m k (ran mix) (ran here) (ran there)
runs_mix m k two mix here there a b c p q r = calls_mix m k two (run_is_calls mix a p) (run_is_calls here b q) (run_is_calls there c r)

-- `side_by_side`
pub three_runs : (mix here there : LibraryRun) → IsRun mix → IsRun here → IsRun there → ThreeRuns mix here there
three_runs mix here there a b c =
    record { mix_is_run = a; here_is_run = b; there_is_run = c; side_by_side = λ m k two. runs_mix m k two mix here there a b c }
