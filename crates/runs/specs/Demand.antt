-- Demand 3 of runs of the library.
use Rattle.std.specs.Prelude.{ℕ, zero, suc, ◌≡◌, List, [], ◌∷◌, ◌++◌, length, get_or, take, drop}
use Rattle.std.specs.Borrow.{Bor, MutBor}
use denote.Triple.Both.{Both}
use Rattle.mixing.specs.Runs.{Mix, of_first, of_second}
use Rattle.rules.specs.declared.Session.{Session}
use Rattle.rules.specs.Run.{Turn, Reply, Kept, Ran, run}
use Rattle.demands.specs.Demand.{TwoLists}
use Rattle.element.specs.declared.Answer.{Answer}
use Rattle.element.specs.Executed.{Executes}
use Rattle.runs.specs.Lists.{Lent, Returned, Given, width, by_rules, lent, returned}

-- Three runs side by side, from one beginning k: of the mix, of the first list and then the second (here), and of the second and
-- then the first (there).
pub record SideBySide {xs ys zs : List Turn} (m : Mix xs ys zs) (k : Kept) (mix here there : Ran) : Type 0 where
  -- every command, known by its list and its number in it, has the same outcome number and room in all three
  pub first_here : of_first m mix.replies ≡ take (length xs) here.replies
  pub second_here : of_second m mix.replies ≡ drop (length xs) here.replies
  pub first_there : of_first m mix.replies ≡ drop (length ys) there.replies
  pub second_there : of_second m mix.replies ≡ take (length ys) there.replies
  -- every byte of the store and every part of the session ends the same
  pub store_here : mix.kept.store ≡ here.kept.store
  pub store_there : mix.kept.store ≡ there.kept.store
  pub session_here : mix.kept.session ≡ here.kept.session
  pub session_there : mix.kept.session ≡ there.kept.session
  -- each is the rules' run of the same commands from the same beginning
  pub mix_by_rules : mix ≡ run zs k
  pub here_by_rules : here ≡ run (xs ++ ys) k
  pub there_by_rules : there ≡ run (ys ++ xs) k

-- runs made by `run` ---------------------------------------------------------------------------------------------------------

-- a call of `run`: what it was lent and what it left
pub record LibraryRun : Type 0 where
  pub lent : Lent
  pub left : Returned

abbrev pub library_run : Lent → Returned → LibraryRun
library_run l r = record { lent = l; left = r }

-- a slice that is lent: as it was, and as it came back
abbrev pub Slice : Type 0
Slice = Both (Bor (List ℕ)) (Bor (List ℕ))

-- a slice that is lent to be written: as it was, and as it came back
abbrev pub MutSlice : Type 0
MutSlice = Both (MutBor (List ℕ)) (MutBor (List ℕ))

-- a call by its parameters and its result
abbrev pub called : (commands sizes : Slice) (store : MutSlice) → Session → (rooms : MutSlice) (spaces : Slice) (outcomes : MutSlice) → Session
    → LibraryRun
called commands sizes store session rooms spaces outcomes r =
    library_run
    (lent commands.entry.now sizes.entry.now rooms.entry.now spaces.entry.now outcomes.entry.now store.entry.now session)
    (returned rooms.exit.now outcomes.exit.now store.exit.now r)

-- what the contract of `run` says of a call
abbrev pub IsRun : LibraryRun → Type 0
IsRun u = u.left ≡ by_rules u.lent

-- n replies, read in place: the outcome number and all bytes of the room of each command
unfoldable pub read : ℕ → (outcomes rooms spaces : List ℕ) → List Reply
read zero outcomes rooms spaces = []
read (suc n) outcomes rooms spaces =
    record { outcome = get_or outcomes 0 0; room = take (width spaces rooms) rooms }
    ∷ read n (drop 1 outcomes) (drop (width spaces rooms) rooms) (drop 1 spaces)

-- what the host finds in the buffers afterwards
abbrev pub ran : LibraryRun → Ran
ran u =
    record {
      replies = read (length u.lent.outcomes) u.left.outcomes u.left.rooms u.lent.spaces;
      kept = record { store = u.left.store; session = u.left.session };
    }

-- Three calls of `run`. Each is the rules' run of what it was lent, and demand 3 holds of them: for all lists and mixes
pub record ThreeRuns (mix here there : LibraryRun) : Type 0 where
  pub mix_is_run : IsRun mix
  pub here_is_run : IsRun here
  pub there_is_run : IsRun there
  pub side_by_side : {xs ys zs : List Turn} (m : Mix xs ys zs) (k : Kept) → TwoLists xs ys k
      → Given zs k mix.lent → Given (xs ++ ys) k here.lent → Given (ys ++ xs) k there.lent
      → SideBySide m k (ran mix) (ran here) (ran there)

-- runs made by any host that calls `execute` itself --------------------------------------------------------------------------

-- Calls of `execute` one after another, each on the store and session that the one before left; each meets its contract
pub data Calls : List Turn → Kept → Ran → Type 0 where
  over : {k : Kept} → Calls [] k (record { replies = []; kept = k })
  call : {t : Turn} {ts : List Turn} {store : List ℕ} {session : Session} {later : Ran} (r : Answer) (room' store' : List ℕ)
      → Executes t.command t.room store session r room' store'
      → Calls ts (record { store = store'; session = r.session }) later
      → Calls (t ∷ ts) (record { store = store; session = session })
      (record { replies = record { outcome = r.outcome; room = room' } ∷ later.replies; kept = later.kept })
