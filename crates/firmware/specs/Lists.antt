-- What a host in C sees of a list of commands.
use Rattle.std.specs.Prelude.{ℕ, zero, suc, ◌-◌, Bool, true, ◌&&◌, List, ◌≡◌, ltb, leb, length, get_or, drop, if◌then◌else◌}
use Rattle.runs.specs.Lists.{Lent, by_rules, lent}
use Rattle.runs.specs.Demand.{Slice, MutSlice}
use Rattle.firmware.specs.declared.HostSession.{HostSession}
use Rattle.firmware.specs.Host.{session_of, bytes_of}

-- n sizes are there, and each is no more than those before it leave of the total
unfoldable pub all_fit : ℕ → List ℕ → ℕ → Bool
all_fit zero sizes total = true
all_fit (suc n) sizes total = ltb 0 (length sizes) && leb (get_or sizes 0 0) total && all_fit n (drop 1 sizes) (total - get_or sizes 0 0)

-- every command has its size and its room
unfoldable pub laid_well : Lent → Bool
laid_well l = all_fit (length l.outcomes) l.sizes (length l.commands) && all_fit (length l.outcomes) l.spaces (length l.rooms)

-- what a call leaves
pub record ListLeft : Type 0 where
  pub outcome : ℕ
  pub rooms : List ℕ
  pub outcomes : List ℕ
  pub store : List ℕ
  pub session : HostSession

abbrev pub list_left : ℕ → List ℕ → List ℕ → List ℕ → HostSession → ListLeft
list_left outcome rooms outcomes store session = record { outcome = outcome; rooms = rooms; outcomes = outcomes; store = store; session = session }

-- the rules' run of what was lent, with the session in bytes; outcome 2 and nothing changed where it was not laid out well
unfoldable pub list_in_bytes : HostSession → Lent → ListLeft
list_in_bytes was l =
    if laid_well l
    then (let a = by_rules l in list_left 0 a.rooms a.outcomes a.store (bytes_of was a.session))
    else list_left 2 l.rooms l.outcomes l.store was

-- what a call of `element_run` leaves, by the rules; l has the session that the bytes tell
abbrev pub HostRuns : (l : Lent) (was : HostSession) → ListLeft → Type 0
HostRuns l was r = r ≡ list_in_bytes was l

-- the same, by the parameters of the call and what it answers
abbrev pub HostRun : (commands sizes : Slice) (store : MutSlice) → HostSession → (rooms : MutSlice) (spaces : Slice) (outcomes : MutSlice)
    → ℕ → HostSession → Type 0
HostRun commands sizes store was rooms spaces outcomes outcome session =
    HostRuns
    (lent commands.entry.now sizes.entry.now rooms.entry.now spaces.entry.now outcomes.entry.now store.entry.now (session_of was))
    was
    (list_left outcome rooms.exit.now outcomes.exit.now store.exit.now session)
