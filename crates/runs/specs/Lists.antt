-- The list of commands that given buffers are, and what a run of it leaves in them.
use Rattle.std.specs.Prelude.{ℕ, zero, suc, ◌*◌, ◌^◌, ◌<◌, min, ◌≡◌, length, get_or, take, drop}
use mathlib.Core.List.{List, [], ◌∷◌, ◌++◌, map, flat_map}
use Rattle.mixing.specs.Runs.{All}
use Rattle.rules.specs.declared.Session.{Session}
use Rattle.rules.specs.Basic.{zeros}
use Rattle.rules.specs.Step.{After, step}
use Rattle.rules.specs.Run.{Turn, Reply, Kept, run}
use Rattle.primitives.specs.Bytes.{over}

-- what a run of the library is lent: all commands end to end and their sizes, all rooms end to end and theirs, a byte for the
-- outcome number of each command, and the beginning
pub record Lent : Type 0 where
  pub commands : List ℕ
  pub sizes : List ℕ
  pub rooms : List ℕ
  pub spaces : List ℕ
  pub outcomes : List ℕ
  pub store : List ℕ
  pub session : Session

-- what it leaves
pub record Returned : Type 0 where
  pub rooms : List ℕ
  pub outcomes : List ℕ
  pub store : List ℕ
  pub session : Session

-- the size of the next piece: the next size, 0 where there is none, and no more than there is
abbrev pub width : List ℕ → List ℕ → ℕ
width sizes l = min (get_or sizes 0 0) (length l)

-- n commands cut one after another, each with its room
unfoldable pub cut : ℕ → (commands sizes rooms spaces : List ℕ) → List Turn
cut zero commands sizes rooms spaces = []
cut (suc n) commands sizes rooms spaces =
    record { command = take (width sizes commands) commands; room = take (width spaces rooms) rooms }
    ∷ cut n (drop (width sizes commands) commands) (drop 1 sizes) (drop (width spaces rooms) rooms) (drop 1 spaces)

-- what lies behind n rooms
unfoldable pub behind : ℕ → (rooms spaces : List ℕ) → List ℕ
behind zero rooms spaces = rooms
behind (suc n) rooms spaces = behind n (drop (width spaces rooms) rooms) (drop 1 spaces)

-- the list of commands that is lent, and the beginning
abbrev pub turns : Lent → List Turn
turns l = cut (length l.outcomes) l.commands l.sizes l.rooms l.spaces

abbrev pub begun : Lent → Kept
begun l = record { store = l.store; session = l.session }

-- these commands are lent, with this beginning
pub record Given (ts : List Turn) (k : Kept) (l : Lent) : Type 0 where
  pub commands : turns l ≡ ts
  pub beginning : begun l ≡ k

-- what a run leaves: the rules' answers to the same commands from the same beginning, and the rooms' unused end as it was
unfoldable pub by_rules : Lent → Returned
by_rules l =
    let a = run (turns l) (begun l) in
    record {
      rooms = flat_map (λ (r : Reply). r.room) a.replies ++ behind (length l.outcomes) l.rooms l.spaces;
      outcomes = map (λ (r : Reply). r.outcome) a.replies;
      store = a.kept.store;
      session = a.kept.session;
    }

-- a call's own values
abbrev pub lent : (commands sizes rooms spaces outcomes store : List ℕ) → Session → Lent
lent commands sizes rooms spaces outcomes store session =
    record { commands = commands; sizes = sizes; rooms = rooms; spaces = spaces; outcomes = outcomes; store = store; session = session }

abbrev pub returned : (rooms outcomes store : List ℕ) → Session → Returned
returned rooms outcomes store session = record { rooms = rooms; outcomes = outcomes; store = store; session = session }

-- the rules' answer to the command of n bytes at `at`, in the room of m bytes at `to`
abbrev pub told : (commands rooms store : List ℕ) → Session → (at n to m : ℕ) → After
told commands rooms store session at n to m = step (take n (drop at commands)) (take m (drop to rooms)) store session

-- a command's answer with its room at its place among all rooms
abbrev pub in_place : ℕ → List ℕ → After → After
in_place to rooms a = record { outcome = a.outcome; room = over to a.room rooms; store = a.store; session = a.session }

-- any list of commands laid out for a run from a beginning ---------------------------------------------------------------------

abbrev pub laid_out : List Turn → Kept → Lent
laid_out ts k =
    record {
      commands = flat_map (λ (t : Turn). t.command) ts;
      sizes = map (λ (t : Turn). length t.command) ts;
      rooms = flat_map (λ (t : Turn). t.room) ts;
      spaces = map (λ (t : Turn). length t.room) ts;
      outcomes = zeros (length ts);
      store = k.store;
      session = k.session;
    }

-- the commands' and the rooms' bytes are bytes, and there are no more of them than slices hold
pub record Representable (ts : List Turn) : Type 0 where
  pub command_bytes : All (λ t. All (λ n. n < 256) t.command) ts
  pub room_bytes : All (λ t. All (λ n. n < 256) t.room) ts
  pub commands_fit : length (flat_map (λ (t : Turn). t.command) ts) < 2 ^ 63
  pub rooms_fit : length (flat_map (λ (t : Turn). t.room) ts) < 2 ^ 63
  pub count_fits : 8 * length ts < 2 ^ 63

-- a slice of u8, and one of usize: what each element holds, and no more bytes than a slice may have
pub record OfBytes (l : List ℕ) : Type 0 where
  pub each : All (λ n. n < 256) l
  pub room : length l < 2 ^ 63

pub record OfSizes (l : List ℕ) : Type 0 where
  pub each : All (λ n. n < 2 ^ 64) l
  pub room : 8 * length l < 2 ^ 63

-- the buffers are values of the parameters' types
pub record InTypes (l : Lent) : Type 0 where
  pub commands : OfBytes l.commands
  pub sizes : OfSizes l.sizes
  pub rooms : OfBytes l.rooms
  pub spaces : OfSizes l.spaces
  pub outcomes : OfBytes l.outcomes
