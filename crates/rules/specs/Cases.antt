-- Cases that antt computes from the rules, and when each is right. What a case expects is written by hand, with no rule's own function.
use Rattle.std.specs.Prelude.{ℕ, ◌-◌, Bool, true, false, ◌&&◌, List, [], ◌∷◌, ◌++◌, eqb, length, take, replicate}
use Rattle.std.specs.Bool.{beq}
use Rattle.std.proofs.Math.Option.{Option, none, some}
use Rattle.rules.specs.declared.Session.{Session}
use Rattle.rules.specs.Basic.{all, same, is_some, or_else}
use Rattle.rules.specs.Hex.{hex}
use Rattle.rules.specs.Expression.{expression, never}
use Rattle.rules.specs.Access.{seen, holds}
use Rattle.rules.specs.Layout.{unpack}
use Rattle.rules.specs.Factory.{factory_store, fresh_session, factory_outcome, factory_made}
use Rattle.rules.specs.Step.{After, step}
use Rattle.rules.specs.Run.{Turn, Reply, Ran, run, reads_or_writes}
use Rattle.rules.specs.Program.{printed}
use Rattle.rules.specs.Command.{object_of}

-- sessions by hand -------------------------------------------------------------------------------------------------------

-- open or closed, LcsG, LcsA, last error
abbrev pub session : Bool → ℕ → ℕ → ℕ → Session
session opened lcsg lcsa error = record { opened = opened; lcsg = lcsg; lcsa = lcsa; error = error }

-- open, and closed, at LcsG 01 and LcsA 01 with this last error
abbrev pub opened : ℕ → Session
opened error = session true 0x01 0x01 error

abbrev pub closed : ℕ → Session
closed error = session false 0x01 0x01 error

unfoldable pub same_session : Session → Session → Bool
same_session a b = all (beq a.opened b.opened ∷ eqb a.lcsg b.lcsg ∷ eqb a.lcsa b.lcsa ∷ eqb a.error b.error ∷ [])

-- exchanges --------------------------------------------------------------------------------------------------------------

pub data Expected : Type 0 where
  -- done, with this response
  response : List ℕ → Expected
  -- refused: the refusal's own number, and the last error that it leaves
  refusal : ℕ → ℕ → Expected
  -- outcome 1 and nothing changed
  nothing : Expected

-- a command in a room of so many bytes EE, and what is expected of it
pub record Exchange : Type 0 where
  pub space : ℕ
  pub command : List ℕ
  pub expected : Expected

infix 68 ◌gives◌ ◌refused◌leaving◌
unfoldable pub ◌gives◌ : List ℕ → List ℕ → Exchange
c gives r = record { space = 64; command = c; expected = response r }

unfoldable pub ◌refused◌leaving◌ : List ℕ → ℕ → ℕ → Exchange
c refused n leaving m = record { space = 64; command = c; expected = refusal n m }

unfoldable pub unanswered_in : ℕ → List ℕ → Exchange
unanswered_in n c = record { space = n; command = c; expected = nothing }

-- the same exchange in a room of n bytes
unfoldable pub in_room : ℕ → Exchange → Exchange
in_room n e = record { space = n; command = e.command; expected = e.expected }

unfoldable pub room_of : ℕ → List ℕ
room_of n = replicate n 0xEE

-- the response of a command that is done and answers no data
unfoldable pub done_empty : List ℕ
done_empty = hex "00 00 00 00"

-- outcome 0, the response, and the room's bytes past it as they were
unfoldable pub responds : ℕ → List ℕ → After → Bool
responds space r a = eqb a.outcome 0 && same a.room (r ++ room_of (space - length r))

-- `a` is left of a store and session; `alone` where the last error was 0 before, so that the refusal's own number is left
unfoldable pub as_expected : Expected → ℕ → List ℕ → Session → After → After → Bool
as_expected (response r) space store s a alone = responds space r a
as_expected (refusal n m) space store s a alone =
    all
    (responds space (hex "FF 00 00 00") a ∷
    same a.store store ∷
    same_session a.session (session s.opened s.lcsg s.lcsa m) ∷
    responds space (hex "FF 00 00 00") alone ∷
    eqb alone.session.error n ∷ [])
as_expected nothing space store s a alone =
    all (eqb a.outcome 1 ∷ same a.room (room_of space) ∷ same a.store store ∷ same_session a.session s ∷ [])

-- each exchange on what the one before left; at the end this session
unfoldable pub talk_right : List Exchange → List ℕ → Session → Session → Bool
talk_right [] store s end = same_session s end
talk_right (e ∷ es) store s end =
    let a = step e.command (room_of e.space) store s in
    let alone = step e.command (room_of e.space) store (session s.opened s.lcsg s.lcsa 0) in
    as_expected e.expected e.space store s a alone && talk_right es a.store a.session end

-- the store after exchanges
unfoldable pub store_after : List Exchange → List ℕ → Session → List ℕ
store_after [] store s = store
store_after (e ∷ es) store s = let a = step e.command (room_of e.space) store s in store_after es a.store a.session

-- runs -------------------------------------------------------------------------------------------------------------------

-- a command with its room
unfoldable pub turn : List ℕ → List ℕ → Turn
turn c room = record { command = c; room = room }

unfoldable pub told : ℕ → List ℕ → Reply
told outcome room = record { outcome = outcome; room = room }

unfoldable pub same_replies : List Reply → List Reply → Bool
same_replies [] [] = true
same_replies [] (q ∷ qs) = false
same_replies (p ∷ ps) [] = false
same_replies (p ∷ ps) (q ∷ qs) = eqb p.outcome q.outcome && same p.room q.room && same_replies ps qs

-- cases ------------------------------------------------------------------------------------------------------------------

unfoldable pub same_number : Option ℕ → Option ℕ → Bool
same_number none none = true
same_number none (some m) = false
same_number (some n) none = false
same_number (some n) (some m) = eqb n m

pub data Case : Type 0 where
  -- exchanges from a store and a session, and the session that they end with
  talk : List ℕ → Session → List Exchange → Session → Case
  -- exchanges from a store and a session, and the store that they end with
  stores : List ℕ → Session → List Exchange → List ℕ → Case
  -- an expression, at a session and an LcsO, holds or not
  judge : List ℕ → Session → ℕ → Bool → Case
  -- bytes are an expression or not
  written : List ℕ → Bool → Case
  -- bytes are a well-formed store or not
  sound : List ℕ → Bool → Case
  -- the factory store begins so; is this
  begins whole : List ℕ → Case
  -- the factory maker on a buffer: its outcome, and the buffer after it
  makes : List ℕ → ℕ → List ℕ → Case
  -- the fresh session
  starts : Session → Case
  -- a read or write command or not
  reads_writes : List ℕ → Bool → Case
  -- the object number that a get or set names
  names : List ℕ → Option ℕ → Case
  -- a run from a store and a session: its replies, and the store and session at its end
  runs : List ℕ → Session → List Turn → List Reply → List ℕ → Session → Case
  -- the program reads and prints
  prints : List ℕ → List ℕ → Case

unfoldable pub run_right : Ran → List Reply → List ℕ → Session → Bool
run_right r replies store s = all (same_replies r.replies replies ∷ same r.kept.store store ∷ same_session r.kept.session s ∷ [])

unfoldable pub right : Case → Bool
right (talk store s es end) = talk_right es store s end
right (stores store s es end) = same (store_after es store s) end
right (judge b s lcso answer) = is_some (expression b) && beq (holds (seen [] s) lcso (or_else (expression b) never)) answer
right (written b answer) = beq (is_some (expression b)) answer
right (sound b answer) = beq (is_some (unpack b)) answer
right (begins b) = same (take (length b) factory_store) b
right (whole b) = same factory_store b
right (makes buffer outcome after) = eqb (factory_outcome buffer) outcome && same (factory_made buffer) after
right (starts s) = same_session fresh_session s
right (reads_writes c answer) = beq (reads_or_writes c) answer
right (names c n) = same_number (object_of c) n
right (runs store s ts replies store' s') = run_right (run ts (record { store = store; session = s })) replies store' s'
right (prints input text) = same (printed input) text

unfoldable pub all_right : List Case → Bool
all_right [] = true
all_right (c ∷ cs) = right c && all_right cs
