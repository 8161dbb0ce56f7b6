-- What a host in C sees of one command: the session in four bytes, and what a call leaves.
use Rattle.std.specs.Prelude.{ℕ, max, Bool, true, false, not, List, ◌≡◌, eqb}
use Rattle.rules.specs.declared.Session.{Session}
use Rattle.rules.specs.Step.{After, step}
use Rattle.firmware.specs.declared.HostSession.{HostSession}

-- the session that four bytes tell: opened is 0 for closed, any other byte for open
unfoldable pub session_of : HostSession → Session
session_of b = record { opened = not (eqb b.opened 0); lcsg = b.lcsg; lcsa = b.lcsa; error = b.error }

-- opened, where it was a byte: it keeps that byte while it tells the same, else it is 1 or 0
unfoldable pub opened_byte : ℕ → Bool → ℕ
opened_byte was true = max was 1
opened_byte was false = 0

-- the bytes of a session, where it was these
unfoldable pub bytes_of : HostSession → Session → HostSession
bytes_of was s = record { opened = opened_byte was.opened s.opened; lcsg = s.lcsg; lcsa = s.lcsa; error = s.error }

-- what a call leaves
pub record HostAfter : Type 0 where
  pub outcome : ℕ
  pub room : List ℕ
  pub store : List ℕ
  pub session : HostSession

abbrev pub left : ℕ → List ℕ → List ℕ → HostSession → HostAfter
left outcome room store session = record { outcome = outcome; room = room; store = store; session = session }

-- what stands after a command by the rules, with the session in bytes
abbrev pub in_bytes : HostSession → After → HostAfter
in_bytes was a = left a.outcome a.room a.store (bytes_of was a.session)

-- what a call of `element_execute` leaves, by the rules
abbrev pub HostExecutes : (c room store : List ℕ) (was : HostSession) → HostAfter → Type 0
HostExecutes c room store was l = l ≡ in_bytes was (step c room store (session_of was))
