-- The session with one part changed, and its three objects.
use Rattle.std.specs.Prelude.{ℕ, Bool, List, [], ◌∷◌, eqb, if◌then◌else◌}
use Rattle.rules.specs.declared.Session.{Session}
use Rattle.rules.specs.declared.Kind.{Kind}
use Rattle.rules.specs.declared.Kind.TheVariants.{LifeCycle, Status}
use Rattle.rules.specs.Expression.{Expression, always, never}
use Rattle.rules.specs.Object.{Object, is}

-- one part changed ----------------------------------------------------------------------------------------------------

unfoldable pub with_opened : Bool → Session → Session
with_opened b s = record { opened = b; lcsg = s.lcsg; lcsa = s.lcsa; error = s.error }

unfoldable pub with_lcsg : ℕ → Session → Session
with_lcsg n s = record { opened = s.opened; lcsg = n; lcsa = s.lcsa; error = s.error }

unfoldable pub with_lcsa : ℕ → Session → Session
with_lcsa n s = record { opened = s.opened; lcsg = s.lcsg; lcsa = n; error = s.error }

unfoldable pub with_error : ℕ → Session → Session
with_error n s = record { opened = s.opened; lcsg = s.lcsg; lcsa = s.lcsa; error = n }

-- a life cycle written, where the number is that of one
unfoldable pub with_state : ℕ → ℕ → Session → Session
with_state number n s =
    if eqb number 0xE0C0 then with_lcsg n s else
    (if eqb number 0xF1C0 then with_lcsa n s else
    s)

-- its objects ---------------------------------------------------------------------------------------------------------

-- writing either life cycle is always granted, writing F1C2 never
unfoldable pub session_change : Kind → Expression
session_change k = if is LifeCycle k then always else never

-- one byte each, used and maximum 1; a life cycle's own state is its byte; reading is always granted
unfoldable pub session_object : ℕ → Kind → ℕ → Object
session_object n k byte =
    record { number = n; kind = k; maximum = 1; lcso = byte; change = session_change k; read = always; execute = never; content = byte ∷ [] }

unfoldable pub session_objects : Session → List Object
session_objects s =
    session_object 0xE0C0 LifeCycle s.lcsg ∷
    session_object 0xF1C0 LifeCycle s.lcsa ∷
    session_object 0xF1C2 Status s.error ∷ []
