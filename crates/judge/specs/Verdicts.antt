-- What an action's own steps and step 13 say, by what the code knows of the object.
use Rattle.std.specs.Prelude.{ℕ, ◌+◌, not, List, [], leb, length, get_or, Err}
use Rattle.rules.specs.declared.Kind.{Kind}
use Rattle.rules.specs.declared.Kind.TheVariants.{LifeCycle}
use Rattle.rules.specs.declared.Action.{Action}
use Rattle.rules.specs.declared.Action.TheVariants.{GetData, GetMetadata, Write, EraseAndWrite, SetMetadata, Count, Append, Acknowledge}
use Rattle.rules.specs.declared.Refusal.TheVariants.{InvalidParam, AccessDenied, BoundaryExceeded, InvalidData}
use Rattle.rules.specs.Verdict.{Verdict}
use Rattle.rules.specs.Command.{offset, sent_data}
use Rattle.rules.specs.Expression.{may_become}
use Rattle.rules.specs.Object.{Object, is}
use Rattle.rules.specs.Factory.{fresh_session}
use Rattle.rules.specs.Session.{session_object}
use Rattle.rules.specs.Chain.{◌refused◌or◌, ◌and_then◌}
use Rattle.rules.specs.Access.{seen}
use Rattle.rules.specs.Operation.{operation}
use Rattle.rules.specs.Refusals.{fitting}

-- an action's own steps, as the rules have them, and step 13: none looks at what is seen
abbrev pub own_verdict : Action → List ℕ → Object → ℕ → Verdict
own_verdict a c o room =
    let p = operation a c o (seen [] fresh_session) in
    p.verdict and_then fitting (length p.answer) room

-- a write to an object of the session, access included
abbrev pub state_verdict : List ℕ → Kind → ℕ → ℕ → Verdict
state_verdict c k byte room =
    not (is LifeCycle k) refused AccessDenied or
    not (leb (offset c + length (sent_data c)) 1) refused BoundaryExceeded or
    not (may_become byte (get_or (sent_data c) 0 0)) refused InvalidData or
    fitting 0 room

-- a count, an append or an acknowledgement at an object of the session, access included
abbrev pub session_refused : Kind → Verdict
session_refused k =
    is LifeCycle k refused InvalidParam or
    Err AccessDenied

-- each action at an object of the session, access included; the number of the object read does not count
abbrev pub session_verdict : Action → List ℕ → Kind → ℕ → ℕ → Verdict
session_verdict GetData c k byte room = own_verdict GetData c (session_object 0 k byte) room
session_verdict GetMetadata c k byte room = Err AccessDenied
session_verdict Write c k byte room = state_verdict c k byte room
session_verdict EraseAndWrite c k byte room = state_verdict c k byte room
session_verdict SetMetadata c k byte room = Err AccessDenied
session_verdict Count c k byte room = session_refused k
session_verdict Append c k byte room = session_refused k
session_verdict Acknowledge c k byte room = session_refused k
