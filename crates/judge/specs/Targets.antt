-- The object that each target is.
use Rattle.std.specs.Prelude.{ℕ, true, List, [], ◌≡◌, Some, None}
use Rattle.std.proofs.Math.Option.{Option, none, some}
use Rattle.rules.specs.Basic.{or_else}
use Rattle.rules.specs.Command.{object_number}
use Rattle.rules.specs.Object.{Object, of_session}
use Rattle.rules.specs.Layout.{unpack, found}
use Rattle.rules.specs.Session.{session_object}
use Rattle.record.specs.Places.{object_at, Stored}
use Rattle.judge.specs.declared.Target.TheVariants.{InSession, InStore}
use Rattle.judge.specs.Aims.{Aim}

unfoldable pub target_object : Aim → List ℕ → Option Object
target_object (Some (InSession n k byte)) b = some (session_object n.0 k byte)
target_object (Some (InStore p)) b = some (object_at p b)
target_object None b = none

-- what is known of a target: the kind is the session's; a record stands there, found under the command's object number
abbrev pub Placed : Aim → List ℕ → List ℕ → Type 0
Placed (Some (InSession n k byte)) c b = of_session k ≡ true
Placed (Some (InStore p)) c b = Stored p b × (found (object_number c) (or_else (unpack b) []) ≡ Some p)
Placed None c b = Unit
