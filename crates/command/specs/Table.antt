-- What the command table says of each row, and the row of a Cmd and a Param.
use Rattle.std.specs.Prelude.{ℕ, ◌+◌, ◌≤◌, true, ◌&&◌, List, [], ◌∷◌, ◌≡◌, eqb, length, if◌then◌else◌}
use Rattle.rules.specs.declared.Action.{Action}
use Rattle.rules.specs.declared.Action.TheVariants.{GetData, GetMetadata, Write, EraseAndWrite, SetMetadata, Count, Append, Acknowledge}
use Rattle.rules.specs.declared.Row.{Row}
use Rattle.rules.specs.declared.Row.TheVariants.{OnObject, OpenApplication, CloseApplication, Unknown}
use Rattle.rules.specs.declared.Sizes.{Sizes}
use Rattle.rules.specs.Command.{Line, between, exactly, at_least, sent_body}
use Rattle.rules.specs.Queue.{body_allowed}

unfoldable pub row_in : List Line → ℕ → ℕ → Row
row_in [] c p = Unknown
row_in (l ∷ ls) c p = let rest = row_in ls c p in if eqb c l.cmd && eqb p l.param then l.row else rest

-- how many bytes InData may have
abbrev pub action_sizes : Action → Sizes
action_sizes GetData = exactly 6
action_sizes GetMetadata = exactly 2
action_sizes Write = at_least 5
action_sizes EraseAndWrite = at_least 5
action_sizes SetMetadata = at_least 4
action_sizes Count = exactly 5
action_sizes Append = between 3 202
action_sizes Acknowledge = exactly 6

abbrev pub row_sizes : Row → Sizes
row_sizes (OnObject a) = action_sizes a
row_sizes OpenApplication = exactly 16
row_sizes CloseApplication = exactly 0
row_sizes Unknown = between 1 0

-- a command has the bytes that its action asks at least
abbrev pub InFull : Action → List ℕ → Type 0
InFull a c = (action_sizes a).least + 4 ≤ length c

-- and of an append, a body that is allowed
abbrev pub BodySent : Action → List ℕ → Type 0
BodySent a c = a ≡ Append → body_allowed (sent_body c) ≡ true
