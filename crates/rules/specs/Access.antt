-- What an action sees, what an access expression grants and which counters that uses up, and which expression each action asks.
use Rattle.std.specs.Prelude.{ℕ, Bool, true, false, not, ◌&&◌, List, [], ◌∷◌, ◌++◌, map, eqb, ltb, if◌then◌else◌}
use Rattle.std.proofs.Math.Option.{Option, none, some}
use Rattle.rules.specs.declared.Session.{Session}
use Rattle.rules.specs.declared.Action.{Action}
use Rattle.rules.specs.declared.Action.TheVariants.{GetData, GetMetadata, Write, EraseAndWrite, SetMetadata, Count, Append, Acknowledge}
use Rattle.rules.specs.declared.Kind.TheVariants.{Counter, Queue}
use Rattle.rules.specs.declared.Direction.TheVariants.{Up}
use Rattle.rules.specs.Basic.{among, first_of, or_else}
use Rattle.rules.specs.Expression.{Condition, names_counter, counter_number, Group, just, ◌and◌, Groups, only, ◌or◌, Expression, always, never, when}
use Rattle.rules.specs.Object.{Object, is, of_session, with_content}
use Rattle.rules.specs.Counter.{exhausted, after_count}
use Rattle.rules.specs.Layout.{unpack, find}
use Rattle.rules.specs.Session.{session_objects}

-- what an action sees: the session, and the stored objects by their numbers
pub record Seen : Type 0 where
  pub session : Session
  pub stored : ℕ → Option Object

-- these objects, with this session
unfoldable pub seen : List Object → Session → Seen
seen os s = record { session = s; stored = λ n. find n os }

-- those of a store in its bytes; a malformed one has none
abbrev pub seen_in : List ℕ → Session → Seen
seen_in b s = seen (or_else (unpack b) []) s

-- the object of a number, of the session or of the store
unfoldable pub named : ℕ → Seen → Option Object
named n see = first_of (find n (session_objects see.session)) (see.stored n)

-- what an expression grants ---------------------------------------------------------------------------------------------

-- the present state that a condition speaks of, with the object's LcsO given
unfoldable pub present : Seen → ℕ → ℕ → ℕ
present see lcso subject =
    if eqb subject 0x70 then see.session.lcsg else
    (if eqb subject 0xE0 then see.session.lcsa else
    lcso)

-- it compares the present state to the reference as numbers
unfoldable pub state_holds : Seen → ℕ → Condition → Bool
state_holds see lcso c =
    let now = present see lcso c.subject in
    if eqb c.relation 0xFA then eqb now c.reference else
    (if eqb c.relation 0xFB then ltb c.reference now else
    ltb now c.reference)

-- an up counter, and its value is below its threshold
unfoldable pub usable : Option Object → Bool
usable none = false
usable (some o) = is (Counter Up) o.kind && not (exhausted Up o.content)

unfoldable pub condition_holds : Seen → ℕ → Condition → Bool
condition_holds see lcso c = if names_counter c then usable (see.stored (counter_number c)) else state_holds see lcso c

unfoldable pub group_holds : Seen → ℕ → Group → Bool
group_holds see lcso (just c) = condition_holds see lcso c
group_holds see lcso (c and g) = condition_holds see lcso c && group_holds see lcso g

-- the counters that a condition names, and those of a group
unfoldable pub condition_counters : Condition → List ℕ
condition_counters c = if names_counter c then counter_number c ∷ [] else []

unfoldable pub group_counters : Group → List ℕ
group_counters (just c) = condition_counters c
group_counters (c and g) = condition_counters c ++ group_counters g

-- all that an expression's conditions name, whether its group decides or not
unfoldable pub groups_counters : Groups → List ℕ
groups_counters (only g) = group_counters g
groups_counters (g or gs) = group_counters g ++ groups_counters gs

unfoldable pub expression_counters : Expression → List ℕ
expression_counters always = []
expression_counters never = []
expression_counters (when gs) = groups_counters gs

-- what judging an expression answers: whether it is granted, and the counters that it then uses up
pub record Grant : Type 0 where
  pub granted : Bool
  pub counters : List ℕ

-- granted, using up these; not granted, using up none
abbrev pub grant_if : Bool → List ℕ → Grant
grant_if true ns = record { granted = true; counters = ns }
grant_if false ns = record { granted = false; counters = [] }

-- the first true group from the left decides
unfoldable pub groups_grant : Seen → ℕ → Groups → Grant
groups_grant see lcso (only g) = grant_if (group_holds see lcso g) (group_counters g)
groups_grant see lcso (g or gs) =
    let later = groups_grant see lcso gs in
    if group_holds see lcso g then grant_if true (group_counters g) else later

unfoldable pub grant : Seen → ℕ → Expression → Grant
grant see lcso always = grant_if true []
grant see lcso never = grant_if false []
grant see lcso (when gs) = groups_grant see lcso gs

-- it holds: it is granted
abbrev pub holds : Seen → ℕ → Expression → Bool
holds see lcso e = (grant see lcso e).granted

-- what a grant uses up -------------------------------------------------------------------------------------------------

-- a counter goes up by one, to the smaller of value plus one and threshold
unfoldable pub one_up : Object → Object
one_up o = with_content (after_count Up 1 o.content) o

-- each up counter of these numbers goes up by one, once
unfoldable pub used_up : List ℕ → Object → Object
used_up ns o = if is (Counter Up) o.kind && among ns o.number then one_up o else o

unfoldable pub all_used_up : List ℕ → List Object → List Object
all_used_up ns os = map (used_up ns) os

-- what each action asks -------------------------------------------------------------------------------------------------

-- the expression that an action asks of an object
unfoldable pub asked : Action → Object → Expression
-- Get data asks the read expression.
asked GetData o = o.read
-- Get metadata of a stored object is always granted; metadata of the session's three is 07.
asked GetMetadata o = if of_session o.kind then never else always
-- Writes ask the change expression as stored before the command; plain writes to a queue, erasing or not, are 07.
asked Write o = if is Queue o.kind then never else o.change
asked EraseAndWrite o = if is Queue o.kind then never else o.change
asked SetMetadata o = if of_session o.kind then never else o.change
asked Count o = o.change
asked Append o = o.change
asked Acknowledge o = o.change

unfoldable pub access : Action → Object → Seen → Grant
access a o see = grant see o.lcso (asked a o)

-- access is granted
abbrev pub granted : Action → Object → Seen → Bool
granted a o see = (access a o see).granted
