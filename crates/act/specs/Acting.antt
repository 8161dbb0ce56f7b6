-- What an action does, by the rules, at an object of the session and at a found record; and when it may.
use Rattle.std.specs.Prelude.{ℕ, ◌+◌, ◌≤◌, true, List, [], ◌∷◌, ◌≡◌, length}
use Rattle.std.proofs.Math.Option.{Option, none, some}
use Rattle.rules.specs.declared.Session.{Session}
use Rattle.rules.specs.declared.Kind.TheVariants.{LifeCycle}
use Rattle.rules.specs.declared.Action.{Action}
use Rattle.rules.specs.declared.Action.TheVariants.{GetData, GetMetadata, Write, EraseAndWrite, SetMetadata, Count, Append, Acknowledge}
use Rattle.rules.specs.Command.{offset, sent_data, sent_metadata, sent_body, sent_number}
use Rattle.rules.specs.Response.{done_response, put_in_front}
use Rattle.rules.specs.Object.{Object, used, is_counter}
use Rattle.rules.specs.Factory.{fresh_session}
use Rattle.rules.specs.Session.{session_object}
use Rattle.rules.specs.Metadata.{metadata, metadata_allowed}
use Rattle.rules.specs.Access.{seen}
use Rattle.rules.specs.Operation.{Operation, shown, operation}
use Rattle.record.specs.Places.{with_record}
use Rattle.fares.specs.Queued.{MayAppend, MayAcknowledge}

-- a room that is answered with these bytes
abbrev pub done_with : (out room : List ℕ) → List ℕ
done_with out room = put_in_front (done_response out) room

-- at an object of the session: what is done does not depend on its kind
abbrev pub session_does : Action → List ℕ → ℕ → ℕ → Session → Operation
session_does a c n byte s = operation a c (session_object n LifeCycle byte) (seen [] s)

-- at a found record: what is answered and stored does not depend on what is seen
abbrev pub record_does : Action → List ℕ → Object → Operation
record_does a c o = operation a c o (seen [] fresh_session)

-- the store where an action has stored an object in place of the one at p
unfoldable pub stored_at : ℕ → Option Object → List ℕ → List ℕ
stored_at p none b = b
stored_at p (some o) b = with_record p o b

-- what the steps 10 to 13 have told of an accepted action, with a room of this size
abbrev pub InSessionMay : Action → List ℕ → ℕ → ℕ → Type 0
InSessionMay GetData c byte room = 4 + length (shown c (byte ∷ [])) ≤ room
InSessionMay GetMetadata c byte room = ⊥
InSessionMay Write c byte room = 4 ≤ room
InSessionMay EraseAndWrite c byte room = 4 ≤ room
InSessionMay SetMetadata c byte room = ⊥
InSessionMay Count c byte room = ⊥
InSessionMay Append c byte room = ⊥
InSessionMay Acknowledge c byte room = ⊥

abbrev pub OnRecordMay : Action → List ℕ → Object → ℕ → Type 0
OnRecordMay GetData c o room = (offset c ≤ used o) × (4 + length (shown c o.content) ≤ room)
OnRecordMay GetMetadata c o room = 4 + length (metadata o) ≤ room
OnRecordMay Write c o room = (offset c + length (sent_data c) ≤ o.maximum) × (4 ≤ room)
OnRecordMay EraseAndWrite c o room = (offset c + length (sent_data c) ≤ o.maximum) × (4 ≤ room)
OnRecordMay SetMetadata c o room = (metadata_allowed o.lcso (sent_metadata c) ≡ true) × (4 ≤ room)
OnRecordMay Count c o room = (is_counter o.kind ≡ true) × (4 ≤ room)
OnRecordMay Append c o room = MayAppend o (sent_body c) × (4 ≤ room)
OnRecordMay Acknowledge c o room = MayAcknowledge o (sent_number c) × (4 ≤ room)
