-- The demands' own words about one command and about two lists.
use Rattle.std.specs.Prelude.{ℕ, ◌+◌, ◌/◌, ◌%◌, ◌≤◌, ◌<◌, min, Bool, true, false, not, ◌&&◌, List, [], ◌∷◌, ◌++◌, ◌⊎◌, ◌≡◌, eqb, leb, length, get_or, if◌then◌else◌}
use Rattle.std.proofs.Math.Option.{Option, none, some}
use Rattle.mixing.specs.Runs.{All}
use Rattle.rules.specs.declared.Session.{Session}
use Rattle.rules.specs.declared.Refusal.{Refusal}
use Rattle.rules.specs.declared.Action.{Action}
use Rattle.rules.specs.declared.Action.TheVariants.{GetData, GetMetadata, Write, EraseAndWrite, SetMetadata, Count, Append, Acknowledge}
use Rattle.rules.specs.declared.Kind.TheVariants.{Counter, Queue}
use Rattle.rules.specs.declared.Direction.TheVariants.{Up}
use Rattle.rules.specs.declared.Row.{Row}
use Rattle.rules.specs.declared.Row.TheVariants.{OnObject, OpenApplication, CloseApplication, Unknown}
use Rattle.rules.specs.Basic.{among}
use Rattle.rules.specs.Command.{asks_flush, object_number, offset, asked_length, sent_data, step_byte, sent_metadata, sent_body, sent_number, object_of}
use Rattle.rules.specs.Response.{code, done_response, refused_response, put_in_front}
use Rattle.rules.specs.Expression.{Expression, is_state}
use Rattle.rules.specs.Object.{Object, used, is, is_counter, direction, in_session, with_content}
use Rattle.rules.specs.Counter.{exhausted, after_count}
use Rattle.rules.specs.Queue.{fare_head, queue_bytes, queue_in, appended, present_in, acknowledged}
use Rattle.rules.specs.Layout.{unpack, pack, find, replaced}
use Rattle.rules.specs.Session.{with_error}
use Rattle.rules.specs.Metadata.{Field, fields_bytes, object_fields, led_by_20, metadata_allowed, sent_fields, with_fields}
use Rattle.rules.specs.Access.{Seen, seen, expression_counters, grant, holds, one_up, all_used_up}
use Rattle.rules.specs.Operation.{shown, put_at, write_fits}
use Rattle.rules.specs.Refusals.{ill_sized, wrong_length}
use Rattle.rules.specs.Step.{After, raised, flushed}
use Rattle.rules.specs.Run.{Turn, Kept, left, reads_or_writes}

-- a response stands, and its status byte is 00 or FF
unfoldable pub is_done : After → Bool
is_done a = eqb a.outcome 0 && eqb (get_or a.room 0 0) 0x00

unfoldable pub is_refused : After → Bool
is_refused a = eqb a.outcome 0 && eqb (get_or a.room 0 0) 0xFF

-- demand 1 -------------------------------------------------------------------------------------------------------------

-- the list of numbers
unfoldable pub listed : ℕ → Bool
listed n = among (0x01 ∷ 0x03 ∷ 0x04 ∷ 0x05 ∷ 0x06 ∷ 0x07 ∷ 0x08 ∷ 0x0A ∷ 0x0C ∷ 0x0D ∷ []) n

-- a refusal: no stored object changes; the session keeps all but its last error, which, after any flush, rises to the refusal's
-- number if that is higher; of the room only the response's four bytes change
pub record RefusedWith (r : Refusal) (c room store : List ℕ) (s : Session) (a : After) : Type 0 where
  pub number_listed : listed (code r) ≡ true
  pub outcome : a.outcome ≡ 0
  pub response : a.room ≡ put_in_front refused_response room
  pub store_kept : a.store ≡ store
  pub session_kept : a.session ≡ raised (code r) (flushed c s)

-- a refusal with some number of the list
pub record SomeRefusal (c room store : List ℕ) (s : Session) (a : After) : Type 0 where
  pub refusal : Refusal
  pub with : RefusedWith refusal c room store s a

-- whatever the bytes are, one of three: no room for a status and nothing changes at all, refused, or done
pub data Answered (c room store : List ℕ) (s : Session) (a : After) : Type 0 where
  no_room : length room < 4 → a ≡ record { outcome = 1; room = room; store = store; session = s } → Answered c room store s a
  refused : 4 ≤ length room → (r : Refusal) → RefusedWith r c room store s a → is_refused a ≡ true → Answered c room store s a
  done : 4 ≤ length room → is_done a ≡ true → Answered c room store s a

-- demand 2 -------------------------------------------------------------------------------------------------------------

-- with room to answer, store and session sound and the application usable; os: the stored objects
pub record Ready (room store : List ℕ) (s : Session) (os : List Object) : Type 0 where
  pub room_to_answer : 4 ≤ length room
  pub store_sound : unpack store ≡ some os
  pub lcsg_sound : is_state s.lcsg ≡ true
  pub lcsa_sound : is_state s.lcsa ≡ true
  -- usable: LcsA is not 0F, and it is open
  pub not_terminated : eqb s.lcsa 0x0F ≡ false
  pub is_open : s.opened ≡ true

-- the command is well formed: its own length and InLen, for its row
unfoldable pub well_formed : List ℕ → Bool
well_formed c = not (ill_sized c) && not (wrong_length c)

-- a write to a stored object: data, erasing or not, metadata, a count, an append and an acknowledgement
unfoldable pub writes : Action → Bool
writes Write = true
writes EraseAndWrite = true
writes SetMetadata = true
writes Count = true
writes Append = true
writes Acknowledge = true
writes GetData = false
writes GetMetadata = false

-- the content is allowed and fits
unfoldable pub content_allowed : Action → List ℕ → Object → Bool
content_allowed Write c o = write_fits o (offset c) (length (sent_data c))
content_allowed EraseAndWrite c o = write_fits o (offset c) (length (sent_data c))
content_allowed SetMetadata c o = metadata_allowed o.lcso (sent_metadata c)
-- at offset 0 of a counter that is not at or past its threshold
content_allowed Count c o = is_counter o.kind && eqb (offset c) 0 && not (exhausted (direction o.kind) o.content)
-- to a queue: the fare fits behind the others, and there is a number left for it
content_allowed Append c o =
    is Queue o.kind && leb (used o + fare_head + length (sent_body c)) o.maximum && not (eqb (queue_in o.content).next 0xFFFFFFFF)
-- at a queue: a fare of that number is present
content_allowed Acknowledge c o = is Queue o.kind && present_in (queue_in o.content).fares (sent_number c)
content_allowed GetData c o = true
content_allowed GetMetadata c o = true

-- the object after a write
unfoldable pub changed : Action → List ℕ → Object → Object
changed Write c o = with_content (put_at (offset c) (sent_data c) o.content) o
changed EraseAndWrite c o = with_content (put_at (offset c) (sent_data c) []) o
changed SetMetadata c o = with_fields (sent_fields (sent_metadata c)) o
changed Count c o = with_content (after_count (direction o.kind) (step_byte c) o.content) o
changed Append c o = with_content (queue_bytes (appended (sent_body c) (queue_in o.content))) o
changed Acknowledge c o = with_content (queue_bytes (acknowledged (sent_number c) (queue_in o.content))) o
changed GetData c o = o
changed GetMetadata c o = o

-- the exception: a plain write, erasing or not, to a queue makes no change, whatever its change condition says
unfoldable pub excepted : Action → Object → Bool
excepted Write o = is Queue o.kind
excepted EraseAndWrite o = is Queue o.kind
excepted SetMetadata o = false
excepted Count o = false
excepted Append o = false
excepted Acknowledge o = false
excepted GetData o = false
excepted GetMetadata o = false

-- the counters that a command uses up where this expression grants it: those of the first true group from the left
abbrev pub uses : Seen → ℕ → Expression → List ℕ
uses see lcso e = (grant see lcso e).counters

-- the objects before and after the counters ns are used up
pub record UsedUp (ns : List ℕ) (os ps : List Object) : Type 0 where
  -- each of them is there, counts up, and has gone up by one, once
  pub counted : (n : ℕ) → among ns n ≡ true →
      (o : Object) × (find n os ≡ some o) × (is (Counter Up) o.kind ≡ true) × (find n ps ≡ some (one_up o))
  -- all others are as they were
  pub others_kept : (n : ℕ) → among ns n ≡ false → find n ps ≡ find n os

-- when a write makes its change
pub record MayWrite (a : Action) (c : List ℕ) (see : Seen) (o : Object) : Type 0 where
  pub command_well_formed : well_formed c ≡ true
  pub change_condition_holds : holds see o.lcso o.change ≡ true
  pub content_allowed_and_fits : content_allowed a c o ≡ true
  pub not_excepted : excepted a o ≡ false

-- the objects after a write: the object is the changed one, and then the counters that its change condition uses up are
abbrev pub after_write : Action → List ℕ → Seen → Object → List Object → List Object
after_write a c see o os = all_used_up (uses see o.lcso o.change) (replaced (changed a c o) os)

-- a write makes its change exactly when it may: then it is done, the object is the changed one, each counter of the deciding group has stepped
-- once, and all others are as they were; else nothing is stored
pub record WritesExactly (a : Action) (c room store : List ℕ) (s : Session) (os : List Object) (o : Object) (after : After) : Type 0 where
  pub when : MayWrite a c (seen os s) o →
      after ≡ record { outcome = 0; room = put_in_front (done_response []) room; store = pack (after_write a c (seen os s) o os); session = flushed c s }
  pub objects_after : MayWrite a c (seen os s) o → unpack after.store ≡ some (after_write a c (seen os s) o os)
  pub uses_up : MayWrite a c (seen os s) o → UsedUp (uses (seen os s) o.lcso o.change) (replaced (changed a c o) os) (after_write a c (seen os s) o os)
  pub only_when : is_done after ≡ true → MayWrite a c (seen os s) o
  pub else_kept : is_done after ≡ false → after.store ≡ store

-- when a data read is answered
pub record MayRead (c : List ℕ) (room : ℕ) (see : Seen) (o : Object) : Type 0 where
  pub command_well_formed : well_formed c ≡ true
  pub read_condition_holds : holds see o.lcso o.read ≡ true
  pub within_used : offset c ≤ used o
  -- by the bytes to show, not by the length asked
  pub answer_fits : 4 + length (shown c o.content) ≤ room

-- the bytes that a data read shows of those in use: how many, and which
pub record Shows (c content out : List ℕ) : Type 0 where
  -- from offset they reach to the smaller of used and offset + length
  pub how_many : offset c + length out ≡ min (length content) (offset c + asked_length c)
  -- each is the stored byte at its place
  pub which : (i : ℕ) → i < length out → get_or out i 0 ≡ get_or content (offset c + i) 0

-- what stands after a data read that is answered with these bytes
abbrev pub bytes_shown : (out room store : List ℕ) → Session → After
bytes_shown out room store s = record { outcome = 0; room = put_in_front (done_response out) room; store = store; session = s }

-- the objects after a data read: the counters that its read condition uses up are
abbrev pub after_read : Seen → Object → List Object → List Object
after_read see o os = all_used_up (uses see o.lcso o.read) os

-- a data read shows exactly the stored bytes from offset to the smaller of used and offset + length, as they were before any step, and only when
-- the read condition holds; it stores nothing but the steps of the deciding group's counters
pub record ReadsExactly (c room store : List ℕ) (s : Session) (os : List Object) (o : Object) (after : After) : Type 0 where
  pub when : MayRead c (length room) (seen os s) o →
      after ≡ bytes_shown (shown c o.content) room (pack (after_read (seen os s) o os)) (flushed c s)
  pub objects_after : MayRead c (length room) (seen os s) o → unpack after.store ≡ some (after_read (seen os s) o os)
  pub uses_up : MayRead c (length room) (seen os s) o → UsedUp (uses (seen os s) o.lcso o.read) os (after_read (seen os s) o os)
  -- those bytes it is, and no others can be
  pub shows : MayRead c (length room) (seen os s) o → Shows c o.content (shown c o.content)
  pub nothing_else : (out : List ℕ) → Shows c o.content out → out ≡ shown c o.content
  pub only_when : is_done after ≡ true → MayRead c (length room) (seen os s) o
  pub else_kept : is_done after ≡ false → after.store ≡ store
  -- a read condition that uses up no counter: nothing stored changes
  pub store_kept : uses (seen os s) o.lcso o.read ≡ [] → after.store ≡ store

-- the byte of each object of the session: E0C0 the LcsG, F1C0 the LcsA, F1C2 the last error
unfoldable pub session_byte : ℕ → Session → Option ℕ
session_byte n s =
    if eqb n 0xE0C0 then some s.lcsg else
    (if eqb n 0xF1C0 then some s.lcsa else
    (if eqb n 0xF1C2 then some s.error else
    none))

-- the byte of an object of the session is asked for, and what is then shown
unfoldable pub asks_byte : List ℕ → Bool
asks_byte c = eqb (offset c) 0 && leb 1 (asked_length c)

unfoldable pub byte_shown : List ℕ → ℕ → List ℕ
byte_shown c byte = if asks_byte c then byte ∷ [] else []

-- when a data read of an object of the session is answered: its byte is readable at all times
pub record MayReadByte (c : List ℕ) (room : ℕ) (s : Session) (byte : ℕ) : Type 0 where
  pub command_well_formed : well_formed c ≡ true
  pub in_session : session_byte (object_number c) s ≡ some byte
  pub within_byte : offset c ≤ 1
  pub answer_fits : 4 + length (byte_shown c byte) ≤ room

-- the session after it: the last error is 0 where its byte was returned
unfoldable pub after_byte : List ℕ → Session → Session
after_byte c s = if eqb (object_number c) 0xF1C2 && asks_byte c then with_error 0 s else s

-- what a data read that is done shows, with nothing assumed of store and session: they are sound, the application usable, the command
-- well formed; and either the object is stored and its read condition holds, or it is one of the session's three
pub data Shown (c room store : List ℕ) (s : Session) (after : After) : Type 0 where
  of_object : (os : List Object) (o : Object) → Ready room store s os → find (object_number c) os ≡ some o → MayRead c (length room) (seen os s) o →
      (out : List ℕ) → Shows c o.content out → after ≡ bytes_shown out room (pack (after_read (seen os s) o os)) (flushed c s) →
      Shown c room store s after
  of_session : (os : List Object) (byte : ℕ) → Ready room store s os → MayReadByte c (length room) (flushed c s) byte →
      after ≡ bytes_shown (byte_shown c byte) room store (after_byte c (flushed c s)) → Shown c room store s after

-- the send-back case: an object's metadata read back, without C4 and C5, and the command that sends it in -------------------

unfoldable pub without_sizes : List Field → List Field
without_sizes [] = []
without_sizes (f ∷ fs) = let rest = without_sizes fs in if among (0xC4 ∷ 0xC5 ∷ []) f.tag then rest else f ∷ rest

unfoldable pub sent_back : Object → List ℕ
sent_back o =
    let m = led_by_20 (fields_bytes (without_sizes (object_fields o))) in
    0x02 ∷ 0x01 ∷ (2 + length m) / 256 ∷ (2 + length m) % 256 ∷ o.number / 256 ∷ o.number % 256 ∷ m

-- demand 3 -------------------------------------------------------------------------------------------------------------

-- what the demand asks of each command
pub record Plain (t : Turn) : Type 0 where
  pub is_read_or_write : reads_or_writes t.command ≡ true
  -- it names neither a life cycle object nor the error object
  pub outside_session : (n : ℕ) → object_of t.command ≡ some n → in_session n ≡ false
  pub no_flush : asks_flush t.command ≡ false

-- some command of the list names the object number
abbrev pub Names : List Turn → ℕ → Type 0
Names [] n = ⊥
Names (t ∷ ts) n = (object_of t.command ≡ some n) ⊎ Names ts n

-- the counters that the conditions of an object name
unfoldable pub object_counters : Object → List ℕ
object_counters o = expression_counters o.change ++ expression_counters o.read ++ expression_counters o.execute

-- in this store a condition of an object that the list names is on the counter n
pub record ConditionOn (xs : List Turn) (store : List ℕ) (n : ℕ) : Type 0 where
  pub objects : List Object
  pub store_sound : unpack store ≡ some objects
  pub number : ℕ
  pub list_names : Names xs number
  pub object : Object
  pub there : find number objects ≡ some object
  pub condition_names : among (object_counters object) n ≡ true

-- the same before or during a run of ts from k
abbrev pub During : (xs ts : List Turn) → Kept → ℕ → Type 0
During xs [] k n = ConditionOn xs k.store n
During xs (t ∷ ts) k n = ConditionOn xs k.store n ⊎ During xs ts (left t k) n

-- a counter named in a condition of the list's objects, before or during the run of the list alone
abbrev pub NamesCounter : List Turn → Kept → ℕ → Type 0
NamesCounter xs k n = During xs xs k n

-- a row that sets metadata: only such commands change conditions
unfoldable pub sets_metadata : Row → Bool
sets_metadata (OnObject SetMetadata) = true
sets_metadata (OnObject GetData) = false
sets_metadata (OnObject GetMetadata) = false
sets_metadata (OnObject Write) = false
sets_metadata (OnObject EraseAndWrite) = false
sets_metadata (OnObject Count) = false
sets_metadata (OnObject Append) = false
sets_metadata (OnObject Acknowledge) = false
sets_metadata OpenApplication = false
sets_metadata CloseApplication = false
sets_metadata Unknown = false

-- two lists as the demand takes them, from a beginning
pub record TwoLists (xs ys : List Turn) (k : Kept) : Type 0 where
  pub first_plain : All Plain xs
  pub second_plain : All Plain ys
  -- no object number is named in both lists
  pub no_common_object : (n : ℕ) → Names xs n → Names ys n → ⊥
  -- no counter named in a condition of one list's objects is an object or a named counter of the other list's
  pub first_counters_apart : (n : ℕ) → NamesCounter xs k n → Names ys n ⊎ NamesCounter ys k n → ⊥
  pub second_counters_apart : (n : ℕ) → NamesCounter ys k n → Names xs n ⊎ NamesCounter xs k n → ⊥
