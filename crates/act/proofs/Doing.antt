-- What each action does: at an object of the session and at a found record.
use Prim.Native.Nat.{ℕ, ◌+◌, ◌-◌, ◌<◌, ◌≤◌, min}
use mathlib.Core.Path.{◌≡◌, refl, ap, ◌∙◌}
use mathlib.Core.Bool.{Bool, true, false, ◌&&◌}
use mathlib.Core.List.{List, [], ◌∷◌}
use mathlib.Core.Option.{none, some}
use native.Mathlib.Omega.{arith}
use lib.Dec.{eqb, leb}
use lib.ListN.{length, get_or, take, drop}
use lib.Seq.{get_or-drop}
use Rattle.rules.specs.declared.Session.{Session}
use Rattle.rules.specs.declared.Action.{Action}
use Rattle.rules.specs.declared.Action.TheVariants.{GetData, GetMetadata, Write, SetMetadata, Count, Append, Acknowledge}
use Rattle.std.specs.Prelude.{if◌then◌else◌}
use Rattle.rules.specs.Command.{offset, asked_length, sent_data, step_byte, sent_metadata, sent_body, sent_number}
use Rattle.rules.specs.Response.{done_response, put_in_front}
use Rattle.rules.specs.Object.{Object, used, of_session, is_counter, with_content}
use Rattle.rules.specs.Metadata.{metadata, metadata_allowed, sent_fields, with_fields}
use Rattle.rules.specs.Session.{with_error, with_state}
use Rattle.rules.specs.Operation.{shown, put_at, operation}
use Rattle.rules.specs.Access.{Seen}
use Rattle.record.specs.Places.{object_at, Stored, with_record}
use Rattle.laws.proofs.Puts.{shown_length, shown_part, shown_byte}
use Rattle.record.proofs.Standing.{stored_kind}
use Rattle.change.specs.Change.{counted_at}
use Rattle.fares.specs.Queued.{MayAppend, MayAcknowledge, appended_at, acknowledged_at}
use Rattle.act.specs.Acting.{session_does, record_does, InSessionMay, OnRecordMay, stored_at}

-- `show_byte` and `show_data` ---------------------------------------------------------------------------------------------------

-- of an object of the session: so many bytes are shown, of one
one_or_none : (t : Bool) (byte : ℕ) → take (length (if t then byte ∷ [] else [])) (byte ∷ []) ≡ (if t then byte ∷ [] else [])
one_or_none true byte = refl
one_or_none false byte = refl

module _ (c : List ℕ) (byte k n m : ℕ) (ek : k ≡ offset c) (en : n ≡ asked_length c) (em : m ≡ min 1 (k + n) - k) where
  many : length (shown c (byte ∷ [])) ≡ m
  many = omega (arith, ek, en, em, shown_length c (byte ∷ []))

  part : take m (byte ∷ []) ≡ shown c (byte ∷ [])
  part = rw (← many, shown_byte c byte) (one_or_none (eqb (offset c) 0 && leb 1 (asked_length c)) byte)

  pub byte_count : m ≡ length (take m (byte ∷ []))
  byte_count = omega (arith, many, ap length part)

  pub byte_fits : (room : ℕ) → 4 + length (shown c (byte ∷ [])) ≤ room → 4 + length (take m (byte ∷ [])) ≤ room
  byte_fits room f = omega (arith, f, ap length part)

  pub byte_small : length (take m (byte ∷ [])) < 65536
  byte_small = omega (arith, em, byte_count)

  pub byte_cleared : (number : ℕ) (s r : Session) → r ≡ (if eqb number 0xF1C2 && leb 1 m then with_error 0 s else s) →
      r ≡ (if eqb number 0xF1C2 && leb 1 (length (shown c (byte ∷ []))) then with_error 0 s else s)
  byte_cleared number s r e = rw many e

  pub byte_answered : (r xs : List ℕ) → r ≡ put_in_front (done_response (take m (byte ∷ []))) xs →
      r ≡ put_in_front (done_response (shown c (byte ∷ []))) xs
  byte_answered r xs e = rw (← part) e

-- of a stored object's content
module _ (c : List ℕ) (o : Object) (k n u m : ℕ) (ek : k ≡ offset c) (en : n ≡ asked_length c) (eu : u ≡ used o) (em : m ≡ min u (k + n) - k) where
  pub shown_within : offset c ≤ used o → k + m ≤ used o
  shown_within h = omega (arith, ek, eu, em, h)

  module _ (out : List ℕ) (eo : out ≡ take m (drop k o.content)) where
    shown_is : out ≡ shown c o.content
    shown_is = eo ∙ (rw (em, eu, en, ek) (shown_part c o.content))

    pub data_answered : (r room : List ℕ) → r ≡ put_in_front (done_response out) room → r ≡ put_in_front (done_response (shown c o.content)) room
    data_answered r room e = rw (← shown_is) e

    pub shown_fits : (room : ℕ) → 4 + length (shown c o.content) ≤ room → 4 + length out ≤ room
    shown_fits room f = omega (arith, ap length shown_is, f)

    pub shown_small : u < 65536 → length out < 65536
    shown_small s = omega (arith, ap length shown_is, shown_length c o.content)

-- what an action may, by the arm of a match --------------------------------------------------------------------------------------

module _ (a v : Action) (e : a ≡ v) (c : List ℕ) (room : ℕ) where
  module _ (byte : ℕ) (m : InSessionMay a c byte room) where
    pub session_may : (n k : ℕ) → (InSessionMay v c byte room → n ≤ k) → n ≤ k
    session_may n k f = f (rw e at m)

    pub session_never : (InSessionMay v c byte room → ⊥) → ⊥
    session_never f = f (rw e at m)

  module _ (p : ℕ) (b : List ℕ) (m : OnRecordMay a c (object_at p b) room) where
    pub data_within : v ≡ GetData → offset c ≤ used (object_at p b)
    data_within d = (rw (e ∙ d) at m).0

    pub data_fits : v ≡ GetData → 4 + length (shown c (object_at p b).content) ≤ room
    data_fits d = (rw (e ∙ d) at m).1

    pub metadata_fits : v ≡ GetMetadata → 4 + length (metadata (object_at p b)) ≤ room
    metadata_fits d = rw (e ∙ d) at m

    module _ (d : OnRecordMay v c (object_at p b) room ≡ OnRecordMay Write c (object_at p b) room) where
      pub write_fits : (k : ℕ) (src : List ℕ) → k ≡ offset c → src ≡ sent_data c → k + length src ≤ (object_at p b).maximum
      write_fits k src ek ed = omega (arith, (rw d at (rw e at m)).0, ap length ed)

      pub write_answered : 4 ≤ room
      write_answered = (rw d at (rw e at m)).1

    pub set_answered : v ≡ SetMetadata → 4 ≤ room
    set_answered d = (rw (e ∙ d) at m).1

    pub count_answered : v ≡ Count → 4 ≤ room
    count_answered d = (rw (e ∙ d) at m).1

    pub counter_there : v ≡ Count → is_counter (object_at p b).kind ≡ true
    counter_there d = (rw (e ∙ d) at m).0

    pub append_answered : v ≡ Append → 4 ≤ room
    append_answered d = (rw (e ∙ d) at m).1

    pub append_allowed : (body : List ℕ) → body ≡ sent_body c → v ≡ Append → MayAppend (object_at p b) body
    append_allowed body eb d = rw eb (rw (e ∙ d) at m).0

    pub acknowledge_answered : v ≡ Acknowledge → 4 ≤ room
    acknowledge_answered d = (rw (e ∙ d) at m).1

    pub acknowledge_allowed : (n : ℕ) → n ≡ sent_number c → v ≡ Acknowledge → MayAcknowledge (object_at p b) n
    acknowledge_allowed n en d = rw en (rw (e ∙ d) at m).0

    pub set_allowed : (d : List ℕ) → d ≡ sent_metadata c → v ≡ SetMetadata → metadata_allowed (object_at p b).lcso d ≡ true
    set_allowed d ed s = rw ed (rw (e ∙ s) at m).0

-- an arm's answer is that of the action
pub answered_by : (a v : Action) → a ≡ v → (c : List ℕ) (o : Object) (see : Seen) (r xs : List ℕ) →
    r ≡ put_in_front (done_response (operation v c o see).answer) xs → r ≡ put_in_front (done_response (operation a c o see).answer) xs
answered_by a v e c o see r xs f = rw e f

-- at an object of the session ---------------------------------------------------------------------------------------------------

pub session_by : (a v : Action) → a ≡ v → (c : List ℕ) (n byte : ℕ) (s r : Session) → r ≡ (session_does v c n byte s).session →
    r ≡ (session_does a c n byte s).session
session_by a v e c n byte s r f = rw e f

-- a state written
pub state_set : (c : List ℕ) (n : ℕ) (s r : Session) → r ≡ with_state n (get_or c 8 0) s → r ≡ with_state n (get_or (sent_data c) 0 0) s
unfolding sent_data
state_set c n s r f = rw get_or-drop f

-- at a found record --------------------------------------------------------------------------------------------------------------

module _ (p : ℕ) (b c r : List ℕ) where
  pub stored_by : (a v : Action) → a ≡ v → r ≡ stored_at p (record_does v c (object_at p b)).stores b →
      r ≡ stored_at p (record_does a c (object_at p b)).stores b
  stored_by a v e f = rw e f

  -- of either action that writes
  pub write_store : Stored p b → (k : ℕ) (d old : List ℕ) → k ≡ offset c → d ≡ sent_data c →
      r ≡ with_record p (with_content (put_at k d old) (object_at p b)) b →
      r ≡ stored_at p (if of_session (object_at p b).kind then none else some (with_content (put_at (offset c) (sent_data c) old) (object_at p b))) b
  unfolding stored_at
  write_store t k d old ek ed f = rw (stored_kind p b t, ← ek, ← ed) f

  pub set_store : (d : List ℕ) → d ≡ sent_metadata c → r ≡ with_record p (with_fields (sent_fields d) (object_at p b)) b →
      r ≡ with_record p (with_fields (sent_fields (sent_metadata c)) (object_at p b)) b
  set_store d ed f = rw (← ed) f

  pub count_store : (step : ℕ) → step ≡ step_byte c → r ≡ counted_at p step b → r ≡ counted_at p (step_byte c) b
  count_store step es f = rw (← es) f

  pub append_store : (body : List ℕ) → body ≡ sent_body c → r ≡ appended_at p body b → r ≡ appended_at p (sent_body c) b
  append_store body eb f = rw (← eb) f

  pub acknowledge_store : (n : ℕ) → n ≡ sent_number c → r ≡ acknowledged_at p n b → r ≡ acknowledged_at p (sent_number c) b
  acknowledge_store n en f = rw (← en) f
