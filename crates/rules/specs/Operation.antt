-- Reading, writing, counting, appending and acknowledging: what each action refuses of an object beyond access, answers and changes.
use Rattle.std.specs.Prelude.{ℕ, ◌+◌, ◌-◌, min, Bool, not, ◌&&◌, ◌||◌, List, [], ◌++◌, eqb, leb, ltb, length, get_or, take, drop, if◌then◌else◌}
use Rattle.std.proofs.Math.Option.{Option, none, some}
use Rattle.std.proofs.Math.Seq.{slice}
use Rattle.rules.specs.declared.Session.{Session}
use Rattle.rules.specs.declared.Kind.TheVariants.{Queue, LifeCycle}
use Rattle.rules.specs.declared.Action.{Action}
use Rattle.rules.specs.declared.Action.TheVariants.{GetData, GetMetadata, Write, EraseAndWrite, SetMetadata, Count, Append, Acknowledge}
use Rattle.rules.specs.declared.Refusal.TheVariants.{InvalidParam, InvalidData, BoundaryExceeded, InsufficientBuffer}
use Rattle.rules.specs.Verdict.{Verdict, accepted}
use Rattle.rules.specs.Basic.{zeros}
use Rattle.rules.specs.Command.{offset, asked_length, sent_data, step_byte, sent_metadata, sent_body, sent_number}
use Rattle.rules.specs.Expression.{may_become}
use Rattle.rules.specs.Object.{Object, used, with_content, is, of_session, is_counter, direction, counter_size}
use Rattle.rules.specs.Counter.{exhausted, after_count}
use Rattle.rules.specs.Queue.{fare_head, queue_bytes, queue_in, appended, present_in, acknowledged}
use Rattle.rules.specs.Metadata.{metadata, metadata_allowed, sent_fields, with_fields}
use Rattle.rules.specs.Session.{with_error, with_state}
use Rattle.rules.specs.Access.{Seen}
use Rattle.rules.specs.Chain.{◌refused◌or◌}

-- what is done with an object, once access is granted
pub record Operation : Type 0 where
  -- its own refusals
  pub verdict : Verdict
  -- and, where no step refuses: its answer, the object stored in place of the one named, the session after it
  pub answer : List ℕ
  pub stores : Option Object
  pub session : Session

-- of the bytes in use, those from offset to the smaller of used and offset + length
unfoldable pub shown : List ℕ → List ℕ → List ℕ
shown c content = slice (offset c) (min (length content) (offset c + asked_length c)) content

-- only an offset above used is 08
unfoldable pub getting : List ℕ → Object → Seen → Operation
getting c o see =
    record {
      verdict =
          not (leb (offset c) (used o)) refused BoundaryExceeded or  -- 11: 08
          accepted;
      answer = shown c o.content;
      stores = none;
      -- a get that returns the byte of F1C2 then sets it to 0; another one does not
      session = if eqb o.number 0xF1C2 && leb 1 (length (shown c o.content)) then with_error 0 see.session else see.session;
    }

unfoldable pub getting_metadata : Object → Seen → Operation
getting_metadata o see = record { verdict = accepted; answer = metadata o; stores = none; session = see.session }

-- bytes put at offset k: used becomes the larger of used and offset + length; a gap reads as zero
unfoldable pub put_at : ℕ → List ℕ → List ℕ → List ℕ
put_at k b old = take k (old ++ zeros (k - length old)) ++ b ++ drop (k + length b) old

-- a write fits: offset + length is not above maximum; to a counter, all 8 bytes at offset 0
unfoldable pub write_fits : Object → ℕ → ℕ → Bool
write_fits o k n = if is_counter o.kind then eqb k 0 && eqb n counter_size else leb (k + n) o.maximum

-- a life cycle takes one of the four states, not below the present one; other objects take any bytes
unfoldable pub value_allowed : Object → ℕ → Bool
value_allowed o state = not (is LifeCycle o.kind) || may_become o.lcso state

-- `old` is what stays of the content: all of it, or none of it where all data is zeroed first
unfoldable pub writing : List ℕ → List ℕ → Object → Seen → Operation
writing old c o see =
    let state = get_or (sent_data c) 0 0 in
    record {
      verdict =
          not (write_fits o (offset c) (length (sent_data c))) refused BoundaryExceeded or  -- 11: 08
          not (value_allowed o state) refused InvalidData or  -- 12: 05
          accepted;
      answer = [];
      stores = if of_session o.kind then none else some (with_content (put_at (offset c) (sent_data c) old) o);
      session = with_state o.number state see.session;
    }

unfoldable pub setting_metadata : List ℕ → Object → Seen → Operation
setting_metadata c o see =
    record {
      verdict =
          not (metadata_allowed o.lcso (sent_metadata c)) refused InvalidData or  -- 12: 05
          accepted;
      answer = [];
      stores = some (with_fields (sent_fields (sent_metadata c)) o);
      session = see.session;
    }

-- On another kind or a life cycle object it is 03, judged right after access; at another offset than 0, or where the value is at or past its
-- threshold already, 08.
unfoldable pub counting : List ℕ → Object → Seen → Operation
counting c o see =
    let d = direction o.kind in
    record {
      verdict =
          not (is_counter o.kind) refused InvalidParam or  -- 03
          not (eqb (offset c) 0) refused BoundaryExceeded or  -- 11: 08
          exhausted d o.content refused BoundaryExceeded or  -- 11: 08
          accepted;
      answer = [];
      stores = some (with_content (after_count d (step_byte c) o.content) o);
      session = see.session;
    }

-- On another kind or a life cycle object it is 03, judged right after access; 08 exactly when used plus 8 plus the body is above the maximum; 0D
-- when the next number is FFFFFFFF.
unfoldable pub appending : List ℕ → Object → Seen → Operation
appending c o see =
    let q = queue_in o.content in
    record {
      verdict =
          not (is Queue o.kind) refused InvalidParam or  -- 03
          ltb o.maximum (used o + fare_head + length (sent_body c)) refused BoundaryExceeded or  -- 11: 08
          eqb q.next 0xFFFFFFFF refused InsufficientBuffer or  -- 13: 0D
          accepted;
      answer = [];
      stores = some (with_content (queue_bytes (appended (sent_body c) q)) o);
      session = see.session;
    }

-- Also 03 right after access; a number that is not present is 05.
unfoldable pub acknowledging : List ℕ → Object → Seen → Operation
acknowledging c o see =
    let q = queue_in o.content in
    record {
      verdict =
          not (is Queue o.kind) refused InvalidParam or  -- 03
          not (present_in q.fares (sent_number c)) refused InvalidData or  -- 12: 05
          accepted;
      answer = [];
      stores = some (with_content (queue_bytes (acknowledged (sent_number c) q)) o);
      session = see.session;
    }

-- every set answers with no data; to unfold it is to unfold what each action does
unfoldable pub operation : Action → List ℕ → Object → Seen → Operation
unfolding getting getting_metadata writing setting_metadata counting appending acknowledging
operation GetData c o see = getting c o see
operation GetMetadata c o see = getting_metadata o see
operation Write c o see = writing o.content c o see
operation EraseAndWrite c o see = writing [] c o see
operation SetMetadata c o see = setting_metadata c o see
operation Count c o see = counting c o see
operation Append c o see = appending c o see
operation Acknowledge c o see = acknowledging c o see

-- what a command does that names no object: it answers with no data, and this is the session after it
unfoldable pub setting_session : Session → Operation
setting_session s = record { verdict = accepted; answer = []; stores = none; session = s }
