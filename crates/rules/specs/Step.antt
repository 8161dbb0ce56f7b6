-- One command: step 1, the flush, the verdict of the steps 2 to 13, and what comes of it.
use Rattle.std.specs.Prelude.{ℕ, max, List, [], ltb, length, if◌then◌else◌, Ok, Err}
use Rattle.std.proofs.Math.Option.{Option, none, some}
use Rattle.rules.specs.declared.Session.{Session}
use Rattle.rules.specs.declared.Refusal.{Refusal}
use Rattle.rules.specs.Verdict.{Verdict}
use Rattle.rules.specs.Basic.{is_some, or_else}
use Rattle.rules.specs.Command.{asks_flush, row}
use Rattle.rules.specs.Response.{code, done_response, refused_response, put_in_front}
use Rattle.rules.specs.Object.{Object}
use Rattle.rules.specs.Layout.{pack, unpack, replaced}
use Rattle.rules.specs.Session.{with_error}
use Rattle.rules.specs.Access.{seen, all_used_up}
use Rattle.rules.specs.Refusals.{Ruling, ruling, verdict}

-- what stands after a command
pub record After : Type 0 where
  pub outcome : ℕ
  pub room : List ℕ
  pub store : List ℕ
  pub session : Session

-- A refusal changes only the response and the last error, which becomes the larger of itself and the code.
unfoldable pub raised : ℕ → Session → Session
raised n s = with_error (max s.error n) s

unfoldable pub declined : Refusal → List ℕ → List ℕ → Session → After
declined r room store s = record { outcome = 0; room = put_in_front refused_response room; store = store; session = raised (code r) s }

-- the objects with one in place of the one of its number; with none, the same
unfoldable pub replacing : Option Object → List Object → List Object
replacing none os = os
replacing (some o) os = replaced o os

-- the objects after a command: its own change, then the counters that it uses up
unfoldable pub objects_after : Ruling → List Object → List Object
objects_after r os = all_used_up r.counters (replacing r.does.stores os)

unfoldable pub performed : Ruling → List ℕ → List Object → After
performed r room os =
    let p = r.does in
    record {
      outcome = 0;
      room = put_in_front (done_response p.answer) room;
      store = pack (objects_after r os);
      session = p.session;
    }

-- what comes of a verdict
unfoldable pub answered : Verdict → Ruling → List ℕ → List ℕ → List Object → Session → After
answered (Err n) r room store os s = declined n room store s
answered (Ok _) r room store os s = performed r room os

-- steps 2 to 13; `objects`: those of the store, none where it is malformed
unfoldable pub judged : List ℕ → List ℕ → List ℕ → Option (List Object) → Session → After
judged c room store objects s =
    let os = or_else objects [] in
    let see = seen os s in
    answered (verdict (is_some objects) c (length room) see) (ruling (row c) c see) room store os s

-- If the top bit of Cmd is set, the last error becomes 0 before any other judgment.
unfoldable pub flushed : List ℕ → Session → Session
flushed c s = if asks_flush c then with_error 0 s else s

-- response buffer under 4 bytes: outcome 1, no response, nothing changed, not even by the flush bit
unfoldable pub unanswered : List ℕ → List ℕ → Session → After
unanswered room store s = record { outcome = 1; room = room; store = store; session = s }

-- command, room, store and session; the flush comes between steps 1 and 2
unfoldable pub step : List ℕ → List ℕ → List ℕ → Session → After
step c room store s =
    if ltb (length room) 4 then unanswered room store s else
    judged c room store (unpack store) (flushed c s)
