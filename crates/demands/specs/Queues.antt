-- A fare queue over a run of any commands: what a host knows of it that sees the commands and the replies alone, and what stands in the store.
use Rattle.std.specs.Prelude.{ℕ, zero, suc, ◌+◌, ◌-◌, ◌≤◌, Bool, true, ◌&&◌, List, [], ◌∷◌, ◌++◌, map, ◌⊎◌, ◌≡◌, eqb, length, get_or, if◌then◌else◌}
use Rattle.std.proofs.Math.Option.{Option, none, some}
use Rattle.rules.specs.declared.Kind.TheVariants.{Queue}
use Rattle.rules.specs.Basic.{all, rising, or_else}
use Rattle.rules.specs.Command.{cmd, param, object_number, sent_body, sent_number}
use Rattle.rules.specs.Object.{Object, is}
use Rattle.rules.specs.Queue.{Fare, fare, FareQueue, empty_queue, queue, up_to, past}
use Rattle.rules.specs.Layout.{unpack, find}
use Rattle.rules.specs.Run.{Turn, Reply, Ran}

-- the queue in a store -----------------------------------------------------------------------------------------------------

unfoldable pub queue_of : Option Object → Option FareQueue
queue_of none = none
queue_of (some o) = if is Queue o.kind then queue o.content else none

-- the queue of number n; none where the store is malformed, has no such object, or one of another kind
unfoldable pub stored_queue : ℕ → List ℕ → Option FareQueue
stored_queue n store = queue_of (find n (or_else (unpack store) []))

-- the fares present in it
abbrev pub present_fares : ℕ → List ℕ → List Fare
present_fares n store = (or_else (stored_queue n store) (empty_queue 0)).fares

-- what a host sees ---------------------------------------------------------------------------------------------------------

-- a command that appends to the queue n, and one that acknowledges there: Cmd 02, the flush bit aside, Param 04 and 05
unfoldable pub appends : ℕ → List ℕ → Bool
appends n c = all (eqb (cmd c) 0x02 ∷ eqb (param c) 0x04 ∷ eqb (object_number c) n ∷ [])

unfoldable pub acknowledges : ℕ → List ℕ → Bool
acknowledges n c = all (eqb (cmd c) 0x02 ∷ eqb (param c) 0x05 ∷ eqb (object_number c) n ∷ [])

-- answered 00
unfoldable pub answered_00 : Reply → Bool
answered_00 r = eqb r.outcome 0 && eqb (get_or r.room 0 0) 0x00

-- the number that the next fare gets, the fares accepted, those of them acknowledged, and those not yet acknowledged, each oldest first
pub record Account : Type 0 where
  pub next : ℕ
  pub accepted : List Fare
  pub acknowledged : List Fare
  pub outstanding : List Fare

-- before the first command: what is there counts as accepted
unfoldable pub opening : FareQueue → Account
opening q = record { next = q.next; accepted = q.fares; acknowledged = []; outstanding = q.fares }

-- an append answered 00: its body is a fare under the next number
unfoldable pub after_append : List ℕ → Account → Account
after_append b a =
    record {
      next = a.next + 1;
      accepted = a.accepted ++ (fare a.next b ∷ []);
      acknowledged = a.acknowledged;
      outstanding = a.outstanding ++ (fare a.next b ∷ []);
    }

-- an acknowledgement answered 00: of those outstanding, that fare and all before it
unfoldable pub after_acknowledge : ℕ → Account → Account
after_acknowledge k a =
    record { next = a.next; accepted = a.accepted; acknowledged = a.acknowledged ++ up_to k a.outstanding; outstanding = past k a.outstanding }

-- any other command, and any other reply, changes nothing
unfoldable pub noted : ℕ → Turn → Reply → Account → Account
noted n t r a =
    if appends n t.command && answered_00 r then after_append (sent_body t.command) a else
    (if acknowledges n t.command && answered_00 r then after_acknowledge (sent_number t.command) a else
    a)

unfoldable pub account : ℕ → List Turn → List Reply → Account → Account
account n [] rs a = a
account n (t ∷ ts) [] a = a
account n (t ∷ ts) (r ∷ rs) a = account n ts rs (noted n t r a)

-- the theorem's words ------------------------------------------------------------------------------------------------------

-- count numbers from n on, by ones
unfoldable pub numbers_from : ℕ → ℕ → List ℕ
numbers_from n zero = []
numbers_from n (suc count) = n ∷ numbers_from (suc n) count

-- the numbers of fares
unfoldable pub numbers_of : List Fare → List ℕ
numbers_of fs = map (λ f. f.number) fs

-- a run over a queue n that was q before it
pub record QueueKept (n : ℕ) (q : FareQueue) (ts : List Turn) (ran : Ran) : Type 0 where
  -- the fares acknowledged and then those present are exactly the fares accepted, in order
  pub in_order : (account n ts ran.replies (opening q)).acknowledged ++ present_fares n ran.kept.store ≡ (account n ts ran.replies (opening q)).accepted
  -- each with its number, by ones from the first
  pub numbered : numbers_of (account n ts ran.replies (opening q)).accepted ≡
      numbers_from (q.next - length q.fares) (length (account n ts ran.replies (opening q)).accepted)
  -- so each once
  pub each_once : rising (numbers_of (account n ts ran.replies (opening q)).accepted) ≡ true
  -- the queue that is left is the one that the host knows
  pub queue_left : stored_queue n ran.kept.store ≡
      some (record {
        next = (account n ts ran.replies (opening q)).next;
        fares = (account n ts ran.replies (opening q)).outstanding;
      })

-- one of these fares
abbrev pub Among : Fare → List Fare → Type 0
Among f [] = ⊥
Among f (g ∷ gs) = (f ≡ g) ⊎ Among f gs

-- some command acknowledges the number m of the queue n, or a later one, and is answered 00
abbrev pub Acknowledged : ℕ → ℕ → List Turn → List Reply → Type 0
Acknowledged n m [] rs = ⊥
Acknowledged n m (t ∷ ts) [] = ⊥
Acknowledged n m (t ∷ ts) (r ∷ rs) =
    ((acknowledges n t.command && answered_00 r ≡ true) × (m ≤ sent_number t.command)) ⊎ Acknowledged n m ts rs

-- an append t to the queue n, which was q before the run: rs are the replies to the commands before it, ss those to the commands behind it. Its fare,
-- under the number that was next then, is in the store at the end, or was acknowledged
abbrev pub NeverLost : ℕ → FareQueue → List Turn → Turn → List Turn → (rs ss : List Reply) → List ℕ → Type 0
NeverLost n q ts t us rs ss store =
    Among (fare (account n ts rs (opening q)).next (sent_body t.command)) (present_fares n store) ⊎
    Acknowledged n (account n ts rs (opening q)).next us ss
