-- What an object holds on the controller.
use Rattle.std.specs.Prelude.{ℕ, Bool, true, false, not, ◌&&◌, ◌||◌, List, [], ◌∷◌, eqb, ltb, leb, length, if◌then◌else◌}
use Rattle.rules.specs.declared.Kind.{Kind}
use Rattle.rules.specs.declared.Kind.TheVariants.{Data, Counter, Queue, LifeCycle, Status}
use Rattle.rules.specs.declared.Direction.{Direction}
use Rattle.rules.specs.declared.Direction.TheVariants.{Up, Down}
use Rattle.rules.specs.declared.Slot.{Slot}
use Rattle.rules.specs.declared.Slot.TheVariants.{Change, Read, Execute}
use Rattle.rules.specs.Basic.{all, among, is_some}
use Rattle.rules.specs.Queue.{queue}
use Rattle.rules.specs.Expression.{Expression, slot_size, expression_allowed_with, is_state}

-- kinds -------------------------------------------------------------------------------------------------------------

-- the number of each kind, in the records of that kind; those of the session stand in no record, and their numbers are past two bytes
unfoldable pub kind_number : Kind → ℕ
kind_number Data = 0x0001
kind_number (Counter Up) = 0x0002
kind_number (Counter Down) = 0x0004
kind_number Queue = 0x0003
kind_number LifeCycle = 0x10001
kind_number Status = 0x10002

-- the only kind that a record of this number can be; what is not its number is caught by `unpack`
unfoldable pub read_kind : ℕ → Kind
read_kind n =
    if eqb n 0x0001 then Data else
    (if eqb n 0x0002 then Counter Up else
    (if eqb n 0x0003 then Queue else
    Counter Down))

-- one kind is the other
unfoldable pub is : Kind → Kind → Bool
is k l = eqb (kind_number k) (kind_number l)

-- kinds of the session's objects: a life cycle, or what the element tells of itself
unfoldable pub of_session : Kind → Bool
of_session k = is LifeCycle k || is Status k

unfoldable pub is_counter : Kind → Bool
is_counter k = is (Counter Up) k || is (Counter Down) k

-- the way that a counter counts
unfoldable pub direction : Kind → Direction
direction k = if is (Counter Down) k then Down else Up

-- the bytes of a counter: value 4, threshold 4
abbrev pub counter_size : ℕ
counter_size = 8

-- what the data of a record of each kind must be, with its maximum, beside used at most maximum
unfoldable pub data_allowed : Kind → ℕ → List ℕ → Bool
-- any bytes
data_allowed Data maximum content = true
-- maximum and used always 8
data_allowed (Counter d) maximum content = eqb maximum counter_size && eqb (length content) counter_size
-- the next number and whole fares up to used
data_allowed Queue maximum content = is_some (queue content)
-- not in a store
data_allowed LifeCycle maximum content = false
data_allowed Status maximum content = false

-- objects -----------------------------------------------------------------------------------------------------------

-- content is the data up to used, so used is its length; all bytes past used are zero
pub record Object : Type 0 where
  pub number : ℕ
  pub kind : Kind
  pub maximum : ℕ
  pub lcso : ℕ
  pub change : Expression
  pub read : Expression
  pub execute : Expression
  pub content : List ℕ

abbrev pub used : Object → ℕ
used o = length o.content

-- the expression that each slot holds
unfoldable pub expression_in : Slot → Object → Expression
expression_in Change o = o.change
expression_in Read o = o.read
expression_in Execute o = o.execute

-- E0C0 (LcsG), F1C0 (LcsA) and F1C2 (last error) live in the session
unfoldable pub in_session : ℕ → Bool
in_session n = among (0xE0C0 ∷ 0xF1C0 ∷ 0xF1C2 ∷ []) n

-- an object that may stand in a store with slots of this size
unfoldable pub object_allowed_with : ℕ → Object → Bool
object_allowed_with slot o =
    all
    ( -- a number of two bytes; E0C0, F1C0 and F1C2 may not occur
    ltb o.number 0x10000 ∷
    not (in_session o.number) ∷
    -- maximum 1 to 1,500; used at most maximum
    leb 1 o.maximum ∷
    leb o.maximum 1500 ∷
    leb (used o) o.maximum ∷
    -- LcsO one of the four; expressions well formed
    is_state o.lcso ∷
    expression_allowed_with slot o.change ∷
    expression_allowed_with slot o.read ∷
    expression_allowed_with slot o.execute ∷
    -- data as its kind has it
    data_allowed o.kind o.maximum o.content ∷ [])

unfoldable pub all_allowed_with : ℕ → List Object → Bool
all_allowed_with slot [] = true
all_allowed_with slot (o ∷ os) = object_allowed_with slot o && all_allowed_with slot os

-- with the present slots
abbrev pub object_allowed : Object → Bool
object_allowed = object_allowed_with slot_size

abbrev pub all_allowed : List Object → Bool
all_allowed = all_allowed_with slot_size

-- an object with other data
unfoldable pub with_content : List ℕ → Object → Object
with_content b o =
    record {
      number = o.number;
      kind = o.kind;
      maximum = o.maximum;
      lcso = o.lcso;
      change = o.change;
      read = o.read;
      execute = o.execute;
      content = b;
    }
