-- The facts of an allowed object, and of the allowed objects of a store, by their names.
use Prim.Native.Nat.{ℕ, ◌≤◌, ◌<◌}
use mathlib.Core.Bool.{true, false, false≢true}
use mathlib.Core.List.{List, map}
use mathlib.Core.Path.{◌≡◌, refl}
use borrow.Author.Tests.{leb-true, le-leb, ltb-true, lt-ltb, not-true}
use lib.ListN.{length}
use Rattle.rules.specs.declared.Kind.{Kind}
use Rattle.rules.specs.declared.Kind.TheVariants.{Data, Counter, Queue, LifeCycle, Status}
use Rattle.rules.specs.declared.Direction.TheVariants.{Up, Down}
use Rattle.rules.specs.Basic.{all, rising}
use Rattle.rules.specs.Expression.{slot_size, is_state, expression_allowed_with}
use Rattle.rules.specs.Object.{Object, used, kind_number, read_kind, of_session, is, data_allowed, in_session, object_allowed_with, object_allowed, all_allowed_with}
use Rattle.rules.specs.Layout.{size_with, objects_allowed_with, objects_allowed}
use Rattle.laws.proofs.Tests.{and_left, and_right, and_both, false_not}

-- kinds ---------------------------------------------------------------------------------------------------------------

-- a kind that may stand in a record is read back from its number, and is not the session's
pub record Storable (k : Kind) : Type 0 where
  pub read_back : read_kind (kind_number k) ≡ k
  pub not_of_session : of_session k ≡ false

pub storable : (k : Kind) (maximum : ℕ) (content : List ℕ) → data_allowed k maximum content ≡ true → Storable k
unfolding data_allowed read_kind kind_number of_session is
storable Data m b h = record { read_back = refl; not_of_session = refl }
storable (Counter Up) m b h = record { read_back = refl; not_of_session = refl }
storable (Counter Down) m b h = record { read_back = refl; not_of_session = refl }
storable Queue m b h = record { read_back = refl; not_of_session = refl }
storable LifeCycle m b h = absurd (false≢true h)
storable Status m b h = absurd (false≢true h)

-- one object ------------------------------------------------------------------------------------------------------------

pub record AllowedWith (slot : ℕ) (o : Object) : Type 0 where
  pub number_small : o.number < 0x10000
  pub outside_session : in_session o.number ≡ false
  pub some_room : 1 ≤ o.maximum
  pub most : o.maximum ≤ 1500
  pub used_fits : used o ≤ o.maximum
  pub state : is_state o.lcso ≡ true
  pub change : expression_allowed_with slot o.change ≡ true
  pub read : expression_allowed_with slot o.read ≡ true
  pub execute : expression_allowed_with slot o.execute ≡ true
  pub content : data_allowed o.kind o.maximum o.content ≡ true

abbrev pub Allowed : Object → Type 0
Allowed = AllowedWith slot_size

pub allowed_with : (slot : ℕ) (o : Object) → object_allowed_with slot o ≡ true → AllowedWith slot o
unfolding object_allowed_with all
allowed_with slot o h = search (and_left, and_right, ltb-true, leb-true, not-true) depth 12

pub allowed : (o : Object) → object_allowed o ≡ true → Allowed o
allowed = allowed_with slot_size

pub allowed_by : {slot : ℕ} (o : Object) → AllowedWith slot o → object_allowed_with slot o ≡ true
unfolding object_allowed_with all
allowed_by o a = search (and_both, lt-ltb, le-leb, false_not, a) depth 12

-- all of a store ----------------------------------------------------------------------------------------------------------

unfoldable pub numbers : List Object → List ℕ
numbers os = map (λ o. o.number) os

pub record AllAllowedWith (slot : ℕ) (os : List Object) : Type 0 where
  pub some_object : 1 ≤ length os
  pub count : length os ≤ 32
  pub fits : size_with slot os ≤ 16384
  pub rises : rising (numbers os) ≡ true
  pub each : all_allowed_with slot os ≡ true

abbrev pub AllAllowed : List Object → Type 0
AllAllowed = AllAllowedWith slot_size

pub all_allowed_with_facts : (slot : ℕ) (os : List Object) → objects_allowed_with slot os ≡ true → AllAllowedWith slot os
unfolding objects_allowed_with numbers all
all_allowed_with_facts slot os h = search (and_left, and_right, leb-true) depth 12

pub all_allowed_facts : (os : List Object) → objects_allowed os ≡ true → AllAllowed os
all_allowed_facts = all_allowed_with_facts slot_size

pub all_allowed_by : {slot : ℕ} (os : List Object) → AllAllowedWith slot os → objects_allowed_with slot os ≡ true
unfolding objects_allowed_with numbers all
all_allowed_by os a = search (and_both, le-leb, a) depth 12
