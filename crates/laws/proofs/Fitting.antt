-- What an action stores may stand in the place of the object that it found: it is allowed and as large.
use Prim.Native.Nat.{ℕ, ◌+◌, ◌≤◌, ◌<◌}
use mathlib.Core.Bool.{Bool, true, false, ◌&&◌, false≢true}
use mathlib.Core.List.{List, [], ◌∷◌}
use mathlib.Core.Option.{Option, none, some}
use mathlib.Core.Path.{◌≡◌, refl, sym, ap, ◌∙◌}
use native.Mathlib.Omega.{arith}
use borrow.Author.Tests.{leb-true, ltb-false, eqb-true, eqb-false, not-false}
use lib.Dec.{eqb, leb}
use lib.ListN.{length, length-drop}
use Rattle.rules.specs.declared.Kind.{Kind}
use Rattle.rules.specs.declared.Kind.TheVariants.{Data, Counter, Queue, LifeCycle, Status}
use Rattle.rules.specs.declared.Direction.{Direction}
use Rattle.rules.specs.declared.Direction.TheVariants.{Up, Down}
use Rattle.rules.specs.declared.Action.{Action}
use Rattle.rules.specs.declared.Action.TheVariants.{GetData, GetMetadata, Write, EraseAndWrite, SetMetadata, Count, Append, Acknowledge}
use Rattle.rules.specs.Verdict.{accepted}
use Rattle.std.specs.Prelude.{if◌then◌else◌}
use Rattle.rules.specs.Basic.{among, is_some, or_else, big_endian_4}
use Rattle.rules.specs.Command.{offset, sent_data, step_byte, sent_metadata, sent_body, sent_number}
use Rattle.rules.specs.Expression.{Expression, never, expression, expression_allowed, is_state, may_become}
use Rattle.rules.specs.Object.{Object, used, kind_number, is, of_session, is_counter, direction, counter_size, data_allowed, object_allowed, with_content}
use Rattle.rules.specs.Counter.{after_count}
use Rattle.rules.specs.Queue.{FareQueue, fare_head, body_allowed, queue_allowed, queue_bytes, queue, queue_in, appended, acknowledged}
use Rattle.rules.specs.Metadata.{Field, field_allowed, fields_allowed, value_of, sent_state, sent_expression, with_fields, metadata_allowed, sent_fields}
use Rattle.rules.specs.Access.{Seen, grant, holds, one_up, used_up, asked, access, granted}
use Rattle.rules.specs.Operation.{put_at, write_fits, writing, operation}
use Rattle.laws.proofs.Tests.{if_by, and_left, and_right, at_place}
use Rattle.laws.proofs.Expressions.{expression_read}
use Rattle.laws.proofs.Facts.{allowed, allowed_by}
use Rattle.laws.proofs.Queues.{queue_size, queue_length, queue_of_bytes, sound_layout}
use Rattle.laws.proofs.QueueChanges.{allowed as queue_facts, appended_allowed, appended_size, acknowledged_allowed, acknowledged_size}
use Rattle.laws.proofs.Verdicts.{passed}
use Rattle.laws.proofs.Puts.{put_used}

-- new may stand in o's place
pub record Fitting (o new : Object) : Type 0 where
  pub allowed : object_allowed new ≡ true
  pub number : new.number ≡ o.number
  pub maximum : new.maximum ≡ o.maximum

-- data ---------------------------------------------------------------------------------------------------------------------

-- other bytes are allowed: of a counter, as many; of a queue, those of a queue
other_bytes : (k : Kind) (m : ℕ) (old b : List ℕ) → data_allowed k m old ≡ true → (is_counter k ≡ true → length b ≡ counter_size) →
    (is Queue k ≡ true → is_some (queue b) ≡ true) → data_allowed k m b ≡ true
unfolding data_allowed is_counter is kind_number
other_bytes Data m old b h l q = h
other_bytes (Counter Up) m old b h l q = rw (l refl, and_left (eqb m counter_size) _ h)
other_bytes (Counter Down) m old b h l q = rw (l refl, and_left (eqb m counter_size) _ h)
other_bytes Queue m old b h l q = q refl
other_bytes LifeCycle m old b h l q = h
other_bytes Status m old b h l q = h

pub content_fits : (b : List ℕ) (o : Object) → object_allowed o ≡ true → length b ≤ o.maximum → (is_counter o.kind ≡ true → length b ≡ counter_size) →
    (is Queue o.kind ≡ true → is_some (queue b) ≡ true) → Fitting o (with_content b o)
unfolding with_content
content_fits b o h l n q =
    let a = allowed o h in
    let content = other_bytes o.kind o.maximum o.content b a.content n q in
    record { allowed = allowed_by _ (search (a, l, content)); number = refl; maximum = refl }

-- counters ------------------------------------------------------------------------------------------------------------------

-- what a record of a counter must have
counter_sizes : (k : Kind) (m : ℕ) (b : List ℕ) → data_allowed k m b ≡ true → is_counter k ≡ true → (m ≡ counter_size) × (length b ≡ counter_size)
unfolding data_allowed is_counter is kind_number
counter_sizes Data m b h c = absurd (false≢true c)
counter_sizes Queue m b h c = absurd (false≢true c)
counter_sizes (Counter d) m b h c = (eqb-true m counter_size (and_left _ _ h), eqb-true (length b) counter_size (and_right (eqb m counter_size) _ h))
counter_sizes LifeCycle m b h c = absurd (false≢true h)
counter_sizes Status m b h c = absurd (false≢true h)

module _ (o : Object) (h : object_allowed o ≡ true) (c : is_counter o.kind ≡ true) where
  pub counter_maximum : o.maximum ≡ counter_size
  counter_maximum = (counter_sizes o.kind o.maximum o.content (allowed o h).content c).0

  pub counter_content : length o.content ≡ counter_size
  counter_content = (counter_sizes o.kind o.maximum o.content (allowed o h).content c).1

-- a counter is no object of the session
pub counter_stored : (k : Kind) → is_counter k ≡ true → of_session k ≡ false
unfolding is_counter of_session is kind_number
counter_stored Data h = refl
counter_stored (Counter Up) h = refl
counter_stored (Counter Down) h = refl
counter_stored Queue h = absurd (false≢true h)
counter_stored LifeCycle h = absurd (false≢true h)
counter_stored Status h = absurd (false≢true h)

-- a counter up is one, and counts up
module _ (k : Kind) (h : is (Counter Up) k ≡ true) where
  pub up_is_counter : is_counter k ≡ true
  unfolding is_counter
  up_is_counter = rw h

  pub up_direction : direction k ≡ Up
  unfolding direction is kind_number
  up_direction = let number : 2 ≡ kind_number k = unfold is kind_number in eqb-true 2 (kind_number k) h in rw (← number)

pub count_length : (d : Direction) (step : ℕ) (b : List ℕ) → length b ≡ counter_size → length (after_count d step b) ≡ counter_size
unfolding after_count big_endian_4
count_length d step b h = simp length-drop (omega arith)

-- queues ---------------------------------------------------------------------------------------------------------------------

-- what a record of a queue must have
queue_there : (k : Kind) (m : ℕ) (b : List ℕ) → data_allowed k m b ≡ true → is Queue k ≡ true → is_some (queue b) ≡ true
unfolding data_allowed is kind_number
queue_there Data m b h q = absurd (false≢true q)
queue_there (Counter Up) m b h q = absurd (false≢true q)
queue_there (Counter Down) m b h q = absurd (false≢true q)
queue_there Queue m b h q = h
queue_there LifeCycle m b h q = absurd (false≢true q)
queue_there Status m b h q = absurd (false≢true q)

-- a queue is no object of the session, and no counter
pub queue_stored : (k : Kind) → is Queue k ≡ true → of_session k ≡ false
unfolding of_session is kind_number
queue_stored Data h = refl
queue_stored (Counter Up) h = refl
queue_stored (Counter Down) h = refl
queue_stored Queue h = refl
queue_stored LifeCycle h = absurd (false≢true h)
queue_stored Status h = absurd (false≢true h)

pub queue_not_counter : (k : Kind) → is Queue k ≡ true → is_counter k ≡ false
unfolding is_counter is kind_number
queue_not_counter Data h = refl
queue_not_counter (Counter Up) h = absurd (false≢true h)
queue_not_counter (Counter Down) h = absurd (false≢true h)
queue_not_counter Queue h = refl
queue_not_counter LifeCycle h = refl
queue_not_counter Status h = refl

module _ (o : Object) (h : object_allowed o ≡ true) (k : is Queue o.kind ≡ true) where
  pub queue_sound : is_some (queue o.content) ≡ true
  queue_sound = queue_there o.kind o.maximum o.content (allowed o h).content k

  pub queue_is_allowed : queue_allowed (queue_in o.content) ≡ true
  queue_is_allowed = (sound_layout o.content queue_sound).1

  pub queue_used : queue_size (queue_in o.content) ≡ used o
  queue_used = sym (queue_length (queue_in o.content)) ∙ ap length (sound_layout o.content queue_sound).0

  -- another queue in its place
  queue_fits : (q : FareQueue) → queue_allowed q ≡ true → queue_size q ≤ o.maximum → Fitting o (with_content (queue_bytes q) o)
  queue_fits q ok l =
      content_fits (queue_bytes q) o h (omega (arith, queue_length q)) (λ c. absurd (false≢true (sym (queue_not_counter o.kind k) ∙ c)))
      (λ r. ap is_some (queue_of_bytes q ok))

  pub append_fits : (b : List ℕ) → body_allowed b ≡ true → used o + fare_head + length b ≤ o.maximum → (queue_in o.content).next < 0xFFFFFFFF →
      Fitting o (with_content (queue_bytes (appended b (queue_in o.content))) o)
  append_fits b ok l n =
      let q = queue_in o.content in
      queue_fits (appended b q) (appended_allowed b q queue_is_allowed ok n) (omega (arith, l, appended_size b q, queue_used))

  pub acknowledge_fits : (n : ℕ) → Fitting o (with_content (queue_bytes (acknowledged n (queue_in o.content))) o)
  acknowledge_fits n =
      let q = queue_in o.content in
      queue_fits (acknowledged n q) (acknowledged_allowed n q queue_is_allowed) (omega (arith, acknowledged_size n q, queue_used, (allowed o h).used_fits))

  -- a next number that is not FFFFFFFF is below it
  pub next_below : eqb (queue_in o.content).next 0xFFFFFFFF ≡ false → (queue_in o.content).next < 0xFFFFFFFF
  next_below e =
      let small = (queue_facts (queue_in o.content) queue_is_allowed).next_fits in
      omega (arith, eqb-false (queue_in o.content).next 0xFFFFFFFF e)

-- a counter that has counted
count_fits : (d : Direction) (step : ℕ) (o : Object) → object_allowed o ≡ true → is_counter o.kind ≡ true →
    Fitting o (with_content (after_count d step o.content) o)
count_fits d step o h counter =
    let long = count_length d step o.content (counter_content o h counter) in
    content_fits _ o h (omega (arith, long, counter_maximum o h counter)) (λ r. long)
    (λ q. absurd (false≢true (sym (queue_not_counter o.kind q) ∙ counter)))

-- metadata -------------------------------------------------------------------------------------------------------------------

-- an expression that is read is allowed
sent_allowed : (m : Option (List ℕ)) (old : Expression) → expression_allowed old ≡ true → expression_allowed (sent_expression m old) ≡ true
unfolding sent_expression
sent_allowed none old h = h
sent_allowed (some v) old h =
    elim (expression v) as (λ m. expression v ≡ m → expression_allowed (or_else m old) ≡ true)
    [ none ↦ λ q. h | some e ↦ λ q. (expression_read v e q).1 ] refl

-- the value found under a tag is that of an allowed field
value_of_allowed : (lcso : ℕ) (t : ℕ) (fs : List Field) (v : List ℕ) → fields_allowed lcso fs ≡ true → value_of t fs ≡ some v →
    field_allowed lcso (record { tag = t; value = v }) ≡ true
unfolding fields_allowed value_of
value_of_allowed lcso t [] v h e = let z : ◌≡◌ {A = ℕ} 0 1 = cc in absurd (omega arith)
value_of_allowed lcso t (f ∷ fs) v h e =
    if_by (λ m. m ≡ some v → field_allowed lcso (record { tag = t; value = v }) ≡ true) (eqb t f.tag) (some f.value) (value_of t fs)
    (λ q e.
    let p : v ≡ f.value = cc in
    ap (field_allowed lcso) (λ i. record { tag = eqb-true t f.tag q i; value = p i }) ∙ and_left (field_allowed lcso f) _ h)
    (λ q. value_of_allowed lcso t fs v (and_right (field_allowed lcso f) _ h)) e

-- fields that are allowed at any LcsO: which states come after it is not asked here
pub fields_fit : (lcso : ℕ) (o : Object) (fs : List Field) → object_allowed o ≡ true → fields_allowed lcso fs ≡ true → Fitting o (with_fields fs o)
unfolding with_fields sent_state field_allowed may_become
fields_fit lcso o fs h g =
    let a = allowed o h in
    let state : is_state (sent_state (value_of 0xC0 fs) o.lcso) ≡ true =
    elim (value_of 0xC0 fs) as (λ m. value_of 0xC0 fs ≡ m → is_state (sent_state m o.lcso) ≡ true)
    [ none ↦ λ e. a.state | some v ↦ λ e. let f = value_of_allowed lcso 0xC0 fs v g e in search (and_left, and_right) ] refl in
    let change = sent_allowed (value_of 0xD0 fs) o.change a.change in
    let read = sent_allowed (value_of 0xD1 fs) o.read a.read in
    let execute = sent_allowed (value_of 0xD3 fs) o.execute a.execute in
    record { allowed = allowed_by _ (search (a, state, change, read, execute)); number = refl; maximum = refl }

-- each action ----------------------------------------------------------------------------------------------------------------

not_chosen : (t : Bool) (p new : Object) → (if t then none else some p) ≡ some new → (t ≡ false) × (p ≡ new)
not_chosen true p new e = let z : ◌≡◌ {A = ℕ} 0 1 = cc in absurd (omega arith)
not_chosen false p new e = (refl, cc)

-- what is granted is not `never`
pub not_never : (t : Bool) (see : Seen) (lcso : ℕ) (e : Expression) → holds see lcso (if t then never else e) ≡ true → t ≡ false
unfolding grant
not_never true see lcso e g = absurd (false≢true g)
not_never false see lcso e g = refl

-- a write that fits: within the maximum, and of a counter all of its bytes
pub record Within (o : Object) (k n : ℕ) : Type 0 where
  pub within : k + n ≤ o.maximum
  pub whole : is_counter o.kind ≡ true → (k + n ≡ counter_size) × (o.maximum ≡ counter_size)

pub write_within : (o : Object) (k n : ℕ) → object_allowed o ≡ true → write_fits o k n ≡ true → Within o k n
unfolding write_fits
write_within o k n h =
    let size = counter_maximum o h in
    if_by (λ t. t ≡ true → Within o k n) (is_counter o.kind) (eqb k 0 && eqb n counter_size) (leb (k + n) o.maximum)
    (λ q e. let z = eqb-true k 0 (and_left _ _ e) in let w = eqb-true n counter_size (and_right (eqb k 0) _ e) in
    record { within = omega (arith, size q); whole = λ r. (omega arith, size q) })
    (λ q e. record { within = leb-true (k + n) o.maximum e; whole = λ r. absurd (false≢true (sym q ∙ r)) })

written : (old c : List ℕ) (o : Object) (see : Seen) (new : Object) → object_allowed o ≡ true → length old ≤ o.maximum → is Queue o.kind ≡ false →
    (writing old c o see).verdict ≡ accepted → (writing old c o see).stores ≡ some new → Fitting o new
unfolding writing
written old c o see new h l plain v e =
    let w = write_within o (offset c) (length (sent_data c)) h (not-false _ (passed _ _ _ v).0) in
    let long = put_used (offset c) (sent_data c) old in
    rw (not_chosen (of_session o.kind) _ new e).1 at
    (content_fits (put_at (offset c) (sent_data c) old) o h (omega (arith, w.within)) (λ q. omega (arith, w.whole q))
    (λ q. absurd (false≢true (sym plain ∙ q))))

-- what an accepted action stores fits: of an append with a body that is allowed
pub operation_fitting : (a : Action) (c : List ℕ) (o : Object) (see : Seen) (new : Object) → object_allowed o ≡ true →
    (a ≡ Append → body_allowed (sent_body c) ≡ true) → granted a o see ≡ true → (operation a c o see).verdict ≡ accepted →
    (operation a c o see).stores ≡ some new → Fitting o new
unfolding operation access asked
operation_fitting GetData c o see new h b g v e = let z : ◌≡◌ {A = ℕ} 0 1 = cc in absurd (omega arith)
operation_fitting GetMetadata c o see new h b g v e = let z : ◌≡◌ {A = ℕ} 0 1 = cc in absurd (omega arith)
operation_fitting Write c o see new h b g v e =
    written o.content c o see new h (allowed o h).used_fits (not_never (is Queue o.kind) see o.lcso o.change g) v e
operation_fitting EraseAndWrite c o see new h b g v e =
    written [] c o see new h (omega arith) (not_never (is Queue o.kind) see o.lcso o.change g) v e
operation_fitting SetMetadata c o see new h b g v e =
    let fs = sent_fields (sent_metadata c) in
    let q : with_fields fs o ≡ new = cc in
    rw q at (fields_fit o.lcso o fs h (unfold metadata_allowed in at_place _ (not-false _ (passed _ _ _ v).0) 3))
operation_fitting Count c o see new h b g v e =
    let bytes = after_count (direction o.kind) (step_byte c) o.content in
    let q : with_content bytes o ≡ new = cc in
    rw q at (count_fits (direction o.kind) (step_byte c) o h (not-false _ (passed _ _ _ v).0))
operation_fitting Append c o see new h b g v e =
    let q : with_content (queue_bytes (appended (sent_body c) (queue_in o.content))) o ≡ new = cc in
    let (kind, v11) = passed _ _ _ v in
    let (room, v13) = passed _ _ _ v11 in
    let k = not-false _ kind in
    rw q at (append_fits o h k (sent_body c) (b refl) (ltb-false o.maximum _ room) (next_below o h k (passed _ _ _ v13).0))
operation_fitting Acknowledge c o see new h b g v e =
    let q : with_content (queue_bytes (acknowledged (sent_number c) (queue_in o.content))) o ≡ new = cc in
    rw q at (acknowledge_fits o h (not-false _ (passed _ _ _ v).0) (sent_number c))

-- and nothing is stored in the place of an object of the session
pub operation_outside : (a : Action) (c : List ℕ) (o : Object) (see : Seen) (new : Object) → granted a o see ≡ true →
    (operation a c o see).verdict ≡ accepted → (operation a c o see).stores ≡ some new → of_session o.kind ≡ false
unfolding operation access asked
operation_outside GetData c o see new g v e = let z : ◌≡◌ {A = ℕ} 0 1 = cc in absurd (omega arith)
operation_outside GetMetadata c o see new g v e = let z : ◌≡◌ {A = ℕ} 0 1 = cc in absurd (omega arith)
operation_outside Write c o see new g v e = (not_chosen (of_session o.kind) _ new e).0
operation_outside EraseAndWrite c o see new g v e = (not_chosen (of_session o.kind) _ new e).0
operation_outside SetMetadata c o see new g v e = not_never (of_session o.kind) see o.lcso o.change g
operation_outside Count c o see new g v e = counter_stored o.kind (not-false _ (passed _ _ _ v).0)
operation_outside Append c o see new g v e = queue_stored o.kind (not-false _ (passed _ _ _ v).0)
operation_outside Acknowledge c o see new g v e = queue_stored o.kind (not-false _ (passed _ _ _ v).0)

-- counters used up -----------------------------------------------------------------------------------------------------------

-- a counter that goes up by one fits, and so does every object after the counters of these numbers did
pub used_up_fits : (ns : List ℕ) (o : Object) → object_allowed o ≡ true → Fitting o (used_up ns o)
unfolding used_up one_up
used_up_fits ns o h =
    if_by (Fitting o) (is (Counter Up) o.kind && among ns o.number) (one_up o) o
    (λ t. count_fits Up 1 o h (up_is_counter o.kind (and_left _ _ t)))
    (λ t. record { allowed = h; number = refl; maximum = refl })
