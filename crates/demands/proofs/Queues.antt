-- A fare queue over a run of any commands: the fares acknowledged and then those present are the fares accepted, in order, each once, numbered by
-- ones; and a fare that was accepted is present until it is acknowledged.
use Prim.Native.Nat.{ℕ, zero, suc, ◌+◌, ◌-◌, ◌≤◌, ◌<◌}
use mathlib.Core.Bool.{Bool, true, false, ◌&&◌}
use mathlib.Core.List.{List, [], ◌∷◌, ◌++◌, append_assoc, map-append}
use mathlib.Core.Logic.{◌⊎◌, inl, inr}
use mathlib.Core.Option.{some}
use mathlib.Core.Path.{◌≡◌, refl, sym, ap, ◌∙◌}
use native.Mathlib.Nat.{add-zero}
use native.Mathlib.Numerals.{add-one}
use native.Mathlib.Omega.{arith}
use borrow.Author.Tests.{leb-true, lt-ltb}
use lib.Dec.{eqb, leb, ltb}
use lib.ListN.{length, length-append}
use Rattle.mixing.specs.Runs.{answers, end}
use Rattle.std.specs.Prelude.{if◌then◌else◌}
use Rattle.rules.specs.Basic.{among, rising_from, rising, or_else}
use Rattle.rules.specs.Command.{sent_body, sent_number}
use Rattle.rules.specs.Queue.{Fare, fare, FareQueue, empty_queue, numbered_below, queue_allowed, appended, present_in, up_to, past, acknowledged}
use Rattle.rules.specs.Run.{Turn, Reply, Kept, reply, left, run}
use Rattle.demands.specs.Demand.{is_done}
use Rattle.demands.specs.Queues.{stored_queue, present_fares, appends, acknowledges, answered_00, Account, opening, after_append, after_acknowledge, noted, account}
use Rattle.demands.specs.Queues.{numbers_from, numbers_of, QueueKept, Among, Acknowledged, NeverLost}
use Rattle.laws.proofs.Tests.{by_test, and_left, and_both}
use Rattle.laws.proofs.QueueChanges.{allowed, numbers_parts, present_between, up_to_past}
use Rattle.demands.proofs.QueueSteps.{after_command, holding, allowed_there, QueueAfter, step_queue}

-- numbers by ones ----------------------------------------------------------------------------------------------------------

numbers_suc : (n k : ℕ) → numbers_from n (suc k) ≡ numbers_from n k ++ ((n + k) ∷ [])
unfolding numbers_from
numbers_suc n zero = ap (λ m. m ∷ []) (sym (add-zero n))
numbers_suc n (suc k) =
    let e : suc n + k ≡ n + suc k = omega arith in
    ap (λ x. n ∷ x) (numbers_suc (suc n) k ∙ ap (λ m. numbers_from (suc n) k ++ (m ∷ [])) e)

-- so each is above those before it
numbers_rise : (m n k : ℕ) → m < n → rising_from m (numbers_from n k) ≡ true
unfolding rising_from numbers_from
numbers_rise m n zero h = refl
numbers_rise m n (suc k) h = and_both (ltb m n) (rising_from n (numbers_from (suc n) k)) (lt-ltb m n h) (numbers_rise n (suc n) k (omega arith))

rise : (n k : ℕ) → rising (numbers_from n k) ≡ true
unfolding rising numbers_from
rise n zero = refl
rise n (suc k) = numbers_rise n (suc n) k (omega arith)

-- fares numbered by ones up to just below n: there are at most n, and these are their numbers
below_count : (n : ℕ) (fs : List Fare) → numbered_below n fs ≡ true → length fs ≤ n
below_count n [] h = omega arith
below_count n (f ∷ fs) h = let e = (numbers_parts n f fs h).0 in omega arith

below_by_ones : (n : ℕ) (fs : List Fare) → numbered_below n fs ≡ true → numbers_of fs ≡ numbers_from (n - length fs) (length fs)
unfolding numbers_of numbers_from
below_by_ones n [] h = refl
below_by_ones n (f ∷ fs) h =
    let (e, later) = numbers_parts n f fs h in
    let first : f.number ≡ n - length (f ∷ fs) = omega arith in
    let next : n - length fs ≡ suc (n - length (f ∷ fs)) = omega arith in
    (λ i. first i ∷ (below_by_ones n fs later ∙ ap (λ m. numbers_from m (length fs)) next) i)

-- the account --------------------------------------------------------------------------------------------------------------

-- what holds of it from an opening with the first number n on
record Balanced (n : ℕ) (a : Account) : Type 0 where
  all_there : a.acknowledged ++ a.outstanding ≡ a.accepted
  by_ones : numbers_of a.accepted ≡ numbers_from n (length a.accepted)
  next_is : a.next ≡ n + length a.accepted

opened : (q : FareQueue) → queue_allowed q ≡ true → Balanced (q.next - length q.fares) (opening q)
unfolding opening
opened q h =
    let numbers = (allowed q h).numbers in
    record {
      all_there = refl;
      by_ones = below_by_ones q.next q.fares numbers;
      next_is = omega (arith, below_count q.next q.fares numbers);
    }

module _ (n : ℕ) (a : Account) (h : Balanced n a) where
  append_balanced : (b : List ℕ) → Balanced n (after_append b a)
  unfolding after_append numbers_of
  append_balanced b =
      let f = fare a.next b in
      let l : length (a.accepted ++ (f ∷ [])) ≡ length a.accepted + 1 = length-append a.accepted (f ∷ []) in
      let more : numbers_from n (length (a.accepted ++ (f ∷ []))) ≡ numbers_from n (length a.accepted) ++ ((n + length a.accepted) ∷ []) =
      ap (numbers_from n) (l ∙ add-one (length a.accepted)) ∙ numbers_suc n (length a.accepted) in
      record {
        all_there = sym (append_assoc a.acknowledged a.outstanding (f ∷ [])) ∙ ap (λ x. x ++ (f ∷ [])) h.all_there;
        by_ones = map-append (λ (f : Fare). f.number) a.accepted (f ∷ []) ∙ (λ i. h.by_ones i ++ (h.next_is i ∷ [])) ∙ sym more;
        next_is = omega (arith, l, h.next_is);
      }

  acknowledge_balanced : (k : ℕ) → Balanced n (after_acknowledge k a)
  unfolding after_acknowledge
  acknowledge_balanced k =
      let fs = a.outstanding in
      record {
        all_there = append_assoc a.acknowledged (up_to k fs) (past k fs) ∙ ap (λ x. a.acknowledged ++ x) (up_to_past k fs) ∙ h.all_there;
        by_ones = h.by_ones;
        next_is = h.next_is;
      }

  noted_balanced : (m : ℕ) (t : Turn) (r : Reply) → Balanced n (noted m t r a)
  unfolding noted
  noted_balanced m t r = by (appends m t.command && answered_00 r) (acknowledges m t.command && answered_00 r)
    where
      by : (b k : Bool) → Balanced n (if b then after_append (sent_body t.command) a else (if k then after_acknowledge (sent_number t.command) a else a))
      by true k = append_balanced (sent_body t.command)
      by false true = acknowledge_balanced (sent_number t.command)
      by false false = h

account_balanced : (n m : ℕ) (ts : List Turn) (rs : List Reply) (a : Account) → Balanced n a → Balanced n (account m ts rs a)
unfolding account
account_balanced n m [] rs a h = h
account_balanced n m (t ∷ ts) [] a h = h
account_balanced n m (t ∷ ts) (r ∷ rs) a h = account_balanced n m ts rs (noted m t r a) (noted_balanced n a h m t r)

-- the queue that the host knows ----------------------------------------------------------------------------------------------

abbrev known : Account → FareQueue
known a = record { next = a.next; fares = a.outstanding }

-- the fares present are those of the queue there
present_are : (n : ℕ) (store : List ℕ) (q : FareQueue) → stored_queue n store ≡ some q → present_fares n store ≡ q.fares
present_are n store q h = ap (λ m. (or_else m (empty_queue 0)).fares) h

-- it changes with the account
noted_known : (n : ℕ) (t : Turn) (r : Reply) (a : Account) →
    let c = t.command in known (noted n t r a) ≡ after_command (appends n c && answered_00 r) (acknowledges n c && answered_00 r) c (known a)
unfolding noted after_append after_acknowledge appended acknowledged
noted_known n t r a = by (appends n t.command && answered_00 r) (acknowledges n t.command && answered_00 r)
  where
    by : (b k : Bool) →
        known (if b then after_append (sent_body t.command) a else (if k then after_acknowledge (sent_number t.command) a else a)) ≡
        after_command b k t.command (known a)
    by true k = refl
    by false true = refl
    by false false = refl

-- a queue after one turn
turn_queue : (n : ℕ) (t : Turn) (k : Kept) (q : FareQueue) → stored_queue n k.store ≡ some q →
    QueueAfter n t.command (answered_00 (reply t k)) q (left t k).store
unfolding answered_00 reply left is_done
turn_queue n t k q h = step_queue n t.command t.room k.store k.session q h

turn_known : (n : ℕ) (t : Turn) (k : Kept) (a : Account) → stored_queue n k.store ≡ some (known a) →
    stored_queue n (left t k).store ≡ some (known (noted n t (reply t k) a))
turn_known n t k a h = (turn_queue n t k (known a) h).left ∙ ap some (sym (noted_known n t (reply t k) a))

run_known : (n : ℕ) (ts : List Turn) (k : Kept) (a : Account) → stored_queue n k.store ≡ some (known a) →
    stored_queue n (run ts k).kept.store ≡ some (known (account n ts (run ts k).replies a))
unfolding run answers end account
run_known n [] k a h = h
run_known n (t ∷ ts) k a h = run_known n ts (left t k) (noted n t (reply t k) a) (turn_known n t k a h)

-- the theorem --------------------------------------------------------------------------------------------------------------

pub queue_kept : (n : ℕ) (q : FareQueue) (ts : List Turn) (k : Kept) → stored_queue n k.store ≡ some q → QueueKept n q ts (run ts k)
queue_kept n q ts k h =
    let a = account n ts (run ts k).replies (opening q) in
    let first = q.next - length q.fares in
    let b = account_balanced first n ts (run ts k).replies (opening q) (opened q (allowed_there (holding n k.store q h).queue_in)) in
    let queue_left = run_known n ts k (opening q) (unfold opening in h) in
    record {
      in_order = ap (λ fs. a.acknowledged ++ fs) (present_are n _ (known a) queue_left) ∙ b.all_there;
      numbered = b.by_ones;
      each_once = ap rising b.by_ones ∙ rise first (length a.accepted);
      queue_left = queue_left;
    }

-- no fare is lost --------------------------------------------------------------------------------------------------------------

among_more : (f : Fare) (fs gs : List Fare) → Among f fs → Among f (fs ++ gs)
among_more f [] gs h = absurd h
among_more f (g ∷ fs) gs (inl e) = inl e
among_more f (g ∷ fs) gs (inr h) = inr (among_more f fs gs h)

among_last : (f : Fare) (fs : List Fare) → Among f (fs ++ (f ∷ []))
among_last f [] = inl refl
among_last f (g ∷ fs) = inr (among_last f fs)

-- a number that is present is not below the first
present_above : (n k : ℕ) (fs : List Fare) → numbered_below n fs ≡ true → present_in fs k ≡ true → n ≤ k + length fs
present_above n k fs h p = leb-true n (k + length fs) (and_left (leb n (k + length fs)) _ (sym (present_between n k fs h) ∙ p))

-- a fare that is gone after an acknowledgement has its number or a lower one
past_or_gone : (n k : ℕ) (f : Fare) (fs : List Fare) → numbered_below n fs ≡ true → present_in fs k ≡ true → Among f fs →
    Among f (past k fs) ⊎ (f.number ≤ k)
unfolding present_in among past
past_or_gone n k f [] h p m = absurd m
past_or_gone n k f (g ∷ fs) h p (inl e) =
    let own = (numbers_parts n g fs h).0 in
    let number = ap (λ (x : Fare). x.number) e in
    inr (omega (arith, present_above n k (g ∷ fs) h p))
past_or_gone n k f (g ∷ fs) h p (inr m) =
    by_test (eqb k g.number) (λ t. rw t (inl m)) (λ t. rw t (past_or_gone n k f fs (numbers_parts n g fs h).1 (rw t at p) m))

-- a fare in the queue of a store
record Present (n : ℕ) (f : Fare) (store : List ℕ) : Type 0 where
  queue : FareQueue
  there : stored_queue n store ≡ some queue
  has : Among f queue.fares

-- one turn: it stays, or the turn acknowledges it
module _ (n : ℕ) (f : Fare) (t : Turn) (k : Kept) (h : Present n f k.store) where
  abbrev c : List ℕ
  c = t.command

  abbrev Gone : Type 0
  Gone = (acknowledges n t.command && answered_00 (reply t k) ≡ true) × (f.number ≤ sent_number t.command)

  stays_or_gone : Present n f (left t k).store ⊎ Gone
  unfolding appended acknowledged
  stays_or_gone =
      let after = turn_queue n t k h.queue h.there in
      by (appends n c && answered_00 (reply t k)) (acknowledges n c && answered_00 (reply t k)) refl after.left after.present
    where
      q : FareQueue
      q = h.queue

      numbers : numbered_below q.next q.fares ≡ true
      numbers = (allowed q (allowed_there (holding n k.store q h.there).queue_in)).numbers

      by : (b a : Bool) → acknowledges n c && answered_00 (reply t k) ≡ a → stored_queue n (left t k).store ≡ some (after_command b a c q) →
          (a ≡ true → present_in q.fares (sent_number c) ≡ true) → Present n f (left t k).store ⊎ Gone
      by true a e there present = inl (record { queue = _; there = there; has = among_more f q.fares _ h.has })
      by false true e there present =
          elim (past_or_gone q.next (sent_number c) f q.fares numbers (present refl) h.has) as (λ x. Present n f (left t k).store ⊎ Gone)
          [ inl m ↦ inl (record { queue = _; there = there; has = m }) | inr l ↦ inr (e, l) ]
      by false false e there present = inl (record { queue = q; there = there; has = h.has })

-- a run
present_or_acknowledged : (n : ℕ) (f : Fare) (us : List Turn) (k : Kept) → Present n f k.store →
    Among f (present_fares n (run us k).kept.store) ⊎ Acknowledged n f.number us (run us k).replies
unfolding run answers end
present_or_acknowledged n f [] k h = inl (rw (present_are n k.store h.queue h.there) h.has)
present_or_acknowledged n f (t ∷ us) k h =
    elim (stays_or_gone n f t k h)
    as (λ x. Among f (present_fares n (run us (left t k)).kept.store) ⊎ Acknowledged n f.number (t ∷ us) (reply t k ∷ (run us (left t k)).replies)) [
      | inl p ↦ later (present_or_acknowledged n f us (left t k) p)
      | inr g ↦ inr (inl g)
    ]
  where
    later : Among f (present_fares n (run us (left t k)).kept.store) ⊎ Acknowledged n f.number us (run us (left t k)).replies →
        Among f (present_fares n (run us (left t k)).kept.store) ⊎ Acknowledged n f.number (t ∷ us) (reply t k ∷ (run us (left t k)).replies)
    later (inl m) = inl m
    later (inr g) = inr (inr g)

-- the fare of an append that was answered 00, whatever comes after it
append_stays : (n : ℕ) (q : FareQueue) (t : Turn) (us : List Turn) (k : Kept) → stored_queue n k.store ≡ some q →
    appends n t.command ≡ true → answered_00 (reply t k) ≡ true →
    Among (fare q.next (sent_body t.command)) (present_fares n (run us (left t k)).kept.store) ⊎
    Acknowledged n q.next us (run us (left t k)).replies
unfolding appended
append_stays n q t us k h a d =
    let f = fare q.next (sent_body t.command) in
    let there = rw (a, d) at (turn_queue n t k q h).left in
    present_or_acknowledged n f us (left t k) (record { queue = _; there = there; has = among_last f q.fares })

-- and wherever it stands in a run: rs are the replies to what comes before it, r its own, ss those to what comes after
stays_from : (n : ℕ) (a : Account) (ts : List Turn) (t : Turn) (us : List Turn) (k : Kept) (rs : List Reply) (r : Reply) (ss : List Reply) →
    stored_queue n k.store ≡ some (known a) → length rs ≡ length ts → (run (ts ++ (t ∷ us)) k).replies ≡ rs ++ (r ∷ ss) →
    appends n t.command ≡ true → answered_00 r ≡ true →
    Among (fare (account n ts rs a).next (sent_body t.command)) (present_fares n (run (ts ++ (t ∷ us)) k).kept.store) ⊎
    Acknowledged n (account n ts rs a).next us ss
unfolding run answers end account
stays_from n a [] t us k [] r ss h l e append done =
    let own : reply t k ≡ r = cc in
    let later : (run us (left t k)).replies ≡ ss = cc in
    rw later at (append_stays n (known a) t us k h append (rw own done))
stays_from n a [] t us k (p ∷ rs) r ss h l e append done = absurd (omega arith)
stays_from n a (u ∷ ts) t us k [] r ss h l e append done = absurd (omega arith)
stays_from n a (u ∷ ts) t us k (p ∷ rs) r ss h l e append done =
    let own : reply u k ≡ p = cc in
    let later : (run (ts ++ (t ∷ us)) (left u k)).replies ≡ rs ++ (r ∷ ss) = cc in
    let long : length rs ≡ length ts = omega arith in
    rw own at (stays_from n (noted n u (reply u k) a) ts t us (left u k) rs r ss (turn_known n u k a h) long later append done)

pub never_lost : (n : ℕ) (q : FareQueue) (ts : List Turn) (t : Turn) (us : List Turn) (k : Kept) (rs : List Reply) (r : Reply) (ss : List Reply) →
    stored_queue n k.store ≡ some q → length rs ≡ length ts → (run (ts ++ (t ∷ us)) k).replies ≡ rs ++ (r ∷ ss) →
    appends n t.command ≡ true → answered_00 r ≡ true → NeverLost n q ts t us rs ss (run (ts ++ (t ∷ us)) k).kept.store
never_lost n q ts t us k rs r ss h l e append done = stays_from n (opening q) ts t us k rs r ss (unfold opening in h) l e append done
