-- From the turns of the loop to the rules' run of the list.
use Prim.Native.Nat.{ℕ, suc, ◌+◌, ◌-◌, ◌^◌, ◌≤◌, ◌<◌, min}
use mathlib.Core.Path.{◌≡◌, sym, ap, ◌∙◌}
use mathlib.Core.List.{List, [], ◌∷◌, ◌++◌, map, flat_map, append-nil, append_assoc}
use native.Mathlib.Nat.{add-zero, sub-zero, add-sub_cancel_left}
use native.Mathlib.Numerals.{add-one}
use native.Mathlib.Omega.{arith}
use lib.ListN.{length, get_or, take, drop, set, length-append, length-drop, length-set, take-append-drop, length-take}
use lib.Seq.{take_at, drop_at, drop-drop, get_or-drop, take-suc-set, length-take-le, take_all}
use Rattle.mixing.specs.Runs.{answers, end}
use Rattle.rules.specs.declared.Session.{Session}
use Rattle.rules.specs.Step.{After, step}
use Rattle.rules.specs.Run.{Reply, Kept, reply, left, run}
use Rattle.laws.proofs.Keeps.{step_room_length}
use Rattle.primitives.specs.Bytes.{over}
use Rattle.element.specs.declared.Answer.{Answer}
use Rattle.element.specs.Executed.{executed, Executes}
use Rattle.runs.specs.Lists.{Lent, Returned, width, cut, behind, by_rules, returned, told, in_place}

-- `turn`: a room lent as a part of all rooms, put back
module _ (commands rooms store : List ℕ) (session : Session) (at n to m : ℕ) (fits : to + m ≤ length rooms) where
  told_length : length (told commands rooms store session at n to m).room ≡ m
  told_length = step_room_length _ _ store session ∙ length-take-le m (drop to rooms) (simp length-drop (omega arith))

  pub put_back : (r : Answer) (room' store' : List ℕ)
      → Executes (take (at + n - at) (drop at commands)) (take (to + m - to) (drop to rooms)) store session r room' store'
      → executed r (take to rooms ++ (room' ++ drop (to + m - to) (drop to rooms))) store' ≡ in_place to rooms (told commands rooms store session at n to m)
  unfolding over
  put_back r room' store' e =
      rw (add-sub_cancel_left to m, drop-drop, told_length)
      (ap (λ (a : After). record { outcome = a.outcome; room = take to rooms ++ (a.room ++ drop (to + m) rooms); store = a.store; session = a.session })
      (rw (add-sub_cancel_left at n, add-sub_cancel_left to m) at e))

-- `run`: what is done, and then what the rules' run of the rest leaves
unfoldable pub ahead : ℕ → (outcomes_done rooms_done commands sizes rooms spaces : List ℕ) → Kept → Returned
ahead n od rd commands sizes rooms spaces k =
    let a = run (cut n commands sizes rooms spaces) k in
    record {
      rooms = rd ++ (flat_map (λ (r : Reply). r.room) a.replies ++ behind n rooms spaces);
      outcomes = od ++ map (λ (r : Reply). r.outcome) a.replies;
      store = a.kept.store;
      session = a.kept.session;
    }

-- one turn more is done
one_turn : (n w v : ℕ) (od rd commands sizes rooms spaces store : List ℕ) (session : Session) → width sizes commands ≡ w → width spaces rooms ≡ v
    → let a : After = step (take w commands) (take v rooms) store session in
    ahead n (od ++ (a.outcome ∷ [])) (rd ++ a.room) (drop w commands) (drop 1 sizes) (drop v rooms) (drop 1 spaces) (record { store = a.store; session = a.session })
    ≡ ahead (suc n) od rd commands sizes rooms spaces (record { store = store; session = session })
unfolding ahead run cut behind answers end reply left flat_map
one_turn n w v od rd commands sizes rooms spaces store session ew ev = rw (ew, ev) (simp append_assoc)

-- the part of a list that starts further on
next_width : (sizes l : List ℕ) (i at : ℕ) → width (drop i sizes) (drop at l) ≡ min (get_or sizes i 0) (length l - at)
next_width sizes l i at = rw (get_or-drop i sizes 0 0, add-zero, length-drop)

-- what the loop has done and what is ahead of it
abbrev pub pending : Lent → (store rooms outcomes : List ℕ) → Session → (at to i : ℕ) → Returned
pending l store rooms outcomes session at to i =
    ahead (length outcomes - i) (take i outcomes) (take to rooms) (drop at l.commands) (drop i l.sizes) (drop to rooms) (drop i l.spaces)
    (record { store = store; session = session })

-- so the places move on
turned : (l : Lent) (store rooms outcomes : List ℕ) (session : Session) (at to i n m : ℕ) → i < length outcomes → to + m ≤ length rooms
    → n ≡ min (get_or l.sizes i 0) (length l.commands - at) → m ≡ min (get_or l.spaces i 0) (length rooms - to)
    → let a : After = told l.commands rooms store session at n to m in
    pending l a.store (over to a.room rooms) (set outcomes i a.outcome) a.session (at + n) (to + m) (i + 1)
    ≡ pending l store rooms outcomes session at to i
unfolding over
turned l store rooms outcomes session at to i n m h f en em =
    let a : After = told l.commands rooms store session at n to m in
    let e : length a.room ≡ m = told_length l.commands rooms store session at n to m f in
    let past : length (take to rooms ++ a.room) ≡ to + m = simp (length-append, length-take) (omega arith) in
    let count : length outcomes - i ≡ suc (length outcomes - (i + 1)) = omega arith in
    let front : take (i + 1) (set outcomes i a.outcome) ≡ take i outcomes ++ (a.outcome ∷ []) = rw add-one (take-suc-set outcomes i a.outcome h) in
    rw (← append_assoc, take_at (take to rooms ++ a.room) _ (to + m) past, drop_at (take to rooms ++ a.room) _ (to + m) past, e, front, length-set, count)
    (rw (← drop-drop n at l.commands, ← drop-drop 1 i l.sizes, ← drop-drop m to rooms, ← drop-drop 1 i l.spaces)
    (one_turn _ n m _ _ _ _ _ _ store session (next_width l.sizes l.commands i at ∙ sym en) (next_width l.spaces rooms i to ∙ sym em)))

-- the loop: the turns that are done, and then the rules' run of the others, come to the rules' run of all
pub record Loop (l : Lent) (store rooms outcomes : List ℕ) (session : Session) (at to i : ℕ) : Type 0 where
  pub same : pending l store rooms outcomes session at to i ≡ by_rules l
  pub at_in : at ≤ length l.commands
  pub to_in : to ≤ length rooms
  pub i_in : i ≤ length outcomes
  pub store_same : length store ≡ length l.store
  pub rooms_same : length rooms ≡ length l.rooms
  pub outcomes_same : length outcomes ≡ length l.outcomes
  pub outcomes_fit : length outcomes < 2 ^ 63

pub loop_entered : (l : Lent) → length l.outcomes < 2 ^ 63 → Loop l l.store l.rooms l.outcomes l.session 0 0 0
unfolding ahead by_rules
loop_entered l h =
    let same : pending l l.store l.rooms l.outcomes l.session 0 0 0 ≡ by_rules l = rw sub-zero in
    search arith

module _ (l : Lent) (store rooms outcomes : List ℕ) (session : Session) (at to i : ℕ) (inv : Loop l store rooms outcomes session at to i) where
  pub loop_again : (n m : ℕ) (r : Answer) (store' rooms' : List ℕ) → i < length l.outcomes
      → n ≡ min (get_or l.sizes i 0) (length l.commands - at) → m ≡ min (get_or l.spaces i 0) (length rooms - to)
      → executed r rooms' store' ≡ in_place to rooms (told l.commands rooms store session at n to m)
      → length store' ≡ length store → length rooms' ≡ length rooms
      → Loop l store' rooms' (set outcomes i r.outcome) r.session (at + n) (to + m) (i + 1)
  loop_again n m r store' rooms' h en em e ls lr =
      let same : pending l store' rooms' (set outcomes i r.outcome) r.session (at + n) (to + m) (i + 1) ≡ by_rules l =
      ap (λ (b : After). pending l b.store b.room (set outcomes i b.outcome) b.session (at + n) (to + m) (i + 1)) e
      ∙ turned l store rooms outcomes session at to i n m (omega arith) (omega arith) en em ∙ inv.same in
      let kept : length (set outcomes i r.outcome) ≡ length outcomes = length-set outcomes i r.outcome in
      search arith

  pub loop_over : length l.outcomes ≤ i → returned rooms outcomes store session ≡ by_rules l
  unfolding ahead run cut behind answers end flat_map
  loop_over h =
      let none_left : length outcomes - i ≡ 0 = omega arith in
      let ended : returned rooms outcomes store session ≡ pending l store rooms outcomes session at to i =
      rw (none_left, append-nil, take_all i outcomes (omega arith), take-append-drop) in
      ended ∙ inv.same
