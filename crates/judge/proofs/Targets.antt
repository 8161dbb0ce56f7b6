-- Which object a command names: the ways out of `find_target`.
use Prim.Native.Nat.{ℕ}
use mathlib.Core.Path.{◌≡◌, sym, ◌∙◌}
use mathlib.Core.Bool.{true}
use mathlib.Core.List.{List, []}
use mathlib.Core.Option.{some}
use borrow.Author.Tests.{ne_eqb}
use Rattle.rules.specs.declared.ObjectNumber.{ObjectNumber}
use Rattle.rules.specs.declared.Kind.{Kind}
use Rattle.rules.specs.declared.Session.{Session}
use Rattle.rules.specs.Found.{Found}
use Rattle.std.specs.Prelude.{Some, None}
use Rattle.rules.specs.Basic.{among, is_some, or_else}
use Rattle.rules.specs.Command.{object_number}
use Rattle.rules.specs.Object.{in_session}
use Rattle.rules.specs.Layout.{unpack, find, found}
use Rattle.rules.specs.Session.{session_object, session_objects}
use Rattle.rules.specs.Access.{seen, seen_in, named}
use Rattle.laws.proofs.Tests.{some_else}
use Rattle.laws.proofs.Named.{named_in_store}
use Rattle.record.specs.Places.{Stored}
use Rattle.store.specs.Way.{way}
use Rattle.store.proofs.Ways.{sound_find}
use Rattle.store.proofs.Placing.{nowhere, finds_it, stored_there}
use Rattle.judge.specs.declared.Target.TheVariants.{InSession, InStore}
use Rattle.judge.specs.Targets.{target_object}

-- a number of the session
pub session_named : (c b : List ℕ) (s : Session) (n : ObjectNumber) (k : Kind) (byte w : ℕ) → n.0 ≡ object_number c → n.0 ≡ w →
    find w (session_objects s) ≡ some (session_object w k byte) → target_object (Some (InSession n k byte)) b ≡ named (object_number c) (seen_in b s)
unfolding target_object named seen
session_named c b s n k byte w e h f = rw (← e, h, f)

-- a number that is none of them
module _ (c b : List ℕ) (s : Session) (n : ℕ) (e : n ≡ object_number c) (sound : is_some (unpack b) ≡ true)
    (g : n ≡ 0xE0C0 → ⊥) (a : n ≡ 0xF1C0 → ⊥) (l : n ≡ 0xF1C2 → ⊥) (r : Found) (on_way : r ≡ found n (way n b)) where
  -- found on the way, and so in the store
  in_all : r ≡ found n (or_else (unpack b) [])
  in_all = sound_find n b sound r on_way

  in_store : named (object_number c) (seen_in b s) ≡ find n (or_else (unpack b) [])
  unfolding seen in_session among
  in_store = rw (← e) (named_in_store n (seen_in b s) (rw (ne_eqb n 0xE0C0 g, ne_eqb n 0xF1C0 a, ne_eqb n 0xF1C2 l)))

  pub found_named : (p : ℕ) → r ≡ Some p → target_object (Some (InStore p)) b ≡ named (object_number c) (seen_in b s)
  unfolding target_object
  found_named p h = sym (in_store ∙ finds_it n p b (or_else (unpack b) []) (some_else (unpack b) [] sound) (sym in_all ∙ h))

  pub found_stored : (p : ℕ) → r ≡ Some p → Stored p b
  found_stored p h = stored_there n p b (or_else (unpack b) []) (some_else (unpack b) [] sound) (sym in_all ∙ h)

  pub found_there : (p : ℕ) → r ≡ Some p → found (object_number c) (or_else (unpack b) []) ≡ Some p
  found_there p h = rw (← e) (sym in_all ∙ h)

  pub nothing_named : r ≡ None → target_object None b ≡ named (object_number c) (seen_in b s)
  unfolding target_object
  nothing_named h = sym (in_store ∙ nowhere n (or_else (unpack b) []) (sym in_all ∙ h))
