-- A counter that a condition names, looked up in the store.
use Prim.Native.Nat.{ℕ}
use mathlib.Core.Path.{◌≡◌, sym, ap, ◌∙◌}
use mathlib.Core.Bool.{Bool, true, false, not}
use mathlib.Core.List.{List, []}
use mathlib.Core.Option.{some}
use Rattle.std.specs.Prelude.{Some, None}
use Rattle.rules.specs.declared.Kind.TheVariants.{Counter}
use Rattle.rules.specs.declared.Direction.TheVariants.{Up}
use Rattle.rules.specs.Basic.{is_some, or_else}
use Rattle.rules.specs.Found.{Found}
use Rattle.rules.specs.Object.{Object, is, is_counter, direction}
use Rattle.rules.specs.Layout.{unpack, find, found}
use Rattle.rules.specs.Counter.{exhausted}
use Rattle.rules.specs.Access.{usable}
use Rattle.laws.proofs.Tests.{some_else}
use Rattle.laws.proofs.Fitting.{up_is_counter, up_direction}
use Rattle.record.specs.Places.{object_at, Stored}
use Rattle.store.specs.Way.{way}
use Rattle.store.proofs.Ways.{sound_find}
use Rattle.store.proofs.Placing.{nowhere, finds_it, stored_there}

-- f is what `find_record` found on its way
module _ (n : ℕ) (b : List ℕ) (sound : is_some (unpack b) ≡ true) (f : Found) (e : f ≡ found n (way n b)) where
  in_all : f ≡ found n (or_else (unpack b) [])
  in_all = sound_find n b sound f e

  pub not_usable : f ≡ None → false ≡ usable (find n (or_else (unpack b) []))
  unfolding usable
  not_usable h = rw (nowhere n (or_else (unpack b) []) (sym in_all ∙ h))

  module _ (p : ℕ) (h : f ≡ Some p) where
    pub counter_stored : Stored p b
    counter_stored = stored_there n p b (or_else (unpack b) []) (some_else (unpack b) [] sound) (sym in_all ∙ h)

    -- o is the object there, t what `is_up_counter` said of it
    module _ (o : Object) (eo : o ≡ object_at p b) (t : Bool) (et : t ≡ is (Counter Up) o.kind) where
      there : find n (or_else (unpack b) []) ≡ some o
      there = finds_it n p b (or_else (unpack b) []) (some_else (unpack b) [] sound) (sym in_all ∙ h) ∙ ap some (sym eo)

      pub not_up : t ≡ false → false ≡ usable (find n (or_else (unpack b) []))
      unfolding usable
      not_up k = rw (there, ← et, k)

      pub up_usable : t ≡ true → (z : Bool) → z ≡ exhausted (direction o.kind) o.content → not z ≡ usable (find n (or_else (unpack b) []))
      unfolding usable
      up_usable k z g = let up = sym et ∙ k in rw (there, up, g, up_direction _ up)

pub up_counter : (o : Object) (t : Bool) → t ≡ is (Counter Up) o.kind → t ≡ true → is_counter o.kind ≡ true
up_counter o t et k = up_is_counter _ (sym et ∙ k)
