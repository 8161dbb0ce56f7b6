-- What walks of a function's code by hand share: that a walk proves its function, how it ends, and a local as an operand of a call.
use mathlib.Core.Path.{◌≡◌}
use Prim.Native.Nat.{ℕ}
use mathlib.Core.List.{List, [], ◌∷◌}
use lib.ListN.{get_or}
use seplogic.Ra.Ura.{Ura}
use base.Fraction.{full_share}
use mir.Syntax.{Fn, Opd, copy, place}
use mir.Val.{Val}
use base.Logic.{SProp, ent, sep, ex, via, fst∗}
use base.Fml.{Fml, fat}
use prog.Model.{Model}
use prog.Routine.{Callee, Env}
use prog.Wp.{Env as Locals, WpFn, Closed, no_local}
use types.Logic.{Logic, sem}
use types.Kit.{Item, nth, ‵, ◌⊛◌, mean, ⋆, ◌$◌, ◌∵◌, !, qed, join, show, frame, updating, done, now as at_once}
use types.Run.{Opds, from, stop, load, look, and_then}
use contract.Lifetimes.{Lfts}
use contract.Monad.{fact}
use contract.Running.{Running, tables}
use denote.RattleType.{RattleType, flat}
use denote.Laws.{Are, Ises, Spells, Tellss, valss}
use denote.Signature.{Signature, types_at}
use denote.Steps.{said}
use denote.Triple.Entry.{Vals, on_entry}
use denote.Triple.Spec.{triple_of, Spec}
use denote.Triple.Statement.{Contract, Triple}
use denote.Triple.Table.{entered}
use denote.Triple.Walked.{says}

module _ {M : Type 1} {𝓤 : Ura M} (𝓛 : Logic 𝓤) (𝓜 : Model 𝓤 𝓛.H) (𝓡 : Running 𝓤 𝓛.H 𝓜) (γ : Env) where
  open 𝓛 use {H}

  module _ (S : Signature) (c : Spec 𝓤 S) (sp : (κs : Lfts S.lifetimes) → Spells (types_at S.params κs)) where
    abbrev Whole : Contract 𝓤
    Whole = triple_of 𝓛 S c

    -- the parameters' machine values, written out
    abbrev low : (y : Whole.Ghost) → Vals S y.0.0
    low y = valss (types_at S.params y.0.0) (sp y.0.0) y.0.3

    -- a function meets its contract, from a walk with these and their relations in hand
    pub proved : (k : Callee) (f : Fn) → Closed 𝓤 H (tables 𝓤 H 𝓜 𝓡 γ).C (tables 𝓤 H 𝓜 𝓡 γ).Λ k f →
        ((κs : Lfts S.lifetimes) → Tellss (types_at S.params κs) (Ises (types_at S.params κs)) (sp κs)) →
        ((y : Whole.Ghost) → Are (types_at S.params y.0.0) (Ises (types_at S.params y.0.0)) y.0.3 (low y) →
        ent 𝓤 (on_entry 𝓛 S y.0.0 y.0.1 y.0.3 (low y))
        (WpFn 𝓤 H (tables 𝓤 H 𝓜 𝓡 γ).C (tables 𝓤 H 𝓜 𝓡 γ).Λ f (flat (types_at S.params y.0.0) (low y)) (Whole.post y))) →
        Triple 𝓤 ((tables 𝓤 H 𝓜 𝓡 γ).C k) Whole
    proved k f closed tl walk = entered 𝓤 H Whole (tables 𝓤 H 𝓜 𝓡 γ).C (tables 𝓤 H 𝓜 𝓡 γ).Λ k f closed (λ y.
        via 𝓤 (on_entry 𝓛 S y.0.0 y.0.1 y.0.3 y.0.4) (fst∗ 𝓤 _ ((c y.0.0 y.0.3).requires y.1))
        (said 𝓛 S y.0.0 y.0.1 (sp y.0.0) (tl y.0.0) y.0.3
        (λ us. WpFn 𝓤 H (tables 𝓤 H 𝓜 𝓡 γ).C (tables 𝓤 H 𝓜 𝓡 γ).Λ f (flat (types_at S.params y.0.0) us) (Whole.post y)) y.0.4 (walk y)))

-- what is said at last of what was passed
abbrev pub Said : {M : Type 1} {𝓤 : Ura M} (𝓛 : Logic 𝓤) (L : Type 0) → (L → Fml) → (L → Type 0) → SProp 𝓤
Said {𝓤 = 𝓤} 𝓛 L last φ = ex 𝓤 (λ (ls : L). sep 𝓤 (sem 𝓛 (last ls)) (fact 𝓤 (φ ls)))

-- what a call leaves: its tokens, an answer, and the last values of what it was passed; of the two its clause holds
abbrev pub Left : {M : Type 1} {𝓤 : Ura M} (𝓛 : Logic 𝓤) → Item 𝓤 → (R : RattleType) (L : Type 0) → (L → Fml) → (R.Denot → L → Type 0) → Val →
    SProp 𝓤
Left {𝓤 = 𝓤} 𝓛 T R L last φ w = 𝓛.H.⇛ (ex 𝓤 (λ (r : R.Denot). sep 𝓤 (mean 𝓛 (T ⊛ ‵ (R.own_val r (w ∷ [])))) (Said 𝓛 L last (φ r))))

module _ {M : Type 1} {𝓤 : Ura M} (𝓛 : Logic 𝓤) where
  -- how a walk ends
  pub leaves : (T : Item 𝓤) (R : RattleType) (L : Type 0) (last : L → Fml) (φ : R.Denot → L → Type 0) (w : Val) (r : R.Denot) (ls : L) → φ r ls →
      ent 𝓤 (⋆ 𝓛 (T ∷ ‵ (R.own_val r (w ∷ [])) ∷ ‵ (last ls) ∷ [])) (Left 𝓛 T R L last φ w)
  leaves T R L last φ w r ls e =
      qed 𝓛 (T ∷ ‵ (R.own_val r (w ∷ [])) ∷ ‵ (last ls) ∷ []) ∵ updating ! $ at_once ! $
      show ! (λ (r : R.Denot). sep 𝓤 (mean 𝓛 (T ⊛ ‵ (R.own_val r (w ∷ [])))) (Said 𝓛 L last (φ r))) r $ join ! $ frame ! $
      show ! (λ (ls : L). sep 𝓤 (sem 𝓛 (last ls)) (fact 𝓤 (φ r ls))) ls $ says ! e $ done !

module _ {M : Type 1} {𝓤 : Ura M} {𝓛 : Logic 𝓤} {K : Type 0} {Γ : List (Item 𝓤)} where
  -- a local is an operand
  open 𝓛 use {H}

  pub gives : K → (n : ℕ) {E : Locals 𝓤 H} {i : ℕ} {v : Val} {xs : List Opd} {vs : List Val} →
      nth 𝓛 n Γ ≡ ‵ (fat full_share (get_or E i (no_local 𝓤 H)).0 (get_or E i (no_local 𝓤 H)).1 0 v) → Opds K 𝓛 Γ E xs vs →
      Opds K 𝓛 Γ E (copy (place i []) ∷ xs) (v ∷ vs)
  gives t n e = and_then t (load t (from t (stop t)) (look t n e))
