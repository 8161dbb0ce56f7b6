-- Tests in code against tests in the rules: small laws that `search` puts together.
use Prim.Native.Nat.{ℕ, ◌≤◌}
use lib.Dec.{leb}
use native.Mathlib.Omega.{arith}
use mathlib.Core.Logic.{◌↔◌}
use mathlib.Core.Path.{◌≡◌, refl, sym, ap, ◌∙◌}
use mathlib.Core.Bool.{Bool, true, false, not, false≢true, not-eq-not}
use borrow.Author.Tests.{le-leb, leb-true}
use Rattle.rules.specs.declared.Refusal.{Refusal}
use Rattle.rules.specs.Verdict.{Verdict, accepted}
use Rattle.std.specs.Prelude.{Err, IsErrAnd, if◌then◌else◌}
use Rattle.std.proofs.lemmas.Result.{err_from_is_err_and}
use Rattle.rules.specs.Chain.{◌refused◌or◌, ◌and_then◌}

-- a step whose test was called: it holds, or it does not and the later steps decide
pub stop_call : {t q : Bool} (k : Refusal) (later : Verdict) → q ≡ t → q ≡ true → Err k ≡ (t refused k or later)
unfolding ◌refused◌or◌
stop_call k later e h = rw (← e, h)

pub next_call : {t q : Bool} {v : Verdict} (k : Refusal) (later : Verdict) → q ≡ t → q ≡ false → v ≡ later → v ≡ (t refused k or later)
unfolding ◌refused◌or◌
next_call k later e h f = rw (← e, h) f

pub ruleset steps = (stop_call, next_call, refl)

-- a step that was judged by itself, as t was called: it refuses, or it does not and the later steps decide
pub stopped : (t q : Bool) (k x : Refusal) (later : Verdict) → q ≡ t → Err x ≡ (q refused k or accepted) → Err x ≡ (t refused k or later)
unfolding ◌refused◌or◌
stopped t true k x later c e = rw (← c) e
stopped t false k x later c e = let z : ◌≡◌ {A = ℕ} 0 1 = cc in absurd (omega arith)

pub passed_by : (q : Bool) (k : Refusal) → accepted ≡ (q refused k or accepted) → q ≡ false
unfolding ◌refused◌or◌
passed_by true k e = let z : ◌≡◌ {A = ℕ} 0 1 = cc in absurd (omega arith)
passed_by false k e = refl

pub gone_on : (t q : Bool) (k : Refusal) (v later : Verdict) → q ≡ t → accepted ≡ (q refused k or accepted) → v ≡ later → v ≡ (t refused k or later)
unfolding ◌refused◌or◌
gone_on t q k v later c e f = rw (← c, passed_by q k e) f

-- a verdict that was judged by itself, before later ones
pub stopped_then : (x : Refusal) (v later : Verdict) → Err x ≡ v → Err x ≡ (v and_then later)
unfolding ◌and_then◌
stopped_then x v later e = rw (← e)

pub gone_on_then : (v r later : Verdict) → accepted ≡ v → r ≡ later → r ≡ (v and_then later)
unfolding ◌and_then◌
gone_on_then v r later e f = rw (← e) f

-- what a `?` hands out is the refusal that it met
pub handed_out : (r : Verdict) (x : Refusal) (v : Verdict) → IsErrAnd r (λ y. y ≡ x) → Err x ≡ v → r ≡ v
handed_out r x v h e = let p = err_from_is_err_and r h in rw (p.1, p.2) e

-- a step whose test is the opposite of what was called
pub not_alike : {t q : Bool} → q ≡ t → not q ≡ not t
not_alike e = ap not e

pub ruleset steps_not = (stop_call, next_call, not_alike)

-- a choice by a test that was called
pub if_call : {A : Type 0} {t q : Bool} {r x : A} (y : A) → q ≡ t → q ≡ true → r ≡ x → r ≡ (if t then x else y)
if_call y e h f = rw (← e, h) f

pub else_call : {A : Type 0} {t q : Bool} {r y : A} (x : A) → q ≡ t → q ≡ false → r ≡ y → r ≡ (if t then x else y)
else_call x e h f = rw (← e, h) f

pub ruleset choices = (if_call, else_call, refl)

-- two comparisons that say the same
pub leb_alike : (a b c d : ℕ) → ((a ≤ b) ↔ (c ≤ d)) → leb a b ≡ leb c d
leb_alike a b c d h = by (leb a b) refl
  where
    by : (t : Bool) → leb a b ≡ t → leb a b ≡ leb c d
    by true e = e ∙ sym (le-leb c d (h.0 (leb-true a b e)))
    by false e = e ∙ sym (not-eq-not.0 (λ f. false≢true (sym e ∙ le-leb a b (h.1 (leb-true c d f)))))
