-- On a command as demand 3 takes it, the rules do what the machine of cells does.
use Prim.Native.Nat.{ℕ, max}
use mathlib.Core.Bool.{true, false}
use mathlib.Core.List.{List, [], ◌∷◌}
use mathlib.Core.Option.{Option, none, some}
use mathlib.Core.Path.{◌≡◌, refl, sym, ap, ◌∙◌}
use native.Mathlib.Omega.{arith}
use borrow.Author.Tests.{lt-ltb, le-ltb}
use lib.ListN.{length}
use Rattle.mixing.specs.Cells.{Ruling, repacked, ruling, store_after, answer, after}
use Rattle.mixing.proofs.Commute.{Agree}
use Rattle.mixing.proofs.Frame.{repacked_pack}
use Rattle.rules.specs.declared.Session.{Session}
use Rattle.rules.specs.Verdict.{accepted}
use Rattle.rules.specs.Basic.{is_some, or_else}
use Rattle.rules.specs.Command.{row, object_number}
use Rattle.rules.specs.Object.{Object, in_session}
use Rattle.rules.specs.Layout.{pack, unpack, find}
use Rattle.rules.specs.Session.{with_error}
use Rattle.rules.specs.Chain.{◌refused◌or◌, ◌and_then◌}
use Rattle.rules.specs.Access.{Seen, seen}
use Rattle.rules.specs.Refusals as refusals
use Rattle.rules.specs.Step.{After, raised, declined, objects_after, performed, flushed, unanswered, step}
use Rattle.rules.specs.Run.{Turn, Reply, reply, left}
use Rattle.demands.specs.Demand.{Plain}
use Rattle.laws.proofs.Inverse.{pack_unpack}
use Rattle.laws.proofs.Places.{found_stands}
use Rattle.laws.proofs.Verdicts.{verdict_passed}
use Rattle.laws.proofs.Grants.{error_aside}
use Rattle.laws.proofs.Views.{ruling_left}
use Rattle.laws.proofs.Keeps.{step_by, malformed_refused}
use Rattle.demands.proofs.Numbered.{put, changes}
use Rattle.demands.proofs.Cells.{response, object_after, ruled, view, ruled_at, small, rules_machine, lawful}
use Rattle.demands.proofs.Plain.{aimed, ruling_at, ruled_same, stored_is}

module _ (t : Turn) (plain : Plain t) (b : List ℕ) (s : Session) where
  abbrev c : List ℕ
  c = t.command

  not_raised : raised 0 s ≡ s
  unfolding raised with_error
  not_raised = let most : max s.error 0 ≡ s.error = omega arith in rw most

  not_flushed : flushed c s ≡ s
  unfolding flushed
  not_flushed = rw plain.no_flush

  -- by the objects of the store: what is seen, and the ruling
  abbrev see : Option (List Object) → Seen
  see m = seen (or_else m []) s

  abbrev rules : Option (List Object) → Ruling ℕ Object Reply
  rules m = ruled_at (small t) t (is_some m) (see m)

  -- what the machine makes of it
  abbrev following : Option (List Object) → After
  following m =
      let r = rules m in
      record { outcome = r.told.outcome; room = r.told.room; store = repacked put pack b (or_else m []) r.stores; session = raised r.code s }

  -- an accepted command stores what the machine stores, and leaves the session
  accepted_follows : (m : Option (List Object)) → unpack b ≡ m → refusals.verdict (is_some m) c (length t.room) (see m) ≡ accepted →
      let r = refusals.ruling (row c) c (see m) in
      let stores = changes (object_after r) (object_number c ∷ r.counters) (see m).stored in
      (pack (objects_after r (or_else m [])) ≡ repacked put pack b (or_else m []) stores) × (r.does.session ≡ s)
  unfolding seen rules_machine
  accepted_follows none u v = absurd (malformed_refused c (length t.room) (see none) v)
  accepted_follows (some os) u v =
      let early : refusals.early true c s ≡ accepted = (verdict_passed true c (length t.room) (seen os s) v).0 in
      let outside = (aimed t plain true s early).outside_session in
      let n = object_number c in (
        ap pack (sym (stored_is t plain os s (pack_unpack b os u).1 v)) ∙ sym (repacked_pack rules_machine lawful b os _ u),
        rw (ruling_at t plain true s early (seen os s))
            (ruling_left _ c (find n os) (seen os s) (λ o f. ap in_session (found_stands n os o f).number ∙ outside)),
      )

  step_follows : step c t.room b s ≡ following (unpack b)
  unfolding ruled_at ruled response unanswered declined performed repacked
  step_follows =
      step_by (λ a. a ≡ following (unpack b)) c t.room b s
      (λ l. rw (lt-ltb (length t.room) 4 l, not_raised))
      (λ l r e. rw (not_flushed, le-ltb (length t.room) 4 l, (rw not_flushed at e)))
      (λ l e.
      let v = rw not_flushed at e in
      let (stored, left) = accepted_follows (unpack b) refl v in
      rw (not_flushed, le-ltb (length t.room) 4 l, v, stored, left, not_raised))

  -- the machine looks at the session without its last error
  machine_rules : (m : Option (List Object)) → rules m ≡ ruling rules_machine t (with_error 0 s) m
  unfolding rules_machine ruling seen find
  machine_rules none = sym (ruled_same t plain (small t) false (view (with_error 0 s) (λ k. none)) (view s (λ k. none)) (error_aside 0 s) (λ k p. refl))
  machine_rules (some os) = sym (ruled_same t plain (small t) true (seen os (with_error 0 s)) (seen os s) (error_aside 0 s) (λ k p. refl))

  machine_stores : (m : Option (List Object)) → (following m).store ≡ store_after rules_machine t (with_error 0 s) b m
  unfolding store_after ruling rules_machine ruled_at repacked ruled refusals.verdict refusals.early refusals.unsound ◌refused◌or◌ ◌and_then◌
  machine_stores none = elim (small t) as (λ r. repacked put pack b [] (ruled_at r t false (see none)).stores ≡ b) [ true ↦ refl | false ↦ refl ]
  machine_stores (some os) = ap (λ (r : Ruling ℕ Object Reply). repacked put pack b os r.stores) (machine_rules (some os))

pub agrees : (t : Turn) → Plain t → Agree reply left (answer rules_machine) (after rules_machine) t
unfolding reply left answer after rules_machine
agrees t plain =
    record {
      told = λ k.
          ap (λ (a : After). record { outcome = a.outcome; room = a.room }) (step_follows t plain k.store k.session) ∙
          ap (λ (r : Ruling ℕ Object Reply). r.told) (machine_rules t plain k.store k.session (unpack k.store));
      left_at = λ k.
          let store = machine_stores t plain k.store k.session (unpack k.store) in
          let ruled = machine_rules t plain k.store k.session (unpack k.store) in
          ap (λ (a : After). record { store = a.store; session = a.session }) (step_follows t plain k.store k.session) ∙
          (λ i. record { store = store i; session = raised (ruled i).code k.session });
    }
