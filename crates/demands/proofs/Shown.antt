-- A data read that is done, with nothing assumed of store and session: what it showed, and that it might be shown. And when the byte of an object
-- of the session is shown.
use Prim.Native.Nat.{ℕ}
use mathlib.Core.Bool.{Bool, true, false, and-true}
use mathlib.Core.List.{List, [], ◌∷◌}
use mathlib.Core.Option.{none, some}
use mathlib.Core.Path.{◌≡◌, refl, sym, ap, ◌∙◌}
use native.Mathlib.Omega.{arith}
use borrow.Author.Tests.{eqb-true, not-false}
use lib.Dec.{eqb, leb}
use lib.ListN.{length}
use Rattle.rules.specs.declared.Session.{Session}
use Rattle.rules.specs.declared.Kind.{Kind}
use Rattle.rules.specs.declared.Kind.TheVariants.{LifeCycle, Status}
use Rattle.rules.specs.declared.Action.{Action}
use Rattle.rules.specs.declared.Action.TheVariants.{GetData}
use Rattle.rules.specs.declared.Row.TheVariants.{OnObject}
use Rattle.rules.specs.Verdict.{accepted}
use Rattle.std.specs.Prelude.{if◌then◌else◌}
use Rattle.rules.specs.Basic.{among, is_some, or_else}
use Rattle.rules.specs.Command.{row, object_number}
use Rattle.rules.specs.Object.{Object, in_session}
use Rattle.rules.specs.Layout.{pack, unpack, find}
use Rattle.rules.specs.Session.{session_object, session_objects}
use Rattle.rules.specs.Access.{Seen, seen, named, grant}
use Rattle.rules.specs.Operation.{shown, operation}
use Rattle.rules.specs.Refusals.{unsound, unusable, verdict}
use Rattle.rules.specs.Step.{flushed, step}
use Rattle.demands.specs.Demand.{is_done, Ready, session_byte, asks_byte, byte_shown, MayReadByte, after_byte, bytes_shown, Shown, of_object, of_session}
use Rattle.laws.proofs.Tests.{or_left, or_right, some_else}
use Rattle.laws.proofs.Inverse.{pack_unpack}
use Rattle.laws.proofs.Puts.{shown_byte}
use Rattle.laws.proofs.Verdicts.{early_passed, verdict_passed}
use Rattle.laws.proofs.Rows.{on_object}
use Rattle.laws.proofs.Named.{named_in_store}
use Rattle.laws.proofs.Grants.{flush_keeps}
use Rattle.laws.proofs.UsedUp.{none_used_up}
use Rattle.laws.proofs.Views.{early_alike}
use Rattle.demands.proofs.Demand1.{done_judged}
use Rattle.demands.proofs.Demand2.{done_accepted, read_accepted, accepted_read, read_step, read_exactly_when, object_named}

-- a get or a set that is done: store and session are sound and the application is usable -------------------------------------------

pub done_ready : (c room store : List ℕ) (s : Session) (a : Action) → row c ≡ OnObject a → is_done (step c room store s) ≡ true →
    Ready room store s (or_else (unpack store) [])
unfolding unsound unusable seen
done_ready c room store s a acts h =
    let (fits, accepted) = done_judged c room store s h in
    let early = sym (early_alike _ c (flushed c s) s (flush_keeps c s)) ∙ (verdict_passed _ c _ _ accepted).0 in
    let p = early_passed (is_some (unpack store)) c s early in
    let closed = or_right (eqb s.lcsa 0x0F) _ p.step_5 in
    let is_open = not-false s.opened (sym (and-true _) ∙ (rw (on_object c a acts).not_open at closed)) in
    search (p, or_left, or_right, not-false, some_else, arith)

-- the object that a command names --------------------------------------------------------------------------------------------------

-- one of the session's three, or none of them
data WhichNamed (n : ℕ) (see : Seen) : Type 0 where
  session_named : (byte : ℕ) (k : Kind) → session_byte n see.session ≡ some byte → named n see ≡ some (session_object n k byte) → WhichNamed n see
  session_not_named : in_session n ≡ false → session_byte n see.session ≡ none → WhichNamed n see

which_named : (n : ℕ) (see : Seen) → WhichNamed n see
unfolding named session_objects session_object find session_byte in_session among
which_named n see = go (eqb n 0xE0C0) refl (eqb n 0xF1C0) refl (eqb n 0xF1C2) refl
  where
    at : (m byte : ℕ) (k : Kind) → eqb n m ≡ true → some (session_object m k byte) ≡ some (session_object n k byte)
    at m byte k e = ap (λ j. some (session_object j k byte)) (sym (eqb-true n m e))

    go : (g : Bool) → eqb n 0xE0C0 ≡ g → (a : Bool) → eqb n 0xF1C0 ≡ a → (e : Bool) → eqb n 0xF1C2 ≡ e → WhichNamed n see
    go true g u a v e = session_named see.session.lcsg LifeCycle (rw g) (rw g (at 0xE0C0 see.session.lcsg LifeCycle g))
    go false g true a v e = session_named see.session.lcsa LifeCycle (rw (g, a)) (rw (g, a) (at 0xF1C0 see.session.lcsa LifeCycle a))
    go false g false a true e = session_named see.session.error Status (rw (g, a, e)) (rw (g, a, e) (at 0xF1C2 see.session.error Status e))
    go false g false a false e = session_not_named (rw (g, a, e)) (rw (g, a, e))

-- what is shown of one byte -----------------------------------------------------------------------------------------------------------

module _ (c : List ℕ) (byte : ℕ) where
  one_shown : shown c (byte ∷ []) ≡ byte_shown c byte
  unfolding byte_shown asks_byte
  one_shown = shown_byte c byte

  one_asked : leb 1 (length (shown c (byte ∷ []))) ≡ asks_byte c
  unfolding byte_shown
  one_asked = ap (λ out. leb 1 (length out)) one_shown ∙ by (asks_byte c)
    where
      by : (t : Bool) → leb 1 (length (if t then byte ∷ [] else [])) ≡ t
      by true = refl
      by false = refl

  -- and what stands after it
  byte_left : (k : Kind) (room store : List ℕ) (see : Seen) →
      bytes_shown (shown c (byte ∷ [])) room store (operation GetData c (session_object (object_number c) k byte) see).session ≡
      bytes_shown (byte_shown c byte) room store (after_byte c see.session)
  unfolding operation session_object after_byte
  byte_left k room store see = rw (one_asked, one_shown)

-- it uses up no counter, so the packing is the store
byte_step : (c room store : List ℕ) (s : Session) (os : List Object) (byte : ℕ) (k : Kind) → Ready room store s os → row c ≡ OnObject GetData →
    named (object_number c) (seen os (flushed c s)) ≡ some (session_object (object_number c) k byte) →
    verdict true c (length room) (seen os (flushed c s)) ≡ accepted → step c room store s ≡ bytes_shown (byte_shown c byte) room store (after_byte c (flushed c s))
unfolding session_object seen grant
byte_step c room store s os byte k ready acts n accepted =
    let see = seen os (flushed c s) in
    let o = session_object (object_number c) k byte in
    let kept = ap pack (none_used_up os) ∙ (pack_unpack store os ready.store_sound).0 in
    read_step c room store s os o ready acts n accepted ∙
    ap (λ b. bytes_shown (shown c (byte ∷ [])) room b (operation GetData c o see).session) kept ∙ byte_left c byte k room store see

-- demand 2: a data read that is done, with nothing assumed of store and session ----------------------------------------------------------

pub read_only_when : (c room store : List ℕ) (s : Session) → row c ≡ OnObject GetData → is_done (step c room store s) ≡ true →
    Shown c room store s (step c room store s)
unfolding session_object seen
read_only_when c room store s acts h =
    let os = or_else (unpack store) [] in
    let ready = done_ready c room store s GetData acts h in
    let accepted = done_accepted c room store s os ready h in
    elim (which_named (object_number c) (seen os (flushed c s))) [
      | session_named byte k b n ↦
          let o = session_object (object_number c) k byte in
          let m = accepted_read c room store s os o ready acts n accepted in
          let fits = rw (one_shown c byte) at m.answer_fits in
          of_session os byte ready (search (m, b, fits)) (byte_step c room store s os byte k ready acts n accepted)
      -- a stored object is found, since step 9 passed
      | session_not_named out b ↦
          let p = object_named c room store s os GetData acts accepted in
          let there = sym (named_in_store (object_number c) (seen os (flushed c s)) out) ∙ p.there in
          let r = read_exactly_when c room store s os p.object ready acts there in
          let may = r.only_when h in
          of_object os p.object ready there may (shown c p.object.content) (r.shows may) (r.when may)
    ]

-- and the byte of an object of the session is shown whenever it may be
pub byte_read_when : (c room store : List ℕ) (s : Session) (os : List Object) (byte : ℕ) → Ready room store s os → row c ≡ OnObject GetData →
    MayReadByte c (length room) (flushed c s) byte → step c room store s ≡ bytes_shown (byte_shown c byte) room store (after_byte c (flushed c s))
unfolding session_object seen grant
byte_read_when c room store s os byte r acts m =
    elim (which_named (object_number c) (seen os (flushed c s))) [
      | session_named other k b n ↦
          let same : other ≡ byte = let f = m.in_session in cc in
          let o = session_object (object_number c) k byte in
          let n' = rw same at n in
          let fits = rw (← one_shown c byte) at m.answer_fits in
          byte_step c room store s os byte k r acts n' (read_accepted c room store s os o r acts n' (search (m, fits)))
      | session_not_named out b ↦ let f = m.in_session in let z : ◌≡◌ {A = ℕ} 0 1 = cc in absurd (omega arith)
    ]
