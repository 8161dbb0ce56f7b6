-- Fields stored one after the other, as the loop of `store_content` does.
use Prim.Native.Nat.{ℕ, ◌≤◌, ◌<◌}
use mathlib.Core.Path.{◌≡◌, refl, sym, ap, ◌∙◌}
use mathlib.Core.Bool.{Bool, true, false, ◌&&◌}
use mathlib.Core.List.{List, [], ◌∷◌}
use mathlib.Core.Logic.{inl, inr}
use mathlib.Core.Option.{Option, none, some}
use native.Mathlib.Omega.{arith}
use borrow.Author.Tests.{eqb-true, eq-eqb, ne_eqb, le-leb, ltb-true}
use lib.Dec.{eqb, ltb, leb}
use lib.ListN.{length, get_or, drop}
use Rattle.rules.specs.declared.Slot.{Slot}
use Rattle.std.specs.Prelude as std
use Rattle.std.specs.Prelude.{if◌then◌else◌, Some, None, Result, Ok, Err}
use Rattle.rules.specs.Basic.{among, rising_from, is_some}
use Rattle.rules.specs.Expression.{expression, read_expression, is_state, may_become}
use Rattle.rules.specs.Object.{Object}
use Rattle.rules.specs.Metadata.{Field, field, sent_fields, field_allowed, fields_allowed, metadata_allowed}
use Rattle.rules.specs.Metadata.{value_of, sent_state, sent_expression, with_fields}
use Rattle.laws.proofs.Tests.{and_left, and_right}
use Rattle.laws.proofs.Expressions.{expression_back}
use Rattle.laws.proofs.Fitting.{fields_fit}
use Rattle.record.specs.Places.{object_at, Stored, with_record}
use Rattle.change.specs.Change.{with_lcso, with_expressions, with_expression}
use Rattle.change.proofs.Records.{read_allowed}
use Rattle.change.proofs.Rewritten.{Rewritten, left_start, left_then}
use Rattle.reader.specs.declared.Field as code
use Rattle.reader.specs.declared.Malformed.{Malformed}
use Rattle.reader.specs.Content.{told, seen, field_at, place_after}
use Rattle.reader.proofs.Fields.{gave, passed}
use Rattle.content.specs.Storing.{tag_slot}
use Rattle.content.proofs.Filling.{tags, Filling, First, first, none_left, Tag, its_tag}
use Rattle.content.proofs.Judging.{filling}

-- one field --------------------------------------------------------------------------------------------------------------------

-- every state is above 0, so that at LcsO 0 all is allowed that is allowed at any
allowed_low : (lcso : ℕ) (f : Field) → field_allowed lcso f ≡ true → field_allowed 0 f ≡ true
unfolding field_allowed may_become
allowed_low lcso f h = go (eqb f.tag 0xC0) (eqb (length f.value) 1) (is_state (get_or f.value 0 0)) _ _ h
  where
    go : (t u w b : Bool) (x : ℕ) → (if t then u && (w && leb lcso x) else b) ≡ true → (if t then u && (w && leb 0 x) else b) ≡ true
    go true true true b x h = le-leb 0 x (omega arith)
    go true true false b x h = h
    go true false w b x h = h
    go false u w b x h = h

module _ (t : ℕ) (v : List ℕ) (h : field_allowed 0 (field t v) ≡ true) where
  state_field : t ≡ 0xC0 → (eqb (length v) 1 && may_become 0 (get_or v 0 0)) ≡ true
  unfolding field_allowed field
  state_field e = rw (eq-eqb t 0xC0 e) at h

  pub state_there : t ≡ 0xC0 → 0 < length v
  state_there e = omega (arith, eqb-true (length v) 1 (and_left _ _ (state_field e)))

  pub state_sound : t ≡ 0xC0 → is_state (get_or v 0 0) ≡ true
  unfolding may_become
  state_sound e = and_left _ _ (and_right (eqb (length v) 1) _ (state_field e))

  pub expression_sound : (t ≡ 0xC0 → ⊥) → is_some (expression v) ≡ true
  unfolding field_allowed field
  expression_sound n = and_right (among (0xD0 ∷ 0xD1 ∷ 0xD3 ∷ []) t) _ (rw (ne_eqb t 0xC0 n) at h)

  -- the change of the LcsO or of a slot is that of the field
  state_change : t ≡ 0xC0 → with_lcso (get_or v 0 0) ≡ with_fields (field t v ∷ [])
  unfolding with_lcso with_fields value_of sent_state sent_expression field
  state_change e = rw e

  expression_change : (t ≡ 0xC0 → ⊥) → with_expression (tag_slot t) (read_expression v) ≡ with_fields (field t v ∷ [])
  unfolding with_expression with_expressions tag_slot with_fields value_of sent_state sent_expression field
  expression_change n = λ i o. go (its_tag 0 (field t v) h) o i
    where
      read_is : expression v ≡ some (read_expression v)
      read_is = let (a, q) = read_allowed v (expression_sound n) in ap expression (sym q) ∙ expression_back (read_expression v) a

      go : Tag t → (o : Object) → with_expression (tag_slot t) (read_expression v) o ≡ with_fields (field t v ∷ []) o
      go (inl e) o = absurd (n e)
      go (inr (inl e)) o = rw (e, read_is)
      go (inr (inr (inl e))) o = rw (e, read_is)
      go (inr (inr (inr e))) o = rw (e, read_is)

  module _ (p : ℕ) (b r : List ℕ) where
    pub state_stored : t ≡ 0xC0 → r ≡ with_record p (with_lcso (get_or v 0 0) (object_at p b)) b →
        r ≡ with_record p (with_fields (field t v ∷ []) (object_at p b)) b
    state_stored e f = rw (state_change e) at f

    pub expression_stored : (s : Slot) → (t ≡ 0xC0 → ⊥) → s ≡ tag_slot t → r ≡ with_record p (with_expression s (read_expression v) (object_at p b)) b →
        r ≡ with_record p (with_fields (field t v ∷ []) (object_at p b)) b
    expression_stored s n e f = rw (e, expression_change n) at f

  -- one field more is stored
  left_field : (p : ℕ) (b : List ℕ) (o : Object) (b1 b2 : List ℕ) → Rewritten p b o b1 →
      b2 ≡ with_record p (with_fields (field t v ∷ []) (object_at p b1)) b1 → Rewritten p b (with_fields (field t v ∷ []) o) b2
  unfolding fields_allowed
  left_field p b o b1 b2 l = left_then p b o b1 l (with_fields (field t v ∷ [])) b2 (fields_fit 0 o (field t v ∷ []) l.allowed (rw h))

-- field after field ------------------------------------------------------------------------------------------------------------

-- a tag that is not above those before is not there
absent : (t u : ℕ) (fs : List Field) → t ≤ u → rising_from u (tags fs) ≡ true → value_of t fs ≡ none
unfolding value_of rising_from
absent t u [] l h = refl
absent t u (f ∷ fs) l h =
    let k = ltb-true u f.tag (and_left _ _ h) in
    rw (ne_eqb t f.tag (λ e. omega arith)) (absent t f.tag fs (omega arith) (and_right (ltb u f.tag) _ h))

module _ (f : Field) (fs : List Field) (h : rising_from f.tag (tags fs) ≡ true) where
  -- one part of an object: first the field, then the others
  in_turn : {A : Type 0} (sent : Option (List ℕ) → A → A) → ((x : A) → sent none x ≡ x) → (t : ℕ) (old : A) →
      sent (value_of t fs) (sent (value_of t (f ∷ [])) old) ≡ sent (value_of t (f ∷ fs)) old
  unfolding value_of
  in_turn sent id t old = go (eqb t f.tag) refl
    where
      go : (u : Bool) → eqb t f.tag ≡ u →
          sent (value_of t fs) (sent (if u then some f.value else none) old) ≡ sent (if u then some f.value else value_of t fs) old
      go true e = let k = eqb-true t f.tag e in rw (absent t f.tag fs (omega arith) h) (id _)
      go false e = rw id

  fields_in_turn : (o : Object) → with_fields fs (with_fields (f ∷ []) o) ≡ with_fields (f ∷ fs) o
  unfolding with_fields
  fields_in_turn o =
      let states = in_turn sent_state (λ x. unfold sent_state in refl) in
      let expressions = in_turn sent_expression (λ x. unfold sent_expression in refl) in
      rw (states 0xC0 o.lcso, expressions 0xD0 o.change, expressions 0xD1 o.read, expressions 0xD3 o.execute)

-- up to k the fields of m are stored: b was the store before them and b1 is the store now
pub record Going (p k : ℕ) (m b b1 : List ℕ) : Type 0 where
  pub lcso : ℕ
  pub last : ℕ
  pub object : Object
  pub left : Rewritten p b object b1
  pub rest : Filling lcso last (drop k m)
  pub comes_to : with_fields rest.fs object ≡ with_fields (sent_fields m) (object_at p b)

pub going_start : (p : ℕ) (m b : List ℕ) → Stored p b → metadata_allowed (object_at p b).lcso m ≡ true → Going p 2 m b b
unfolding filling
going_start p m b s h =
    record { lcso = _; last = 0; object = object_at p b; left = left_start p b s; rest = filling (object_at p b).lcso m h; comes_to = refl }

-- where a reader gave no field, none is seen
none_seen : (r : std.Option (Result code.Field Malformed)) (f : Field) → seen r ≡ Some (Ok f) → ((c : code.Field) → r ≡ Some (Ok c) → ⊥) → ⊥
none_seen None f q o = cc
none_seen (Some (Ok c)) f q o = o c refl
none_seen (Some (Err e)) f q o = cc

module _ (p k : ℕ) (m b b1 : List ℕ) (g : Going p k m b b1) where
  module _ (r : std.Option (Result code.Field Malformed)) (is : seen r ≡ field_at k m) where
    going_over : ((f : Field) → field_at k m ≡ Some (Ok f) → ⊥) → b1 ≡ with_record p (with_fields (sent_fields m) (object_at p b)) b
    unfolding with_fields value_of sent_state sent_expression among
    going_over o =
        let n = none_left k m g.rest.fs g.rest.bytes o in
        g.left.bytes ∙ ap (λ x. with_record p x b) (ap (λ fs. with_fields fs g.object) (sym n) ∙ g.comes_to)

    pub going_end : ((f : code.Field) → r ≡ Some (Ok f) → ⊥) → b1 ≡ with_record p (with_fields (sent_fields m) (object_at p b)) b
    going_end o = going_over (λ f q. none_seen r f (is ∙ q) o)

    pub going_done : r ≡ None → b1 ≡ with_record p (with_fields (sent_fields m) (object_at p b)) b
    going_done h = going_end (λ f q. let z : None ≡ Some (Ok f) = sym h ∙ q in cc)

    pub going_malformed : (n : Result code.Field Malformed) → r ≡ Some n → (e : Malformed) → n ≡ Err e →
        b1 ≡ with_record p (with_fields (sent_fields m) (object_at p b)) b
    going_malformed n there e err = going_end (λ f q. let z : Some (Err e) ≡ Some (Ok f) = sym (there ∙ ap Some err) ∙ q in cc)

    module _ (n : Result code.Field Malformed) (some : r ≡ Some n) (f : code.Field) (ok : n ≡ Ok f) where
      this : First g.lcso g.last k (told f) m g.rest.fs
      this = first g.lcso g.last k m (told f) (gave k m r is n some f ok) g.rest

      pub going_allowed : field_allowed 0 (told f) ≡ true
      going_allowed = allowed_low g.lcso (told f) this.allowed

      pub going_next : (b2 : List ℕ) → b2 ≡ with_record p (with_fields (told f ∷ []) (object_at p b1)) b1 →
          (j : ℕ) → j ≡ place_after k m → Going p j m b b2
      going_next b2 q j behind =
          rw (behind ∙ passed k m (told f) (gave k m r is n some f ok))
          (record {
            lcso = g.lcso;
            last = (told f).tag;
            object = with_fields (told f ∷ []) g.object;
            left = left_field f.tag f.value.now going_allowed p b g.object b1 b2 g.left q;
            rest = this.rest;
            comes_to =
                fields_in_turn (told f) this.rest.fs this.rest.rise g.object ∙
                ap (λ x. with_fields x g.object) (sym this.is) ∙ g.comes_to;
          })
