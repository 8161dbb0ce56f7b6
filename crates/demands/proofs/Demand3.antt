-- Demand 3 of the rules' runs: two lists that name no object in common, and no counter in the conditions of their objects that is the other's, mixed
-- in any way, give every command the same reply, and the same store and session at the end, as one list after the other, whichever goes first.
use Prim.Native.Nat.{ℕ}
use mathlib.Core.Bool.{true}
use mathlib.Core.List.{List, [], ◌∷◌, ◌++◌}
use mathlib.Core.Logic.{◌⊎◌, inl, inr, ⊎_map}
use mathlib.Core.Option.{some}
use mathlib.Core.Path.{◌≡◌, sym, subst}
use Rattle.mixing.specs.Runs.{Mix, both_used_up, first, second, Mixed, All}
use Rattle.mixing.specs.Cells.{answer, after}
use Rattle.mixing.proofs.Commute.{mixed_agree}
use Rattle.mixing.proofs.Feet.{FootAt, Feet, Within, mixing, mixing_within}
use Rattle.rules.specs.Basic.{among}
use Rattle.rules.specs.Command.{object_of}
use Rattle.rules.specs.Object.{Object}
use Rattle.rules.specs.Layout.{find}
use Rattle.rules.specs.Run.{Turn, Kept, reply, left}
use Rattle.demands.specs.Demand.{Plain, Names, object_counters, ConditionOn, During, NamesCounter, TwoLists}
use Rattle.demands.proofs.Numbered.{all_by}
use Rattle.demands.proofs.Cells.{rules_machine, lawful, Foot}
use Rattle.demands.proofs.Plain.{local}
use Rattle.demands.proofs.Follows.{agrees}

-- what a command of the list touches: an object that the list names, or a counter in a condition of one
foot_named : (xs : List Turn) (t : Turn) (k : Kept) → ((n : ℕ) → object_of t.command ≡ some n → Names xs n) → (n : ℕ) →
    FootAt rules_machine Foot t k n → Names xs n ⊎ ConditionOn xs k.store n
unfolding rules_machine
foot_named xs t k names n h = go h.foot.which
  where
    named : Names xs h.foot.number
    named = names h.foot.number h.foot.names

    go : (n ≡ h.foot.number) ⊎ ((o : Object) × (find h.foot.number h.cells ≡ some o) × (among (object_counters o) n ≡ true)) →
        Names xs n ⊎ ConditionOn xs k.store n
    go (inl e) = inl (subst (Names xs) (sym e) named)
    go (inr w) =
        inr
        (record {
          objects = h.cells;
          store_sound = h.sound;
          number = h.foot.number;
          list_names = named;
          object = w.0;
          there = w.1;
          condition_names = w.2;
        })

-- what a run of ts touches, all of them of the list: the same, before or during it
feet_named : (xs ts : List Turn) (k : Kept) → All Plain ts → ((n : ℕ) → Names ts n → Names xs n) → (n : ℕ) → Feet rules_machine Foot ts k n →
    Names xs n ⊎ During xs ts k n
feet_named xs [] k plain names n h = absurd h
feet_named xs (t ∷ ts) k plain names n (inl h) = ⊎_map (λ p. p) inl (foot_named xs t k (λ m p. names m (inl p)) n h)
feet_named xs (t ∷ ts) k plain names n (inr h) =
    let here = subst (λ s. Feet rules_machine Foot ts s n) (sym ((agrees t plain.0).left_at k)) h in
    ⊎_map (λ p. p) inr (feet_named xs ts (left t k) plain.1 (λ m p. names m (inr p)) n here)

-- objects apart, and the counters of each from objects and counters of the other: nothing is common
nothing_common : {A P B Q : ℕ → Type 0} → ((n : ℕ) → A n → B n → ⊥) → ((n : ℕ) → P n → B n ⊎ Q n → ⊥) → ((n : ℕ) → Q n → A n ⊎ P n → ⊥) →
    (n : ℕ) → A n ⊎ P n → B n ⊎ Q n → ⊥
nothing_common objects firsts seconds n (inl p) (inl q) = objects n p q
nothing_common objects firsts seconds n (inl p) (inr q) = seconds n q (inl p)
nothing_common objects firsts seconds n (inr p) q = firsts n p q

-- from any store and session, bad ones too, two lists as the demand takes them, and every mix of them
pub lists_mix : {xs ys zs : List Turn} (m : Mix xs ys zs) (k : Kept) → TwoLists xs ys k → Mixed reply left xs ys zs m k
lists_mix {xs} {ys} m k l =
    mixed_agree reply left (answer rules_machine) (after rules_machine) m k (all_by agrees xs l.first_plain) (all_by agrees ys l.second_plain)
    (mixing rules_machine lawful Foot m k
    (record {
      local_first = all_by local xs l.first_plain;
      local_second = all_by local ys l.second_plain;
      disjoint = λ n p q.
          nothing_common l.no_common_object l.first_counters_apart l.second_counters_apart n
          (feet_named xs xs k l.first_plain (λ j h. h) n p) (feet_named ys ys k l.second_plain (λ j h. h) n q);
    }))

-- "during the run" --------------------------------------------------------------------------------------------------------------

-- A run of one list and then another begins with the run of the first: what is so before or during the run of a list alone is so before or during
-- the longer run.
pub during_longer : (xs ts us : List Turn) (k : Kept) (n : ℕ) → During xs ts k n → During xs (ts ++ us) k n
during_longer xs [] [] k n h = h
during_longer xs [] (u ∷ us) k n h = inl h
during_longer xs (t ∷ ts) us k n (inl h) = inl h
during_longer xs (t ∷ ts) us k n (inr h) = inr (during_longer xs ts us (left t k) n h)

-- so the demand asks no more than that the counters are apart before and during the runs of one list and then the other
pub apart_in_runs : (xs ys : List Turn) (k : Kept) → ((n : ℕ) → During xs (xs ++ ys) k n → Names ys n ⊎ During ys (ys ++ xs) k n → ⊥) →
    (n : ℕ) → NamesCounter xs k n → Names ys n ⊎ NamesCounter ys k n → ⊥
apart_in_runs xs ys k apart n p q = apart n (during_longer xs xs ys k n p) (⊎_map (λ h. h) (during_longer ys ys xs k n) q)

-- what each command touches in the run of a mix is what its list names, before or during that run
within : (xs ys : List Turn) {ts us zs : List Turn} (m : Mix ts us zs) (k : Kept) (P Q : ℕ → Type 0) → All Plain ts → All Plain us →
    ((n : ℕ) → Names ts n → Names xs n) → ((n : ℕ) → Names us n → Names ys n) →
    ((n : ℕ) → Names xs n ⊎ During xs zs k n → P n) → ((n : ℕ) → Names ys n ⊎ During ys zs k n → Q n) → Within rules_machine Foot P Q m k
within xs ys both_used_up k P Q pt pu nt nu p q = tt
within xs ys (first {x = t} m) k P Q pt pu nt nu p q = (
  λ n h. p n (⊎_map (λ z. z) inl (foot_named xs t k (λ j e. nt j (inl e)) n h)),
  subst (Within rules_machine Foot P Q m) ((agrees t pt.0).left_at k)
      (within xs ys m (left t k) P Q pt.1 pu (λ j e. nt j (inr e)) nu (λ n h. p n (⊎_map (λ z. z) inr h)) (λ n h. q n (⊎_map (λ z. z) inr h))),
)
within xs ys (second {y = u} m) k P Q pt pu nt nu p q = (
  λ n h. q n (⊎_map (λ z. z) inl (foot_named ys u k (λ j e. nu j (inl e)) n h)),
  subst (Within rules_machine Foot P Q m) ((agrees u pu.0).left_at k)
      (within xs ys m (left u k) P Q pt pu.1 nt (λ j e. nu j (inr e)) (λ n h. p n (⊎_map (λ z. z) inr h)) (λ n h. q n (⊎_map (λ z. z) inr h))),
)

-- so every mix gives the same also where the counters are apart before and during the run of the mix itself
pub lists_mix_during : {xs ys zs : List Turn} (m : Mix xs ys zs) (k : Kept) → All Plain xs → All Plain ys → ((n : ℕ) → Names xs n → Names ys n → ⊥) →
    ((n : ℕ) → During xs zs k n → Names ys n ⊎ During ys zs k n → ⊥) → ((n : ℕ) → During ys zs k n → Names xs n ⊎ During xs zs k n → ⊥) →
    Mixed reply left xs ys zs m k
lists_mix_during {xs} {ys} {zs} m k px py objects firsts seconds =
    mixed_agree reply left (answer rules_machine) (after rules_machine) m k (all_by agrees xs px) (all_by agrees ys py)
    (mixing_within rules_machine lawful Foot (λ n. Names xs n ⊎ During xs zs k n) (λ n. Names ys n ⊎ During ys zs k n)
    (nothing_common objects firsts seconds) m k (all_by local xs px) (all_by local ys py)
    (within xs ys m k _ _ px py (λ n h. h) (λ n h. h) (λ n h. h) (λ n h. h)))
