-- What the statements about streams and hosts say: for each, examples that have it and examples that do not.
use Prim.Native.Nat.{ℕ, ◌≤◌, ◌<◌}
use mathlib.Core.Bool.{Bool, true, false}
use mathlib.Core.Path.{◌≡◌, refl, ap}
use mathlib.Core.List.{[], ◌∷◌}
use mathlib.Core.Logic.{◌⊎◌, inl, inr}
use native.Mathlib.Omega.{arith}
use lib.ListN.{length, replicate}
use Rattle.rules.specs.Hex.{hex}
use Rattle.frames.specs.declared.Kind.TheVariants.{Command, Response}
use Rattle.std.specs.Prelude.{Option, None}
use Rattle.frames.specs.declared.Kind.{Kind}
use Rattle.frames.specs.declared.Fault.TheVariants.{BadLength, UnknownKind, BadCheck}
use Rattle.frames.specs.declared.Step.{Step}
use Rattle.frames.specs.Cases.{not_yet, same_named, same_step}
use Rattle.dock.specs.Streams.{State, collecting, Reached, Told}
use Rattle.dock.specs.Host.{host_left}
use Rattle.dock.specs.Hosts.{Holding, holding, Calls, over, call, Takes, AsRules, HoweverCut}
use Rattle.dock.specs.Cases.{keeps, hears, frame, same_state}
use Rattle.dock.proofs.Cases.{computed}

-- a test as a number, since numbers that differ are not equal
abbrev bit : Bool → ℕ
bit true = 1
bit false = 0

-- Faults ------------------------------------------------------------------------------------------------------------------

pub told_too_short : Told BadLength (hex "05 00")
unfolding computed
told_too_short = record { now = refl; why = inl (let z : 5 < 6 = omega arith in z) }

pub told_too_long : Told BadLength (hex "1C 06")
unfolding computed
told_too_long = record { now = refl; why = inr (let z : 1563 < 1564 = omega arith in z) }

pub told_kind : Told UnknownKind (hex "06 00 03 00")
unfolding computed
told_kind = record { now = refl; why = refl }

pub told_check : Told BadCheck (hex "06 00 01 00 43 52")
unfolding computed
told_check = record { now = refl; why = refl }

-- not of bytes without the fault
neither : (a b : ℕ) → b ≤ a → a ≤ 1563 → (a < b) ⊎ (1563 < a) → ⊥
neither a b l m (inl h) = absurd (omega arith)
neither a b l m (inr h) = absurd (omega arith)

pub shortest_untold : Told BadLength (hex "06 00") → ⊥
unfolding computed
shortest_untold t = neither 6 6 (omega arith) (omega arith) t.why

pub longest_untold : Told BadLength (hex "1B 06") → ⊥
unfolding computed
longest_untold t = neither 1563 6 (omega arith) (omega arith) t.why

pub known_untold : Told UnknownKind (hex "06 00 01 00") → ⊥
unfolding computed
known_untold t = let z : ◌≡◌ {A = ℕ} 0 1 = ap (λ (k : Option Kind). bit (same_named k None)) t.why in absurd (omega arith)

pub right_untold : Told BadCheck (hex "06 00 01 00 42 52") → ⊥
unfolding computed
right_untold t = let z : ◌≡◌ {A = ℕ} 1 0 = ap bit t.why in absurd (omega arith)

-- and not a byte later
pub length_not_late : Told BadLength (hex "05 00 01") → ⊥
unfolding computed
length_not_late t = let z : ◌≡◌ {A = ℕ} 3 2 = t.now in absurd (omega arith)

pub kind_not_late : Told UnknownKind (hex "06 00 03 00 00") → ⊥
unfolding computed
kind_not_late t = let z : ◌≡◌ {A = ℕ} 5 4 = t.now in absurd (omega arith)

pub check_not_late : Told BadCheck (hex "06 00 01 00 43 52 00") → ⊥
unfolding computed
check_not_late t = let z : ◌≡◌ {A = ℕ} 7 6 = t.now in absurd (omega arith)

-- States that a stream comes to -------------------------------------------------------------------------------------------

pub reached_begun : Reached (collecting (hex "06 00 01 00 42"))
unfolding computed
reached_begun = inr refl

pub unreached_whole : Reached (collecting (hex "06 00 01 00 42 52")) → ⊥
unfolding computed
unreached_whole (inl e) = let z : ◌≡◌ {A = ℕ} 6 0 = ap length e in absurd (omega arith)
unreached_whole (inr e) = let z : ◌≡◌ {A = ℕ} 0 1 = ap (λ (s : Step). bit (same_step s (not_yet 6))) e in absurd (omega arith)

pub unreached_bad : Reached (collecting (hex "05 00")) → ⊥
unfolding computed
unreached_bad (inl e) = let z : ◌≡◌ {A = ℕ} 2 0 = ap length e in absurd (omega arith)
unreached_bad (inr e) = let z : ◌≡◌ {A = ℕ} 0 1 = ap (λ (s : Step). bit (same_step s (not_yet 2))) e in absurd (omega arith)

-- Hosts -------------------------------------------------------------------------------------------------------------------

-- two frames and a bad length in five calls: a part of a frame, no byte, its end with a part of the next, what that call left, and the rest
pub a_host : Calls (holding (keeps 0 0) (replicate 10 0xEE)) (hex "08 00 02 00 A1 B2 90 38 06 00 01 00 42 52 05 00 06")
    (frame Response (hex "A1 B2") ∷ frame Command [] ∷ []) (holding (keeps 0 1) (hex "05 00 01 00 42 52 90 38 EE EE"))
unfolding computed
a_host =
    call {frames = frame Response (hex "A1 B2") ∷ frame Command [] ∷ []} (hex "08 00 02") (hex "00 A1 B2 90 38 06 00 01 00 42 52 05 00 06")
    (hears 3 0 0 0 3) (hex "08 00 02 EE EE EE EE EE EE EE") refl refl
    (call {frames = frame Response (hex "A1 B2") ∷ frame Command [] ∷ []} [] (hex "00 A1 B2 90 38 06 00 01 00 42 52 05 00 06")
    (hears 3 0 0 0 0) (hex "08 00 02 EE EE EE EE EE EE EE") refl refl
    (call {frames = frame Command [] ∷ []} (hex "00 A1 B2 90 38 06 00") (hex "01 00 42 52 05 00 06") (hears 0 0 2 2 5)
    (hex "08 00 02 00 A1 B2 90 38 EE EE") refl refl
    (call {frames = []} (hex "06 00 01 00 42 52 05") (hex "00 06") (hears 0 0 1 0 6) (hex "06 00 01 00 42 52 90 38 EE EE") refl refl
    (call {frames = []} (hex "05 00 06") [] (hears 0 1 0 0 3) (hex "05 00 01 00 42 52 90 38 EE EE") refl refl over))))

-- a call takes some, at most all, and all where it tells of no frame
pub takes_a_frame : Takes (hex "06 00 01") (host_left (hears 0 0 1 0 1) [])
unfolding computed
takes_a_frame =
    record { some = λ l. omega arith; most = let z : 1 ≤ 3 = omega arith in z; all = λ e. let z : ◌≡◌ {A = ℕ} 1 0 = e in absurd (omega arith) }

pub takes_nothing : Takes [] (host_left (hears 0 0 0 0 0) [])
takes_nothing = record { some = λ l. l; most = let z : 0 ≤ 0 = omega arith in z; all = λ e. refl }

pub takes_some : Takes (hex "06") (host_left (hears 0 0 1 0 0) []) → ⊥
unfolding computed
takes_some t = let z : 0 < 0 = t.some (let l : 0 < 1 = omega arith in l) in absurd (omega arith)

pub takes_no_more : Takes (hex "06") (host_left (hears 0 0 1 0 2) []) → ⊥
unfolding computed
takes_no_more t = let z : 2 ≤ 1 = t.most in absurd (omega arith)

pub takes_all : Takes (hex "06 00 01") (host_left (hears 2 0 0 0 2) []) → ⊥
unfolding computed
takes_all t = let z : ◌≡◌ {A = ℕ} 2 3 = t.all refl in absurd (omega arith)

-- between frames, and stopped, with no lent bytes
abbrev fresh : Holding
fresh = holding (keeps 0 0) []

abbrev halted : Holding
halted = holding (keeps 0 1) []

-- a frame that the rules give and a host did not get; a state that is not theirs; lent bytes of another size
pub rules_give_more : AsRules fresh (hex "06 00 01 00 42 52") [] fresh → ⊥
unfolding computed
rules_give_more a = let z : ◌≡◌ {A = ℕ} 0 1 = ap length a.frames in absurd (omega arith)

pub rules_leave_more : AsRules fresh (hex "06") [] fresh → ⊥
unfolding computed
rules_leave_more a = let z : ◌≡◌ {A = ℕ} 1 0 = ap (λ (s : State). bit (same_state s (collecting []))) a.state in absurd (omega arith)

pub rules_keep_size : AsRules fresh [] [] (holding (keeps 0 0) (hex "06")) → ⊥
unfolding computed
rules_keep_size a = let z : ◌≡◌ {A = ℕ} 1 1563 = a.size in absurd (omega arith)

-- two hosts with other frames, with other states, and not as the rules say
pub cut_alike_frames : HoweverCut fresh fresh [] [] (frame Command [] ∷ []) fresh fresh → ⊥
unfolding computed
cut_alike_frames c = let z : ◌≡◌ {A = ℕ} 0 1 = ap length c.frames in absurd (omega arith)

pub cut_alike_state : HoweverCut fresh fresh [] [] [] fresh halted → ⊥
unfolding computed
cut_alike_state c = let z : ◌≡◌ {A = ℕ} 1 0 = ap (λ (s : State). bit (same_state s (collecting []))) c.state in absurd (omega arith)

pub cut_first_by_rules : HoweverCut fresh halted (hex "06 00 01 00 42 52") [] [] halted halted → ⊥
unfolding computed
cut_first_by_rules c = let z : ◌≡◌ {A = ℕ} 0 1 = ap length c.first_by_rules.frames in absurd (omega arith)

pub cut_second_by_rules : HoweverCut halted fresh (hex "06 00 01 00 42 52") [] [] halted halted → ⊥
unfolding computed
cut_second_by_rules c = let z : ◌≡◌ {A = ℕ} 0 1 = ap length c.second_by_rules.frames in absurd (omega arith)
