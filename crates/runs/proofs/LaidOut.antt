-- Every list of commands can be laid out for a run.
use Prim.Native.Nat.{ℕ, zero, suc, ◌+◌, ◌^◌, ◌<◌, min}
use mathlib.Core.Path.{◌≡◌, refl, ap}
use mathlib.Core.List.{List, [], ◌∷◌, ◌++◌, map, flat_map}
use native.Mathlib.Omega.{arith}
use lib.ListN.{length, length-append, length-map, length-replicate}
use lib.Seq.{take_at, drop_at}
use Rattle.mixing.specs.Runs.{All}
use Rattle.rules.specs.Basic.{zeros}
use Rattle.rules.specs.Run.{Turn, Kept}
use Rattle.runs.specs.Lists.{cut, turns, Given, laid_out, Representable, InTypes}

-- the commands of the layout are the list's
cut_back : (ts : List Turn)
    → cut (length ts) (flat_map (λ (t : Turn). t.command) ts) (map (λ (t : Turn). length t.command) ts)
    (flat_map (λ (t : Turn). t.room) ts) (map (λ (t : Turn). length t.room) ts) ≡ ts
unfolding cut flat_map
cut_back [] = refl
cut_back (t ∷ ts) =
    let c = flat_map (λ (t : Turn). t.command) ts in
    let r = flat_map (λ (t : Turn). t.room) ts in
    rw (fit t.command c, fit t.room r, take_at t.command c _ refl, take_at t.room r _ refl, drop_at t.command c _ refl, drop_at t.room r _ refl)
    (ap (λ l. t ∷ l) (cut_back ts))
  where
    fit : (a b : List ℕ) → min (length a) (length (a ++ b)) ≡ length a
    fit a b = omega (arith, length-append a b)

-- bytes end to end are bytes, and their sizes are of the type usize
all_append : (P : ℕ → Type 0) (a b : List ℕ) → All P a → All P b → All P (a ++ b)
all_append P [] b p q = q
all_append P (x ∷ a) b p q = (p.0, all_append P a b p.1 q)

all_joined : (f : Turn → List ℕ) (ts : List Turn) → All (λ t. All (λ n. n < 256) (f t)) ts → All (λ n. n < 256) (flat_map f ts)
unfolding flat_map
all_joined f [] p = tt
all_joined f (t ∷ ts) p = all_append (λ n. n < 256) (f t) (flat_map f ts) p.0 (all_joined f ts p.1)

all_sizes : (f : Turn → List ℕ) (ts : List Turn) → length (flat_map f ts) < 2 ^ 63 → All (λ n. n < 2 ^ 64) (map (λ t. length (f t)) ts)
unfolding flat_map
all_sizes f [] h = tt
all_sizes f (t ∷ ts) h =
    let l : length (f t ++ flat_map f ts) ≡ length (f t) + length (flat_map f ts) = length-append (f t) (flat_map f ts) in
    (omega arith, all_sizes f ts (omega arith))

all_zeros : (n : ℕ) → All (λ b. b < 256) (zeros n)
all_zeros zero = tt
all_zeros (suc n) = (omega arith, all_zeros n)

-- what is lent are these commands
pub laid_out_given : (ts : List Turn) (k : Kept) → Given ts k (laid_out ts k)
laid_out_given ts k =
    let same_commands : turns (laid_out ts k) ≡ ts = rw length-replicate (cut_back ts) in
    search

-- every list of commands whose bytes are bytes and whose sizes fit: there are buffers, of the parameters' types, whose commands are
-- exactly these
pub every_list_laid_out : (ts : List Turn) (k : Kept) → Representable ts → InTypes (laid_out ts k) × Given ts k (laid_out ts k)
every_list_laid_out ts k h =
    let sizes : length (map (λ (t : Turn). length t.command) ts) ≡ length ts = simp length-map in
    let spaces : length (map (λ (t : Turn). length t.room) ts) ≡ length ts = simp length-map in
    let outcomes : length (zeros (length ts)) ≡ length ts = simp length-replicate in (
      search
          (all_joined (λ t. t.command), all_joined (λ t. t.room), all_sizes (λ t. t.command), all_sizes (λ t. t.room), all_zeros, arith),
      laid_out_given ts k,
    )
