-- Sizes that fit what is lent, and a list of commands where they do.
use Prim.Native.Nat.{ℕ, zero, suc, ◌+◌, ◌-◌, ◌≤◌, ◌<◌}
use mathlib.Core.Path.{◌≡◌, refl, sym, ap, ◌∙◌}
use mathlib.Core.Bool.{Bool, true, false, ◌&&◌, and-false}
use mathlib.Core.List.{List, [], ◌∷◌, map, flat_map}
use native.Mathlib.Nat.{add-zero, add-sub_cancel_left}
use native.Mathlib.Omega.{arith}
use Rattle.std.proofs.lemmas.List.{get_or-take}
use lib.ListN.{length, get_or, take, drop, length-drop, length-append, length-replicate}
use lib.Seq.{drop-drop, get_or-drop}
use borrow.Author.Tests.{lt-ltb, le-ltb, le-leb, lt-leb}
use lib.Dec.{ltb, leb}
use Rattle.rules.specs.declared.Session.{Session}
use Rattle.rules.specs.Run.{Turn, Kept}
use Rattle.runs.specs.Lists.{Returned, lent, returned, laid_out}
use Rattle.runs.specs.Demand.{IsRun, library_run}
use Rattle.firmware.specs.declared.HostSession.{HostSession}
use Rattle.firmware.specs.Host.{session_of, bytes_of}
use Rattle.firmware.specs.Lists.{all_fit, laid_well, list_left, list_in_bytes, HostRuns}

-- `all_fit`
module _ (sizes : List ℕ) (count i left : ℕ) (w : Bool) (among : i < count) (told : w ≡ all_fit (count - i) (drop i sizes) left) where
  next : w ≡ ltb 0 (length sizes - i) && leb (get_or sizes i 0) left && all_fit (count - (i + 1)) (drop (i + 1) sizes) (left - get_or sizes i 0)
  unfolding all_fit
  next =
      let one : count - i ≡ suc (count - (i + 1)) = omega arith in
      rw (one, length-drop, get_or-drop i sizes 0 0, add-zero, drop-drop) at told

  -- the sizes asked for are the first of those lent
  size_is : get_or (take count sizes) i 0 ≡ get_or sizes i 0
  size_is = get_or-take count sizes i 0 among

  pub too_large : i < length sizes → left < get_or (take count sizes) i 0 → false ≡ w
  too_large h l = rw (next, lt-ltb 0 (length sizes - i) (omega arith), lt-leb (get_or sizes i 0) left (omega (arith, size_is)))

  pub one_fits : i < length sizes → get_or (take count sizes) i 0 ≤ left →
      w ≡ all_fit (count - (i + 1)) (drop (i + 1) sizes) (left - get_or (take count sizes) i 0)
  one_fits h l = rw size_is (next ∙ rw (lt-ltb 0 (length sizes - i) (omega arith), le-leb (get_or sizes i 0) left (omega (arith, size_is))) refl)

-- fewer sizes than asked do not fit
pub too_few : (count : ℕ) (sizes : List ℕ) (left : ℕ) → length sizes < count → false ≡ all_fit count sizes left
unfolding all_fit
too_few zero sizes left h = absurd (omega arith)
too_few (suc count) [] left h = rw (le-ltb 0 0 (omega arith))
too_few (suc count) (x ∷ sizes) left h = rw (lt-ltb 0 (length (x ∷ sizes)) (omega arith), ← too_few count sizes (left - x) (omega arith)) (sym (and-false _))

-- none is left to look at
pub all_seen : (sizes : List ℕ) (count i left : ℕ) (w : Bool) → count ≤ i → w ≡ all_fit (count - i) (drop i sizes) left → true ≡ w
unfolding all_fit
all_seen sizes count i left w h e =
    let none : count - i ≡ 0 = omega arith in
    sym (rw none at e)

-- `run_for_host`
module _ (was : HostSession) (commands sizes rooms spaces outcomes store : List ℕ) (x y whole : Bool)
    (ex : x ≡ all_fit (length outcomes) sizes (length commands)) (ey : y ≡ all_fit (length outcomes) spaces (length rooms)) (both : whole ≡ x && y) where
  well : (s : Session) → whole ≡ laid_well (lent commands sizes rooms spaces outcomes store s)
  unfolding laid_well
  well s = both ∙ rw (ex, ey) refl

  pub not_laid : (s : Session) → whole ≡ false → HostRuns (lent commands sizes rooms spaces outcomes store s) was (list_left 2 rooms outcomes store was)
  unfolding list_in_bytes
  not_laid s n = rw (sym (well s) ∙ n) refl

  pub ran : (s after : Session) (b : HostSession) (rooms' outcomes' store' : List ℕ) → whole ≡ true → s ≡ session_of was
      → IsRun (library_run (lent commands sizes rooms spaces outcomes store s) (returned rooms' outcomes' store' after)) → b ≡ bytes_of was after
      → HostRuns (lent commands sizes rooms spaces outcomes store (session_of was)) was (list_left 0 rooms' outcomes' store' b)
  unfolding list_in_bytes
  ran s after b rooms' outcomes' store' n e f g =
      rw (sym (well (session_of was)) ∙ n, g, ← e)
      (ap (λ (a : Returned). list_left 0 a.rooms a.outcomes a.store (bytes_of was a.session)) f)

-- every list of commands can be laid out so that its sizes fit
sizes_fit : (f : Turn → List ℕ) (ts : List Turn) → all_fit (length ts) (map (λ t. length (f t)) ts) (length (flat_map f ts)) ≡ true
unfolding all_fit flat_map
sizes_fit f [] = refl
sizes_fit f (t ∷ ts) =
    let within : leb (length (f t)) (length (f t) + length (flat_map f ts)) ≡ true = le-leb (length (f t)) (length (f t) + length (flat_map f ts)) (omega arith) in
    rw (lt-ltb 0 (length (map (λ (t : Turn). length (f t)) (t ∷ ts))) (omega arith), length-append, within, add-sub_cancel_left) (sizes_fit f ts)

pub laid_out_well : (ts : List Turn) (k : Kept) → laid_well (laid_out ts k) ≡ true
unfolding laid_well
laid_out_well ts k = rw (length-replicate, sizes_fit (λ t. t.command) ts, sizes_fit (λ t. t.room) ts)
