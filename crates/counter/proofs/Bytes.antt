-- A counter's bytes: what is read after a count.
use Prim.Native.Nat.{ℕ, ◌<◌}
use mathlib.Core.Path.{◌≡◌, refl}
use mathlib.Core.List.{List, [], ◌∷◌, ◌++◌}
use native.Mathlib.Omega.{arith}
use lib.ListN.{length, drop}
use Rattle.rules.specs.declared.Direction.{Direction}
use Rattle.rules.specs.Basic.{big_endian_4, big_endian_4_at}
use Rattle.rules.specs.Object.{counter_size}
use Rattle.rules.specs.Counter.{counted, value, threshold, after_count}
use Rattle.laws.proofs.Fitting.{count_length}
use Rattle.counter.proofs.Counting.{count_fits}

-- above every number of four bytes
abbrev pub four_bytes : ℕ
four_bytes = 0x100000000

-- a count leaves as many bytes, the same threshold, and the value that the rule gives
pub record Left (d : Direction) (s : ℕ) (b c : List ℕ) : Type 0 where
  pub size : length c ≡ counter_size
  pub same_threshold : threshold c ≡ threshold b
  pub new_value : value c ≡ counted d (value b) (threshold b) s

-- the number written is the number read
value_put : (n : ℕ) (b : List ℕ) → n < four_bytes → value (big_endian_4 n ++ drop 4 b) ≡ n
unfolding value big_endian_4 big_endian_4_at
value_put n b h = omega arith

threshold_kept : (n : ℕ) (b : List ℕ) → length b ≡ counter_size → threshold (big_endian_4 n ++ drop 4 b) ≡ threshold b
unfolding threshold big_endian_4 big_endian_4_at
threshold_kept n (a ∷ b ∷ c ∷ d ∷ e) h = refl
threshold_kept n (a ∷ b ∷ c ∷ []) h = absurd (omega arith)
threshold_kept n (a ∷ b ∷ []) h = absurd (omega arith)
threshold_kept n (a ∷ []) h = absurd (omega arith)
threshold_kept n [] h = absurd (omega arith)

-- of a counter whose value and threshold are of four bytes
pub count_leaves : (d : Direction) (s : ℕ) (b : List ℕ) → length b ≡ counter_size → value b < four_bytes → threshold b < four_bytes →
    Left d s b (after_count d s b)
count_leaves d s b l v t =
    record {
      size = count_length d s b l;
      same_threshold = unfold after_count in threshold_kept _ b l;
      new_value = unfold after_count in value_put _ b (count_fits four_bytes d (value b) (threshold b) s v t);
    }
