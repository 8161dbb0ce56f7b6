-- An output of 4,112,384 bytes holds the whole of what the program prints, for every input.
use Prim.Native.Nat.{ℕ, ◌≤◌}
use mathlib.Core.List.{List}
use mathlib.Core.Path.{◌≡◌, sym, ap, ◌∙◌}
use native.Mathlib.Omega.{arith}
use lib.ListN.{length, take, drop}
use lib.Seq.{take_all, take_at}
use Rattle.rules.specs.Program.{printed}
use Rattle.demands.proofs.Printed.{printed_fits}
use Rattle.listing.specs.Text.{in_front, shown_size}

-- what `print_all` answers and leaves in such an output
module _ (input o after : List ℕ) (n : ℕ) (l : 4112384 ≤ length o) (e : n ≡ shown_size (printed input) o) (f : after ≡ in_front (printed input) o) where
  pub whole_count : n ≡ length (printed input)
  unfolding shown_size
  whole_count = omega (arith, l, e, printed_fits input)

  pub whole_text : take n after ≡ printed input
  unfolding in_front
  whole_text =
      let text = printed input in
      let shown : take (length o) text ≡ text = take_all (length o) text (omega (arith, l, printed_fits input)) in
      ap (take n) f ∙ rw shown (take_at text (drop (length text) o) n (sym whole_count))
