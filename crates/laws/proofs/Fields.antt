-- The fields of metadata are read back from their bytes.
use Prim.Native.Nat.{ℕ, zero, suc, ◌≤◌}
use mathlib.Core.List.{List, [], ◌∷◌}
use mathlib.Core.Path.{◌≡◌, refl}
use native.Mathlib.Nat.{not-suc-le-zero, le_of_suc-le-suc}
use lib.ListN.{length}
use lib.Seq.{take-append_seam, drop-append_seam}
use Rattle.rules.specs.Metadata.{Field, field, fields_bytes, read_fields}

pub fields_read : (n : ℕ) (fs : List Field) → length fs ≤ n → read_fields n (fields_bytes fs) ≡ fs
unfolding read_fields fields_bytes field
fields_read zero [] l = refl
fields_read (suc n) [] l = refl
fields_read zero (f ∷ fs) l = absurd (not-suc-le-zero l)
fields_read (suc n) (f ∷ fs) l =
    rw (take-append_seam f.value (fields_bytes fs), drop-append_seam f.value (fields_bytes fs), fields_read n fs (le_of_suc-le-suc l))
