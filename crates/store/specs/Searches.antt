-- Searches that antt computes: what is expected of each is written by hand, with no rule's own function.
use Rattle.std.specs.Prelude.{ℕ, Bool, true, false, not, List, [], ◌∷◌, ◌++◌, eqb, length, take, Some, None}
use Rattle.rules.specs.Found.{Found}
use Rattle.rules.specs.Basic.{all, same}
use Rattle.rules.specs.Hex.{hex}
use Rattle.rules.specs.Stores.{by_hand, first_record, second_record, third_record, three, smallest, largest, many}
use Rattle.rules.specs.Layout.{found}
use Rattle.store.specs.Way.{reaches, way, front, leads}

same_found : Found → Found → Bool
same_found (Some p) (Some q) = eqb p q
same_found (Some p) None = false
same_found None (Some q) = false
same_found None None = true

-- the way to n in b is sound, reaches n and has so many bytes, and this is found on it
unfoldable finds : ℕ → List ℕ → ℕ → Found → Bool
unfolding same_found
finds n b size r = all (leads n b ∷ reaches n (way n b) ∷ eqb (length (front n b)) size ∷ same_found (found n (way n b)) r ∷ [])

-- it is sound and the whole of b, and nothing is found on it
unfoldable ends : ℕ → List ℕ → Bool
unfolding same_found
ends n b = all (leads n b ∷ not (reaches n (way n b)) ∷ same (front n b) b ∷ same_found (found n (way n b)) None ∷ [])

-- it is not sound
unfoldable lost : ℕ → List ℕ → Bool
lost n b = not (leads n b)

-- F1D0 with more in use than its maximum, and under the number of an object of the session
unfoldable overfull : List ℕ
overfull = by_hand (hex "64 00 01 00 D0 F1 04 00 05 00 01 00") "01 00" "01 00" "01 00" (hex "0A 0B 0C 0D")

unfoldable session_numbered : List ℕ
session_numbered = by_hand (hex "64 00 01 00 C0 F1 04 00 03 00 01 00") "01 00" "01 00" "01 00" (hex "0A 0B 0C 00")

unfoldable pub searches : List Bool
unfolding finds ends lost overfull session_numbered
searches =
    -- an object that is there: the first, the middle one, the last
    finds 0xF1D0 three 100 (Some 0) ∷ finds 0xF1D1 three 200 (Some 100) ∷ finds 0xF1D2 three 300 (Some 200) ∷
    -- one that is not: below all, between two, above all
    finds 0xF1CF three 100 None ∷ finds 0xF1D1 (first_record ++ third_record) 200 None ∷ ends 0xF1D3 three ∷
    -- whatever follows: half a record, bytes that are none, a number a second time
    finds 0xF1D0 (first_record ++ take 50 second_record) 100 (Some 0) ∷ finds 0xF1D1 (first_record ++ second_record ++ hex "FF FF FF") 200 (Some 100) ∷
    finds 0xF1D1 (first_record ++ second_record ++ second_record) 200 (Some 100) ∷ finds 0xF1CF (first_record ++ hex "00") 100 None ∷
    finds 0xF1D0 (second_record ++ first_record) 100 None ∷
    -- neither the count of records nor the size of the store is asked, nor that there is a record
    finds 0x0020 (many smallest 33 0) 3201 (Some 3104) ∷ finds 0x000B (many largest 11 1) 17556 (Some 15960) ∷ ends 0xF1D0 [] ∷
    -- nor that numbers rise
    finds 0xF1D2 (second_record ++ first_record ++ third_record) 300 (Some 200) ∷
    -- what stands on the way must be records of allowed objects
    lost 0xF1D2 (first_record ++ second_record ++ hex "FF FF FF") ∷ lost 0xF1D0 (hex "00" ++ three) ∷ lost 0xF1D0 (take 99 first_record) ∷
    lost 0xF1D0 overfull ∷ lost 0xF1D1 (overfull ++ second_record) ∷ lost 0xF1D0 (session_numbered ++ first_record) ∷ []
