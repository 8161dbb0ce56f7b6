-- Words shared by all: a choice, tests on lists of numbers, numbers in two bytes and in four.
-- Tests on numbers are lib.Dec's: eqb a b (equal), ltb a b (a below b), leb a b (a at most b).
use Rattle.std.specs.Prelude.{ℕ, ◌+◌, ◌*◌, ◌/◌, ◌%◌, Bool, true, false, ◌&&◌, ◌||◌, List, [], ◌∷◌, ◌++◌, eqb, ltb, get_or, replicate}
use Rattle.std.proofs.Math.Option.{Option, none, some}

-- every one of these tests
unfoldable pub all : List Bool → Bool
all [] = true
all (t ∷ ts) = t && all ts

-- n is among ns
unfoldable pub among : List ℕ → ℕ → Bool
among [] n = false
among (m ∷ ms) n = eqb n m || among ms n

-- two lists are the same
unfoldable pub same : List ℕ → List ℕ → Bool
same [] [] = true
same [] (y ∷ ys) = false
same (x ∷ xs) [] = false
same (x ∷ xs) (y ∷ ys) = eqb x y && same xs ys

-- strictly rising, and each above n
unfoldable pub rising_from : ℕ → List ℕ → Bool
rising_from n [] = true
rising_from n (m ∷ ms) = ltb n m && rising_from m ms

-- strictly rising
unfoldable pub rising : List ℕ → Bool
rising [] = true
rising (n ∷ ns) = rising_from n ns

-- parts end to end
abbrev pub joined : List (List ℕ) → List ℕ
joined [] = []
joined (p ∷ ps) = p ++ joined ps

abbrev pub zeros : ℕ → List ℕ
zeros n = replicate n 0

-- a number in two bytes: least significant first (the store), most significant first (commands and responses)
abbrev pub little_endian : ℕ → List ℕ
little_endian n = n % 256 ∷ n / 256 ∷ []

abbrev pub big_endian : ℕ → List ℕ
big_endian n = n / 256 ∷ n % 256 ∷ []

-- the number in the two bytes at k
unfoldable pub little_endian_at : ℕ → List ℕ → ℕ
little_endian_at k b = get_or b k 0 + 256 * get_or b (k + 1) 0

abbrev pub big_endian_at : ℕ → List ℕ → ℕ
big_endian_at k b = 256 * get_or b k 0 + get_or b (k + 1) 0

-- a number in four bytes, most significant first, and the number in the four bytes at k
unfoldable pub big_endian_4 : ℕ → List ℕ
big_endian_4 n = big_endian (n / 0x10000) ++ big_endian (n % 0x10000)

unfoldable pub big_endian_4_at : ℕ → List ℕ → ℕ
big_endian_4_at k b = 0x10000 * big_endian_at k b + big_endian_at (k + 2) b

-- the same, least significant byte first
unfoldable pub little_endian_4 : ℕ → List ℕ
little_endian_4 n = little_endian (n % 0x10000) ++ little_endian (n / 0x10000)

unfoldable pub little_endian_4_at : ℕ → List ℕ → ℕ
little_endian_4_at k b = little_endian_at k b + 0x10000 * little_endian_at (k + 2) b

abbrev pub is_none : {A : Type 0} → Option A → Bool
is_none none = true
is_none (some a) = false

abbrev pub is_some : {A : Type 0} → Option A → Bool
is_some none = false
is_some (some a) = true

-- the first that is there
abbrev pub first_of : {A : Type 0} → Option A → Option A → Option A
first_of none later = later
first_of (some a) later = some a

-- what is there, or d
abbrev pub or_else : {A : Type 0} → Option A → A → A
or_else none d = d
or_else (some a) d = a
