-- Fare queues: `queue_bytes` lays a queue out as the data of an object of kind 0003, `queue` reads it back. What is not the layout of an allowed
-- queue is malformed. Then what an append and an acknowledgement leave of it.
use Rattle.std.specs.Prelude.{ℕ, zero, suc, ◌+◌, ◌-◌, Bool, true, ◌&&◌, List, [], ◌∷◌, ◌++◌, map, eqb, leb, ltb, length, take, drop, if◌then◌else◌}
use Rattle.std.proofs.Math.Option.{Option, none, some}
use Rattle.rules.specs.Basic.{all, among, same, joined, little_endian, little_endian_at, little_endian_4, little_endian_4_at, or_else}

-- a fare under its sequence number
pub record Fare : Type 0 where
  pub number : ℕ
  pub body : List ℕ

abbrev pub fare : ℕ → List ℕ → Fare
fare n b = record { number = n; body = b }

-- the number that the next fare gets, and the fares, oldest first
pub record FareQueue : Type 0 where
  pub next : ℕ
  pub fares : List Fare

abbrev pub empty_queue : ℕ → FareQueue
empty_queue n = record { next = n; fares = [] }

-- allowed queues ---------------------------------------------------------------------------------------------------------

-- bodies of 1 to 200 bytes
unfoldable pub body_allowed : List ℕ → Bool
body_allowed b = leb 1 (length b) && leb (length b) 200

unfoldable pub bodies_allowed : List Fare → Bool
bodies_allowed [] = true
bodies_allowed (f ∷ fs) = body_allowed f.body && bodies_allowed fs

-- by ones up to just below n: the last is n - 1, the one before it n - 2, and so on, never below 0
unfoldable pub numbered_below : ℕ → List Fare → Bool
numbered_below n [] = true
numbered_below n (f ∷ fs) = eqb (f.number + length (f ∷ fs)) n && numbered_below n fs

-- the next number has four bytes
unfoldable pub queue_allowed : FareQueue → Bool
queue_allowed q = all (ltb q.next 0x100000000 ∷ bodies_allowed q.fares ∷ numbered_below q.next q.fares ∷ [])

-- layout: least significant byte first -----------------------------------------------------------------------------------

-- the bytes of the next number, before the fares, and those of a fare before its body
abbrev pub queue_head : ℕ
queue_head = 4

abbrev pub fare_head : ℕ
fare_head = 8

abbrev pub fare_size : Fare → ℕ
fare_size f = fare_head + length f.body

abbrev pub fare_kind : ℕ
fare_kind = 0x0001

-- length 2, kind 2, sequence number 4, body; the length counts all of it
unfoldable pub fare_bytes : Fare → List ℕ
fare_bytes f = joined (little_endian (fare_size f) ∷ little_endian fare_kind ∷ little_endian_4 f.number ∷ f.body ∷ [])

unfoldable pub fares_bytes : List Fare → List ℕ
fares_bytes [] = []
fares_bytes (f ∷ fs) = fare_bytes f ++ fares_bytes fs

-- the next sequence number 4, then fares end to end
unfoldable pub queue_bytes : FareQueue → List ℕ
queue_bytes q = little_endian_4 q.next ++ fares_bytes q.fares

-- reading back: the only queue that these bytes can be; what is not its layout is caught by `queue` -------------------------

unfoldable pub read_fare : List ℕ → Fare
read_fare b = fare (little_endian_4_at 4 b) (take (little_endian_at 0 b - fare_head) (drop fare_head b))

-- at most n fares, each as long as its first two bytes say
unfoldable pub read_fares : ℕ → List ℕ → List Fare
read_fares zero b = []
read_fares (suc n) [] = []
read_fares (suc n) (x ∷ xs) = read_fare (x ∷ xs) ∷ read_fares n (drop (little_endian_at 0 (x ∷ xs)) (x ∷ xs))

unfoldable pub read_queue : List ℕ → FareQueue
read_queue b = record { next = little_endian_4_at 0 b; fares = read_fares (length b) (drop queue_head b) }

-- the queue in an object's bytes up to used; none: malformed
unfoldable pub queue : List ℕ → Option FareQueue
queue b =
    let q = read_queue b in
    if queue_allowed q && same (queue_bytes q) b then some q else none

-- the queue in sound bytes
abbrev pub queue_in : List ℕ → FareQueue
queue_in b = or_else (queue b) (empty_queue 0)

-- appending and acknowledging ---------------------------------------------------------------------------------------------

-- the fare with the next number stands behind the last one, and the next number is one more
unfoldable pub appended : List ℕ → FareQueue → FareQueue
appended b q = record { next = q.next + 1; fares = q.fares ++ (fare q.next b ∷ []) }

-- a fare of these has the number n
unfoldable pub present_in : List Fare → ℕ → Bool
present_in fs n = among (map (λ f. f.number) fs) n

-- the fare numbered n and all before it; the fares behind it
unfoldable pub up_to : ℕ → List Fare → List Fare
up_to n [] = []
up_to n (f ∷ fs) = let rest = up_to n fs in if eqb n f.number then f ∷ [] else f ∷ rest

unfoldable pub past : ℕ → List Fare → List Fare
past n [] = []
past n (f ∷ fs) = let rest = past n fs in if eqb n f.number then fs else rest

-- that fare and all before it are gone, and the next number stays
unfoldable pub acknowledged : ℕ → FareQueue → FareQueue
acknowledged n q = record { next = q.next; fares = past n q.fares }
