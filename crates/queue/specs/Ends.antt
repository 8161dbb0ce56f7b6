-- Where a fare ends in a queue's bytes.
use Rattle.std.specs.Prelude.{ℕ, ◌+◌, Option, Some, None, List, [], ◌∷◌, eqb, if◌then◌else◌}
use Rattle.rules.specs.Queue.{Fare, FareQueue, queue_head, fare_size}

-- where the fare numbered n ends, if the first of these begins behind `before` bytes
unfoldable pub ends_behind : ℕ → ℕ → List Fare → Option ℕ
ends_behind before n [] = None
ends_behind before n (f ∷ fs) =
    let e = before + fare_size f in
    let rest = ends_behind e n fs in
    if eqb n f.number then Some e else rest

unfoldable pub fare_end : ℕ → FareQueue → Option ℕ
fare_end n q = ends_behind queue_head n q.fares
