-- A queue in an object's data, of which the first u bytes are used.
use Rattle.std.specs.Prelude.{ℕ, ◌-◌, ◌≤◌, ◌≡◌, true, List, length, take, drop}
use Rattle.rules.specs.Basic.{is_some, zeros}
use Rattle.rules.specs.Queue.{FareQueue, queue, queue_in}

-- the bytes used are a queue, and those past them zero
pub record Holds (u : ℕ) (b : List ℕ) : Type 0 where
  pub inside : u ≤ length b
  pub sound : is_some (queue (take u b)) ≡ true
  pub past_used : drop u b ≡ zeros (length b - u)

-- this one
abbrev pub held : ℕ → List ℕ → FareQueue
held u b = queue_in (take u b)
