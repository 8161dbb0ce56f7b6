-- When a fare may be appended to a queue and one acknowledged, and the store after each.
use Rattle.std.specs.Prelude.{ℕ, ◌+◌, ◌≤◌, ◌<◌, true, List, ◌≡◌, length}
use Rattle.rules.specs.declared.Kind.TheVariants.{Queue}
use Rattle.rules.specs.Object.{Object, used, is, with_content}
use Rattle.rules.specs.Queue.{fare_head, body_allowed, queue_bytes, queue_in, appended, present_in, acknowledged}
use Rattle.record.specs.Places.{object_at, with_record}

pub record MayAppend (o : Object) (body : List ℕ) : Type 0 where
  pub is_queue : is Queue o.kind ≡ true
  pub allowed : body_allowed body ≡ true
  pub fits : used o + fare_head + length body ≤ o.maximum
  pub number_left : (queue_in o.content).next < 0xFFFFFFFF

pub record MayAcknowledge (o : Object) (number : ℕ) : Type 0 where
  pub is_queue : is Queue o.kind ≡ true
  pub present : present_in (queue_in o.content).fares number ≡ true

-- the store where the queue at p has one fare more, and where those up to a number are gone
abbrev pub appended_at : ℕ → List ℕ → List ℕ → List ℕ
appended_at p body b = with_record p (with_content (queue_bytes (appended body (queue_in (object_at p b).content))) (object_at p b)) b

abbrev pub acknowledged_at : (p number : ℕ) → List ℕ → List ℕ
acknowledged_at p number b = with_record p (with_content (queue_bytes (acknowledged number (queue_in (object_at p b).content))) (object_at p b)) b
