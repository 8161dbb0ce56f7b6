-- The steps of the verdicts on an append and on an acknowledgement, as they are called.
use Prim.Native.Nat.{ℕ, ◌+◌}
use mathlib.Core.Bool.{Bool, true, false, not}
use mathlib.Core.List.{List}
use mathlib.Core.Path.{◌≡◌, sym, ap, ◌∙◌}
use native.Mathlib.Omega.{arith}
use borrow.Author.Tests.{leb-true, leb-false, lt-ltb, le-ltb, not-false}
use lib.Dec.{leb, ltb}
use lib.ListN.{length}
use Rattle.rules.specs.declared.Kind.TheVariants.{Queue}
use Rattle.rules.specs.Basic.{is_some}
use Rattle.rules.specs.Command.{sent_body}
use Rattle.rules.specs.Object.{Object, used, is, object_allowed}
use Rattle.rules.specs.Queue.{fare_head, queue}
use Rattle.laws.proofs.Tests.{by_test}
use Rattle.laws.proofs.Fitting.{queue_sound}

-- the content of a queue is one: q is what `is_queue` said
pub content_sound : (o : Object) (q : Bool) (x : List ℕ) → object_allowed o ≡ true → q ≡ is Queue o.kind → not q ≡ false → x ≡ o.content →
    is_some (queue x) ≡ true
content_sound o q x ok eq h ex = rw ex (queue_sound o ok (sym eq ∙ not-false q h))

-- the room of an append: f is whether the fare fits
pub room_told : (o : Object) (c body : List ℕ) → sent_body c ≡ body → (u m : ℕ) → u ≡ used o → m ≡ o.maximum →
    (f : Bool) → f ≡ leb (u + (fare_head + length body)) m → not f ≡ ltb o.maximum (used o + fare_head + length (sent_body c))
room_told o c body eb u m eu em f ef =
    let whole = used o + fare_head + length (sent_body c) in
    let told = ap length eb in
    sym (by_test f (λ t. let l = leb-true (u + (fare_head + length body)) m (sym ef ∙ t) in rw t (le-ltb o.maximum whole (omega arith)))
    (λ t. let l = leb-false (u + (fare_head + length body)) m (sym ef ∙ t) in rw t (lt-ltb o.maximum whole (omega arith))))
