use Rattle.std.proofs.Common.{◌≡◌, take, []}
use Rattle.rules.specs.Basic.{or_else}
use Rattle.rules.specs.Layout.{pack, unpack}
use Rattle.rules.specs.Access.{all_used_up}
use Rattle.usage.proofs.use_up.Given as goal

abbrev pub invariant-loop-place : goal.invariant-loop-place
invariant-loop-place l = l.store ≡ pack (all_used_up (take l.place l.numbers) (or_else (unpack l.initial.store) []))
