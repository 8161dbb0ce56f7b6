-- What is left to judge is what the rest grants: the present group names the counters pushed, then those of the rest of it.
use borrow.Author.Rules.{rules}
use mathlib.Core.Bool.{◌&&◌}
use mathlib.Core.List.{◌++◌}
use mathlib.Core.Path.{◌≡◌, refl, sym, ap, ◌∙◌}
use native.Mathlib.Omega.{arith}
use Rattle.std.specs.Slice.Iter.{chunks_rest, chunks_size}
use Rattle.rules.specs.Access.{seen_in, condition_holds}
use Rattle.expression.specs.Conditions.{condition_at}
use Rattle.access.specs.Groups.{first_group}
use Rattle.access.proofs.Chunks.{rest_whole}
use Rattle.access.proofs.Granting.{conditions_fill, grant_joined, group_decides, next_group, same_group, group_ends, group_on, room_left, room_next, nothing_left}
use Rattle.access.proofs.Sight.deciding_group.Goals.{After-ends_group, then-held, else-held}
use Rattle.access.proofs.Sight.deciding_group.Goals as goal

-- the conditions of the group hold, with this one
held : (c : After-ends_group) → c.if-held.held
    ≡ (c.loop-condition.held && condition_holds (seen_in c.args.self.now.store.now c.args.self.now.session) c.args.self.now.lcso (condition_at 0 c.in-Some.condition.now))
held c = elim c.if-held.branch [
  | then-held w ↦ search rules
  | else-held w ↦ search rules
]

pub loop-condition-init : goal.loop-condition-init
loop-condition-init c =
    let here = c.into_iter-condition-iterator.ensures.into_iter_gives in
    let rest = ap chunks_rest here ∙ c.chunks-condition-items.ensures.rest in
    let fill = conditions_fill c.args.part.now c.requires.0 c.requires.1 in (
      search rules,
      search rules,
      ap chunks_size here ∙ c.chunks-condition-items.ensures.size,
      rw rest (λ _. fill.0),
      rw (rest, c.none-counters.ensures) (omega (arith, fill.1)),
      rw (rest, c.none-counters.ensures) (grant_joined _ _ c.args.part.now c.requires.0 c.requires.1),
    )

pub returns-then-held-2 : goal.returns-then-held-2
returns-then-held-2 c =
    let i = c.loop-condition.invariant in
    let t = c.in-Some.ensures.steps.1 in
    let size = rw i.2 at t.1 in
    let whole = i.3 t.2 in
    let ends = sym c.ends_group.ensures ∙ c.if-ends_group.true in
    let h = held (goal.at.returns-then-held-2 c).After-ends_group in
    let all : c.push_named.new.self ≡ c.loop-condition.counters ++ first_group (chunks_rest c.loop-condition.condition-iterator) =
    group_ends _ _ _ t.0 size whole _ _ _ refl c.push_named.ensures ends in
    let decided = group_decides _ _ _ t.0 size whole _ _ _ _ _ i.5 _ h ends c.if-held-2.true in
    cc

pub loop-condition-preserved-then-ends_group : goal.loop-condition-preserved-then-ends_group
loop-condition-preserved-then-ends_group c =
    let i = c.loop-condition.invariant in
    let t = c.in-Some.ensures.steps.1 in
    let size = rw i.2 at t.1 in
    let whole = i.3 t.2 in
    let ends = sym c.ends_group.ensures ∙ c.if-ends_group.true in
    let h = held (goal.at.loop-condition-preserved-then-ends_group c).After-ends_group in (
      search rules,
      search rules,
      c.in-Some.ensures.steps.0 ∙ i.2,
      rest_whole _ _ _ t.0 size whole,
      rw c.none-counters-then-ends_group.ensures (omega (arith, room_next _ _ _ t.0 size whole _ i.4)),
      rw c.none-counters-then-ends_group.ensures (next_group _ _ _ t.0 size whole _ _ _ _ _ i.5 _ h ends c.if-held-2.false),
    )

pub loop-condition-preserved : goal.loop-condition-preserved
loop-condition-preserved c =
    let i = c.loop-condition.invariant in
    let t = c.in-Some.ensures.steps.1 in
    let size = rw i.2 at t.1 in
    let whole = i.3 t.2 in
    let on = sym c.ends_group.ensures ∙ c.if-ends_group.false in
    let h = held (goal.at.loop-condition-preserved c).After-ends_group in (
      search rules,
      search rules,
      c.in-Some.ensures.steps.0 ∙ i.2,
      rest_whole _ _ _ t.0 size whole,
      room_left _ _ _ t.0 size whole _ _ _ refl c.push_named.ensures on i.4,
      rw (← group_on _ _ _ t.0 size whole _ _ _ refl c.push_named.ensures on) (same_group _ _ _ t.0 size whole _ _ _ _ _ i.5 _ h on),
    )

pub returns : goal.returns
returns c = sym (nothing_left _ _ _ _ _ _ c.loop-condition.invariant.5 c.in-None.ensures.steps.1.0)
