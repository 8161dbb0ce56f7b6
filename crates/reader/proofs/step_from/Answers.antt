-- Each way out is one of the definition's.
use native.Mathlib.Omega.{arith}
use lib.ListN.{drop, length-drop, drop_of_length-le}
use Rattle.std.specs.Prelude.{Some, None, Ok, Err}
use Rattle.std.proofs.lemmas.List.{take_rest}
use Rattle.rules.specs.Metadata.{field}
use Rattle.reader.specs.Content.{field_at, field_in}
use Rattle.reader.proofs.Fields.{lone, short, whole, step}
use Rattle.reader.proofs.step_from.Goals as goal

pub returns-then-content-at : goal.returns-then-content-at
unfolding field_at field_in
returns-then-content-at c = step c.args.at c.args.content.now None (rw (drop_of_length-le c.args.content.now c.if-content-at.true))

pub returns-in_default : goal.returns-in_default
unfolding field_at
returns-in_default c = step _ _ (Some (Err _)) (lone _ (simp length-drop (omega arith)) (simp take_rest at c.in_default.len_below))

pub returns-then-rest-length : goal.returns-then-rest-length
unfolding field_at
returns-then-rest-length c = step _ _ (Some (Err _)) (short _ (simp take_rest at c.in-len2-up.len_at_least) (simp take_rest at c.if-rest-length.true))

pub returns : goal.returns
unfolding field_at field
returns c =
    let there = whole (drop c.args.at c.args.content.now) (simp take_rest at c.in-len2-up.len_at_least) (simp take_rest at c.if-rest-length.false) in
    simp take_rest (step c.args.at c.args.content.now (Some (Ok _)) there)
