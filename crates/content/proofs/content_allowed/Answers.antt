-- What is left to judge is whether the rest is filled with fields whose tags are above the last.
use Rattle.reader.proofs.Fields.{less_left}
use Rattle.content.proofs.Judging.{judged_end, judged_malformed, judged_falls, judged_refused, judged_next}
use Rattle.content.proofs.Judging.{too_short, not_led, not_filling, by_fields}
use Rattle.content.proofs.content_allowed.Goals.{then-content-le2-via-then-content-le2, then-content-le2-via-else-content-le2+then-content-ne32}
use Rattle.content.proofs.content_allowed.Goals.{then-content-le2-via-else-content-le2+else-content-ne32+then-content}
use Rattle.content.proofs.content_allowed.Goals as goal

pub returns-then-content-le2 : goal.returns-then-content-le2
returns-then-content-le2 c =
    elim c.then-content-le2.branch [
      | then-content-le2-via-then-content-le2 w ↦ search too_short
      | then-content-le2-via-else-content-le2+then-content-ne32 w ↦ search not_led
      | then-content-le2-via-else-content-le2+else-content-ne32+then-content w ↦ search not_filling
    ]

pub loop-next-init : goal.loop-next-init
loop-next-init c = rw (c.new-reader.ensures.0, c.new-reader.ensures.1) (search by_fields)

pub returns-in-Ok-2 : goal.returns-in-Ok-2
returns-in-Ok-2 c = search judged_refused

pub returns-in-Ok-2-2 : goal.returns-in-Ok-2-2
returns-in-Ok-2-2 c = search judged_falls

pub returns-in-Err : goal.returns-in-Err
returns-in-Err c = search judged_malformed

pub loop-next-smaller : goal.loop-next-smaller
loop-next-smaller c = rw c.advance.ensures.1 (search less_left)

pub loop-next-preserved : goal.loop-next-preserved
loop-next-preserved c = rw c.advance.ensures.1 (search judged_next)

pub returns : goal.returns
returns c = search judged_end
