-- A counter takes all of its bytes at once.
use Rattle.judge.proofs.Judging.{counter_front, counter_past, fits_other}
use Rattle.judge.proofs.write_fits.Goals as goal

pub returns-then-from-eq0 : goal.returns-then-from-eq0
returns-then-from-eq0 c o k m = counter_front o _ _ _ c.offset-from.ensures c.sent_data.ensures _ k _ c.in-Counter.is c.if-from-eq0.true

pub returns-else-from-eq0 : goal.returns-else-from-eq0
returns-else-from-eq0 c o k m = counter_past o _ _ _ c.offset-from.ensures c.sent_data.ensures _ k _ c.in-Counter.is c.if-from-eq0.false

pub returns-in_default : goal.returns-in_default
returns-in_default c o k m = fits_other o _ _ _ c.offset-from.ensures c.sent_data.ensures _ k _ _ c.in_default.not-Counter m c.fits.ensures
