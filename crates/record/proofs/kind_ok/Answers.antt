-- The number is read as a kind, or as none.
use mathlib.Core.Path.{refl}
use Rattle.rules.specs.Object.{data_allowed}
use Rattle.record.proofs.ByKind.{kind_by, no_kind}
use Rattle.record.proofs.kind_ok.Goals as goal

pub returns-in-Data : goal.returns-in-Data
unfolding data_allowed
returns-in-Data c = kind_by _ _ _ _ c.try_from.ensures _ _ c.in-Ok.is c.in-Data.is _ refl

pub returns-in-Counter : goal.returns-in-Counter
unfolding data_allowed
returns-in-Counter c = kind_by _ _ _ _ c.try_from.ensures _ _ c.in-Ok.is c.in-Counter.is _ c.counter_sizes.ensures

pub returns-in-Queue : goal.returns-in-Queue
unfolding data_allowed
returns-in-Queue c = kind_by _ _ _ _ c.try_from.ensures _ _ c.in-Ok.is c.in-Queue.is _ c.check.ensures

pub returns-in_default : goal.returns-in_default
returns-in_default c = search no_kind
