-- Of its kind alone.
use Rattle.judge.proofs.Judging.{a_life_cycle, no_life_cycle}
use Rattle.judge.proofs.is_life_cycle.Goals as goal

pub returns-in-LifeCycle : goal.returns-in-LifeCycle
returns-in-LifeCycle c = a_life_cycle _ c.in-LifeCycle.is

pub returns-in_default : goal.returns-in_default
returns-in_default c = no_life_cycle _ c.in_default.not-LifeCycle
