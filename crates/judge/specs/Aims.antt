-- What a command's number names, if anything.
use Rattle.std.specs.Prelude.{Option}
use Rattle.judge.specs.declared.Target.{Target}

abbrev pub Aim : Type 0
Aim = Option Target
