-- The kind that a record of this number has, if a record may have it.
use Rattle.std.specs.Prelude.{ℕ, eqb, Result, Ok, Err, if◌then◌else◌}
use Rattle.rules.specs.declared.Kind.{Kind}
use Rattle.rules.specs.declared.Kind.TheVariants.{Data, Counter, Queue}
use Rattle.rules.specs.declared.Direction.TheVariants.{Up, Down}
use Rattle.rules.specs.declared.UnknownKind.{UnknownKind}

abbrev pub record_kind : ℕ → Result Kind UnknownKind
record_kind n =
    if eqb n 0x0001 then Ok Data else
    (if eqb n 0x0002 then Ok (Counter Up) else
    (if eqb n 0x0003 then Ok Queue else
    (if eqb n 0x0004 then Ok (Counter Down) else
    Err (record { 0 = n }))))
