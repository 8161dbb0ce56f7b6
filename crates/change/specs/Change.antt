-- The store after a write and after a count, and an object with one part of its metadata changed.
use Rattle.std.specs.Prelude.{ℕ, List}
use Rattle.rules.specs.declared.Slot.{Slot}
use Rattle.rules.specs.declared.Slot.TheVariants.{Change, Read, Execute}
use Rattle.rules.specs.Expression.{Expression}
use Rattle.rules.specs.Object.{Object, direction, with_content}
use Rattle.rules.specs.Counter.{after_count}
use Rattle.rules.specs.Operation.{put_at}
use Rattle.record.specs.Places.{object_at, with_record}

-- the store where the object at p has these bytes at offset k, over what stays of its content
abbrev pub written_over : (old : List ℕ) (p k : ℕ) (src b : List ℕ) → List ℕ
written_over old p k src b = with_record p (with_content (put_at k src old) (object_at p b)) b

-- the store where the counter at p has counted by a step
abbrev pub counted_at : (p step : ℕ) (b : List ℕ) → List ℕ
counted_at p step b = with_record p (with_content (after_count (direction (object_at p b).kind) step (object_at p b).content) (object_at p b)) b

unfoldable pub with_lcso : ℕ → Object → Object
with_lcso n o =
    record {
      number = o.number;
      kind = o.kind;
      maximum = o.maximum;
      lcso = n;
      change = o.change;
      read = o.read;
      execute = o.execute;
      content = o.content;
    }

-- the three expressions anew
unfoldable pub with_expressions : Expression → Expression → Expression → Object → Object
with_expressions c r x o =
    record {
      number = o.number;
      kind = o.kind;
      maximum = o.maximum;
      lcso = o.lcso;
      change = c;
      read = r;
      execute = x;
      content = o.content;
    }

-- the expression of one slot anew
unfoldable pub with_expression : Slot → Expression → Object → Object
with_expression Change e o = with_expressions e o.read o.execute o
with_expression Read e o = with_expressions o.change e o.execute o
with_expression Execute e o = with_expressions o.change o.read e o

-- the store where the object at p has this expression in a slot
abbrev pub expression_set : ℕ → Slot → Expression → List ℕ → List ℕ
expression_set p s e b = with_record p (with_expression s e (object_at p b)) b
