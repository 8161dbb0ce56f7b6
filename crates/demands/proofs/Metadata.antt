-- An object's metadata, read back without C4 and C5, is allowed content and changes nothing in the object.
use mathlib.Core.Bool.{true}
use mathlib.Core.List.{List}
use mathlib.Core.Path.{◌≡◌, refl}
use native.Mathlib.Omega.{arith}
use borrow.Author.Tests.{le-leb}
use Rattle.rules.specs.Basic.{all, among, rising, rising_from}
use Rattle.rules.specs.Expression.{may_become}
use Rattle.rules.specs.Object.{Object, object_allowed}
use Rattle.rules.specs.Metadata.{Field, field, fields_bytes, led_by_20, sent_fields, field_allowed, fields_allowed, metadata_allowed}
use Rattle.rules.specs.Metadata.{object_fields, value_of, sent_state, sent_expression, with_fields}
use Rattle.demands.specs.Demand.{without_sizes}
use Rattle.laws.proofs.Tests.{same_refl}
use Rattle.laws.proofs.Expressions.{expression_back}
use Rattle.laws.proofs.Facts.{Allowed, allowed}
use Rattle.laws.proofs.Fields.{fields_read}

-- the fields of what is read back, without C4 and C5
unfoldable pub own_fields : Object → List Field
unfolding without_sizes object_fields field among
own_fields o = without_sizes (object_fields o)

pub own_sent : (o : Object) → sent_fields (led_by_20 (fields_bytes (own_fields o))) ≡ own_fields o
unfolding sent_fields led_by_20
own_sent o = fields_read 4 (own_fields o) (unfold own_fields in omega arith)

own_fields_allowed : (o : Object) → Allowed o → fields_allowed o.lcso (own_fields o) ≡ true
unfolding fields_allowed own_fields field_allowed field may_become among
own_fields_allowed o a =
    rw (a.state, le-leb o.lcso o.lcso (omega arith), expression_back _ a.change, expression_back _ a.read, expression_back _ a.execute)

pub own_allowed : (o : Object) → object_allowed o ≡ true → metadata_allowed o.lcso (led_by_20 (fields_bytes (own_fields o))) ≡ true
unfolding metadata_allowed
own_allowed o h =
    rw (own_sent o, same_refl (led_by_20 (fields_bytes (own_fields o))), own_fields_allowed o (allowed o h))
    (unfold all own_fields field rising rising_from in refl)

pub own_changes_nothing : (o : Object) → object_allowed o ≡ true → with_fields (own_fields o) o ≡ o
unfolding with_fields own_fields value_of sent_state sent_expression field
own_changes_nothing o h =
    let a = allowed o h in
    rw (expression_back _ a.change, expression_back _ a.read, expression_back _ a.execute)
