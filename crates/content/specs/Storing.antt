-- A store with the fields of content in one of its objects, and the slot that a field's tag names.
use Rattle.std.specs.Prelude.{ℕ, List, eqb, if◌then◌else◌}
use Rattle.rules.specs.Metadata.{Field, with_fields}
use Rattle.rules.specs.declared.Slot.{Slot}
use Rattle.rules.specs.declared.Slot.TheVariants.{Change, Read, Execute}
use Rattle.record.specs.Places.{object_at, with_record}

-- a store in which the object at a place has these fields in place of its own
abbrev pub stored_fields : ℕ → List Field → List ℕ → List ℕ
stored_fields at fields store = with_record at (with_fields fields (object_at at store)) store

-- the slot of an expression's tag
unfoldable pub tag_slot : ℕ → Slot
tag_slot t = if eqb t 0xD0 then Change else (if eqb t 0xD1 then Read else Execute)
