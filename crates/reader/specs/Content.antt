-- What stands at a position of metadata content, and where a reader goes from there.
use Rattle.std.specs.Prelude.{ℕ, ◌+◌, List, [], ◌∷◌, ltb, length, take, drop, if◌then◌else◌, Option, Some, None, Result, Ok, Err}
use Rattle.rules.specs.Metadata.{Field, field}
use Rattle.reader.specs.declared.Field as code
use Rattle.reader.specs.declared.Malformed.{Malformed}
use Rattle.reader.specs.declared.MetadataReader.{MetadataReader}

-- a field by its bytes, and what stands somewhere by them
abbrev pub told : code.Field → Field
told f = field f.tag f.value.now

abbrev pub seen : Option (Result code.Field Malformed) → Option (Result Field Malformed)
seen None = None
seen (Some (Ok f)) = Some (Ok (told f))
seen (Some (Err e)) = Some (Err e)

-- a tag, a length and as many bytes; the end; or neither
unfoldable pub field_in : List ℕ → Option (Result Field Malformed)
field_in [] = None
field_in (t ∷ []) = Some (Err (record {}))
field_in (t ∷ n ∷ rest) = if ltb (length rest) n then Some (Err (record {})) else Some (Ok (field t (take n rest)))

unfoldable pub field_at : ℕ → List ℕ → Option (Result Field Malformed)
field_at at m = field_in (drop at m)

-- where a field ends, or the place given where there is none
abbrev pub end_of : Option (Result Field Malformed) → ℕ → ℕ
end_of None at = at
end_of (Some (Ok f)) at = at + 2 + length f.value
end_of (Some (Err e)) at = at

-- the place behind what stands at a place
unfoldable pub place_after : ℕ → List ℕ → ℕ
place_after at m = end_of (field_at at m) at

-- what a reader stands at, and the reader that has gone past it
abbrev pub next_field : MetadataReader → Option (Result Field Malformed)
next_field r = field_at r.at r.content.now

abbrev pub advanced : MetadataReader → MetadataReader
advanced r = record { content = r.content; at = place_after r.at r.content.now }
