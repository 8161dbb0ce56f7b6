-- Metadata: what an object answers, what content may be sent in, what it changes.
use Rattle.std.specs.Prelude.{ℕ, zero, suc, Bool, true, ◌&&◌, List, [], ◌∷◌, ◌++◌, map, eqb, leb, length, get_or, take, drop, if◌then◌else◌}
use Rattle.std.proofs.Math.Option.{Option, none, some}
use Rattle.rules.specs.Basic.{all, among, same, rising, big_endian, is_some, or_else}
use Rattle.rules.specs.Expression.{Expression, expression, expression_bytes, may_become}
use Rattle.rules.specs.Object.{Object, used}

pub record Field : Type 0 where
  pub tag : ℕ
  pub value : List ℕ

unfoldable pub field : ℕ → List ℕ → Field
field t v = record { tag = t; value = v }

-- each tag, length, value
unfoldable pub fields_bytes : List Field → List ℕ
fields_bytes [] = []
fields_bytes (f ∷ fs) = f.tag ∷ length f.value ∷ f.value ++ fields_bytes fs

-- C0 (LcsO, 1), C4 (maximum, 2), C5 (used, 2), D0 (change), D1 (read), D3 (execute)
unfoldable pub object_fields : Object → List Field
object_fields o =
    field 0xC0 (o.lcso ∷ []) ∷ field 0xC4 (big_endian o.maximum) ∷ field 0xC5 (big_endian (used o)) ∷
    field 0xD0 (expression_bytes o.change) ∷ field 0xD1 (expression_bytes o.read) ∷ field 0xD3 (expression_bytes o.execute) ∷ []

-- 20, L, then L bytes
unfoldable pub led_by_20 : List ℕ → List ℕ
led_by_20 b = 0x20 ∷ length b ∷ b

-- the answer
unfoldable pub metadata : Object → List ℕ
metadata o = led_by_20 (fields_bytes (object_fields o))

-- sent in -----------------------------------------------------------------------------------------------------------

-- at most n fields: the only ones that these bytes can be; what is not their bytes is caught by `metadata_allowed`
unfoldable pub read_fields : ℕ → List ℕ → List Field
read_fields zero b = []
read_fields (suc n) [] = []
read_fields (suc n) (t ∷ []) = []
read_fields (suc n) (t ∷ l ∷ b) = field t (take l b) ∷ read_fields n (drop l b)

-- the fields after 20 and L: four tags are allowed and they rise, so there are at most four
unfoldable pub sent_fields : List ℕ → List Field
sent_fields m = read_fields 4 (drop 2 m)

-- C0 is one of the four states and may not fall; D0, D1 and D3 are well-formed expressions; no other tag is allowed
unfoldable pub field_allowed : ℕ → Field → Bool
field_allowed lcso f =
    if eqb f.tag 0xC0 then eqb (length f.value) 1 && may_become lcso (get_or f.value 0 0) else
    among (0xD0 ∷ 0xD1 ∷ 0xD3 ∷ []) f.tag && is_some (expression f.value)

unfoldable pub fields_allowed : ℕ → List Field → Bool
fields_allowed lcso [] = true
fields_allowed lcso (f ∷ fs) = field_allowed lcso f && fields_allowed lcso fs

-- what may be sent in to an object at this LcsO
unfoldable pub metadata_allowed : ℕ → List ℕ → Bool
metadata_allowed lcso m =
    let fs = sent_fields m in
    all
    ( -- one or more
    leb 1 (length fs) ∷
    -- filling L exactly, L filling InData
    same (led_by_20 (fields_bytes fs)) m ∷
    -- tags rising, no repeats
    rising (map (λ f. f.tag) fs) ∷
    fields_allowed lcso fs ∷ [])

-- the value under a tag
unfoldable pub value_of : ℕ → List Field → Option (List ℕ)
value_of t [] = none
value_of t (f ∷ fs) = let rest = value_of t fs in if eqb t f.tag then some f.value else rest

unfoldable pub sent_state : Option (List ℕ) → ℕ → ℕ
sent_state none old = old
sent_state (some v) old = get_or v 0 0

unfoldable pub sent_expression : Option (List ℕ) → Expression → Expression
sent_expression none old = old
sent_expression (some v) old = or_else (expression v) old

-- all of it is stored; what is not sent stays
unfoldable pub with_fields : List Field → Object → Object
with_fields fs o =
    record {
      number = o.number;
      kind = o.kind;
      maximum = o.maximum;
      lcso = sent_state (value_of 0xC0 fs) o.lcso;
      change = sent_expression (value_of 0xD0 fs) o.change;
      read = sent_expression (value_of 0xD1 fs) o.read;
      execute = sent_expression (value_of 0xD3 fs) o.execute;
      content = o.content;
    }
