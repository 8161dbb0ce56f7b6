-- The factory store, from one table, and the fresh session.
use Rattle.std.specs.Prelude.{ℕ, false, List, [], ◌∷◌, map, eqb, length, if◌then◌else◌}
use Rattle.rules.specs.declared.Session.{Session}
use Rattle.rules.specs.declared.Kind.TheVariants.{Data}
use Rattle.rules.specs.Expression.{Expression, always, when, only, just}
use Rattle.rules.specs.Object.{Object}
use Rattle.rules.specs.Layout.{pack}

-- an object's number and size
pub record Entry : Type 0 where
  pub number : ℕ
  pub maximum : ℕ

unfoldable pub entry : ℕ → ℕ → Entry
entry n m = record { number = n; maximum = m }

-- F1D0 to F1DB of 140 bytes, then F1E0 and F1E1 of 1,500
unfoldable pub table : List Entry
table =
    entry 0xF1D0 140 ∷ entry 0xF1D1 140 ∷ entry 0xF1D2 140 ∷ entry 0xF1D3 140 ∷ entry 0xF1D4 140 ∷ entry 0xF1D5 140 ∷
    entry 0xF1D6 140 ∷ entry 0xF1D7 140 ∷ entry 0xF1D8 140 ∷ entry 0xF1D9 140 ∷ entry 0xF1DA 140 ∷ entry 0xF1DB 140 ∷
    entry 0xF1E0 1500 ∷ entry 0xF1E1 1500 ∷ []

-- E1 FC 07: LcsO less than operational
unfoldable pub before_operational : Expression
before_operational = when (only (just (record { subject = 0xE1; relation = 0xFC; reference = 0x07 })))

unfoldable pub made : Entry → Object
made e =
    record {
      number = e.number;
      kind = Data;
      maximum = e.maximum;
      lcso = 0x01;
      change = before_operational;
      read = always;
      execute = always;
      content = [];
    }

unfoldable pub factory_objects : List Object
factory_objects = map made table

unfoldable pub factory_store : List ℕ
factory_store = pack factory_objects

unfoldable pub fresh_session : Session
fresh_session = record { opened = false; lcsg = 0x01; lcsa = 0x01; error = 0 }

-- the maker: outcome 0 and the factory store in a buffer of 6,024 bytes; else outcome 2 and the buffer as it was
unfoldable pub factory_outcome : List ℕ → ℕ
factory_outcome buffer = if eqb (length buffer) 6024 then 0 else 2

unfoldable pub factory_made : List ℕ → List ℕ
factory_made buffer = if eqb (length buffer) 6024 then factory_store else buffer
