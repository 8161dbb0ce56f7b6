-- When the element says no, in this order: the steps 2 to 13. Step 1 and the flush are in Step.
use Rattle.std.specs.Prelude.{ℕ, ◌+◌, Bool, true, false, not, ◌&&◌, ◌||◌, List, [], eqb, ltb, length, Err}
use Rattle.std.proofs.Math.Option.{Option, none, some}
use Rattle.rules.specs.declared.Session.{Session}
use Rattle.rules.specs.declared.Action.{Action}
use Rattle.rules.specs.declared.Row.{Row}
use Rattle.rules.specs.declared.Row.TheVariants.{OnObject, OpenApplication, CloseApplication, Unknown}
use Rattle.rules.specs.declared.Refusal.TheVariants.{InvalidObject, InvalidParam, InvalidLength, InvalidData, InternalError}
use Rattle.rules.specs.declared.Refusal.TheVariants.{AccessDenied, InvalidCommand, NotAvailable, InsufficientBuffer}
use Rattle.rules.specs.Verdict.{Verdict, accepted}
use Rattle.rules.specs.Command.{cmd, row, line_of, size_right, in_length, in_data, known_cmd, command_table, is_unknown, object_number}
use Rattle.rules.specs.Expression.{is_state}
use Rattle.rules.specs.Object.{Object}
use Rattle.rules.specs.Session.{with_opened}
use Rattle.rules.specs.Chain.{◌refused◌or◌, ◌and_then◌}
use Rattle.rules.specs.Access.{Seen, named, access}
use Rattle.rules.specs.Operation.{Operation, operation, setting_session}

-- the conditions of the steps 2 to 8 ------------------------------------------------------------------------------------

-- store malformed, or LcsG or LcsA not 01, 03, 07, 0F
unfoldable pub unsound : Bool → Session → Bool
unsound sound s = not sound || not (is_state s.lcsg) || not (is_state s.lcsa)

-- command under 4 or over 1,557 bytes, or InLen is not the count of bytes after it
unfoldable pub ill_sized : List ℕ → Bool
ill_sized c = ltb (length c) 4 || ltb 1557 (length c) || not (eqb (in_length c) (length (in_data c)))

unfoldable pub unknown_cmd : List ℕ → Bool
unknown_cmd c = not (known_cmd command_table (cmd c))

-- LcsA is 0F, or closed and Cmd isn't open
unfoldable pub unusable : List ℕ → Session → Bool
unusable c s = eqb s.lcsa 0x0F || not s.opened && not (eqb (cmd c) 0x70)

-- unknown Param for this Cmd
unfoldable pub unknown_param : List ℕ → Bool
unknown_param c = is_unknown (row c)

-- InLen wrong for the row
unfoldable pub wrong_length : List ℕ → Bool
wrong_length c = not (size_right (line_of c).sizes (in_length c))

-- open with another identifier
unfoldable pub wrong_content : List ℕ → Bool
wrong_content c = not ((line_of c).takes (in_data c))

-- the steps, in order: the first that applies gives the code ------------------------------------------------------------

-- 2 to 8 look at no object; `sound`: the store is not malformed
unfoldable pub early : Bool → List ℕ → Session → Verdict
early sound c s =
    unsound sound s refused InternalError or  -- 2: 06
    ill_sized c refused InvalidLength or  -- 3: 04
    unknown_cmd c refused InvalidCommand or  -- 4: 0A
    unusable c s refused NotAvailable or  -- 5: 0C
    unknown_param c refused InvalidParam or  -- 6: 03
    wrong_length c refused InvalidLength or  -- 7: 04
    wrong_content c refused InvalidData or  -- 8: 05
    accepted

-- what the steps 9 to 12 say of a command, and what it does where none refuses
pub record Ruling : Type 0 where
  pub verdict : Verdict
  pub does : Operation
  -- the counters that it uses up
  pub counters : List ℕ

-- with the object that the command names
unfoldable pub ruling_on : Action → List ℕ → Option Object → Seen → Ruling
ruling_on a c none see = record { verdict = Err InvalidObject; does = setting_session see.session; counters = [] }  -- 9: 01
ruling_on a c (some o) see =
    let g = access a o see in
    let p = operation a c o see in
    record {
      verdict =
          not g.granted refused AccessDenied or  -- 10: 07
          p.verdict;  -- 11 and 12
      does = p;
      counters = g.counters;
    }

-- a row that names no object
unfoldable pub ruling_of : Session → Ruling
ruling_of s = record { verdict = accepted; does = setting_session s; counters = [] }

-- Open and close answer with no data. The last error survives opening and closing.
unfoldable pub ruling : Row → List ℕ → Seen → Ruling
ruling (OnObject a) c see = ruling_on a c (named (object_number c) see) see
ruling OpenApplication c see = ruling_of (with_opened true see.session)
ruling CloseApplication c see = ruling_of (with_opened false see.session)
-- refused at step 6
ruling Unknown c see = ruling_of see.session

-- 13: whether an answer of n bytes fits a room of this size
unfoldable pub fitting : ℕ → ℕ → Verdict
fitting n room =
    ltb room (4 + n) refused InsufficientBuffer or  -- 13: 0D
    accepted

-- 9 to 13
unfoldable pub late : Ruling → ℕ → Verdict
late r room = r.verdict and_then fitting (length r.does.answer) room

-- 2 to 13; `sound`: the store is not malformed
unfoldable pub verdict : Bool → List ℕ → ℕ → Seen → Verdict
verdict sound c room see = early sound c see.session and_then late (ruling (row c) c see) room
