-- The lines of the command table: what holds of every line holds of a command's line. So a command that is accepted and gets or sets names an object.
use Prim.Native.Nat.{ℕ, ◌+◌, ◌≤◌}
use mathlib.Core.Bool.{Bool, true, false, ◌&&◌, false≢true}
use mathlib.Core.List.{List, [], ◌∷◌}
use mathlib.Core.Path.{◌≡◌, refl, sym, ap, ◌∙◌}
use native.Mathlib.Omega.{arith}
use borrow.Author.Tests.{eqb-true, leb-true, ltb-false, not-false}
use lib.Dec.{eqb, ltb, leb}
use lib.ListN.{length, drop, length-drop}
use Rattle.mixing.specs.Runs.{All}
use Rattle.rules.specs.declared.Session.{Session}
use Rattle.rules.specs.declared.Action.{Action}
use Rattle.rules.specs.declared.Action.TheVariants.{GetData, GetMetadata, Write, EraseAndWrite, SetMetadata, Count, Append, Acknowledge}
use Rattle.rules.specs.declared.Sizes.{Sizes}
use Rattle.rules.specs.declared.Row.{Row}
use Rattle.rules.specs.declared.Row.TheVariants.{OnObject, OpenApplication, CloseApplication, Unknown}
use Rattle.rules.specs.Verdict.{accepted}
use Rattle.rules.specs.Basic.{among}
use Rattle.rules.specs.Command.{Line, between, size_right, anything, table_line, command_table, known_cmd, no_line, line_in, line_of, cmd, param, row, is_unknown, in_length, in_data, sent_body}
use Rattle.rules.specs.Queue.{body_allowed}
use Rattle.rules.specs.Refusals.{ill_sized, unknown_cmd, unknown_param, wrong_length, wrong_content, early}
use Rattle.laws.proofs.Tests.{if_by, and_left, and_right, or_left, or_right}
use Rattle.laws.proofs.Verdicts.{early_passed}
use Rattle.laws.proofs.QueueChanges.{body_of_size}

-- lines -----------------------------------------------------------------------------------------------------------------

-- what holds of every line, and where there is none, holds of the line of a Cmd and a Param
pub every_line : (P : Line → Type 0) (ls : List Line) (c p : ℕ) → All P ls → P (no_line c p) → P (line_in ls c p)
unfolding line_in
every_line P [] c p each nothing = nothing
every_line P (l ∷ ls) c p each nothing =
    if_by P (eqb c l.cmd && eqb p l.param) l (line_in ls c p) (λ t. each.0) (λ t. every_line P ls c p each.1 nothing)

-- it has the Cmd that is asked for
line_cmd : (ls : List Line) (c p : ℕ) → c ≡ (line_in ls c p).cmd
unfolding line_in no_line table_line
line_cmd [] c p = refl
line_cmd (l ∷ ls) c p =
    if_by (λ x. c ≡ x.cmd) (eqb c l.cmd && eqb p l.param) l (line_in ls c p)
    (λ t. eqb-true c l.cmd (and_left (eqb c l.cmd) _ t)) (λ t. line_cmd ls c p)

-- the rows of objects ------------------------------------------------------------------------------------------------------

-- a line of an action: InData takes in the object, and only later steps judge it
pub record ObjectLine (l : Line) : Type 0 where
  pub known : known_cmd command_table l.cmd ≡ true
  pub not_open : eqb l.cmd 0x70 ≡ false
  pub takes_object : 2 ≤ l.sizes.least
  pub takes_all : (b : List ℕ) → l.takes b ≡ true

-- of each line: it is one of an action, or its Cmd is neither 01 nor 02
abbrev LineOf : Row → Line → Type 0
LineOf (OnObject a) l = ObjectLine l
LineOf OpenApplication l = among (0x01 ∷ 0x02 ∷ []) l.cmd ≡ false
LineOf CloseApplication l = among (0x01 ∷ 0x02 ∷ []) l.cmd ≡ false
LineOf Unknown l = Unit

line_is : (c : List ℕ) → LineOf (row c) (line_of c)
unfolding row line_of known_cmd command_table table_line anything among no_line
line_is c = every_line (λ l. LineOf l.row l) command_table (cmd c) (param c) (search arith) tt

cmd_is : (c : List ℕ) → cmd c ≡ (line_of c).cmd
unfolding line_of
cmd_is c = line_cmd command_table (cmd c) (param c)

-- a command that gets or sets: what the steps 4, 5, 6 and 8 see of it
pub record OnAnObject (c : List ℕ) : Type 0 where
  pub cmd_known : unknown_cmd c ≡ false
  pub not_open : eqb (cmd c) 0x70 ≡ false
  pub param_known : unknown_param c ≡ false
  pub content_left : wrong_content c ≡ false
  pub takes_object : 2 ≤ (line_of c).sizes.least

pub on_object : (c : List ℕ) (a : Action) → row c ≡ OnObject a → OnAnObject c
unfolding unknown_cmd unknown_param wrong_content
on_object c a r =
    let line : ObjectLine (line_of c) = rw r at (line_is c) in
    search (line, cmd_is c, r, line.known, line.takes_all)

-- a known command whose Cmd is 01 or 02 gets or sets
pub record Acts (c : List ℕ) : Type 0 where
  pub action : Action
  pub is : row c ≡ OnObject action

pub acts : (c : List ℕ) → among (0x01 ∷ 0x02 ∷ []) (cmd c) ≡ true → is_unknown (row c) ≡ false → Acts c
acts c n h = by (row c) refl
  where
    by : (r : Row) → row c ≡ r → Acts c
    by (OnObject a) e = record { action = a; is = e }
    by OpenApplication e = absurd (false≢true (sym (rw e at (line_is c)) ∙ (rw (cmd_is c) at n)))
    by CloseApplication e = absurd (false≢true (sym (rw e at (line_is c)) ∙ (rw (cmd_is c) at n)))
    by Unknown e = absurd (false≢true (sym h ∙ ap is_unknown e))

-- how long a command is ------------------------------------------------------------------------------------------------------

-- a command that step 3 accepts has its InLen
pub sized : (c : List ℕ) → ill_sized c ≡ false → in_length c + 4 ≡ length c
unfolding ill_sized in_data
sized c h =
    let short : ltb (length c) 4 ≡ false = search (or_left, or_right) in
    let same : eqb (in_length c) (length (drop 4 c)) ≡ true = search (or_left, or_right, not-false) in
    omega (arith, ltb-false (length c) 4 short, eqb-true (in_length c) (length (drop 4 c)) same, length-drop 4 c)

-- one that is accepted has what its line asks at least
pub in_full : (sound : Bool) (c : List ℕ) (s : Session) → early sound c s ≡ accepted → (line_of c).sizes.least + 4 ≤ length c
unfolding wrong_length size_right
in_full sound c s h =
    let p = early_passed sound c s h in
    let n = leb-true (line_of c).sizes.least (in_length c) (and_left _ _ (not-false _ p.step_7)) in
    omega (arith, n, sized c p.step_3)

-- and no more than its line takes
pub in_limit : (sound : Bool) (c : List ℕ) (s : Session) → early sound c s ≡ accepted → length c ≤ (line_of c).sizes.most + 4
unfolding wrong_length size_right
in_limit sound c s h =
    let p = early_passed sound c s h in
    let n = leb-true (in_length c) (line_of c).sizes.most (and_right (leb (line_of c).sizes.least (in_length c)) _ (not-false _ p.step_7)) in
    omega (arith, n, sized c p.step_3)

-- so the body of an append that is accepted has 1 to 200 bytes
abbrev AppendSizes : Row → Sizes → Type 0
AppendSizes (OnObject GetData) z = Unit
AppendSizes (OnObject GetMetadata) z = Unit
AppendSizes (OnObject Write) z = Unit
AppendSizes (OnObject EraseAndWrite) z = Unit
AppendSizes (OnObject SetMetadata) z = Unit
AppendSizes (OnObject Count) z = Unit
AppendSizes (OnObject Append) z = z ≡ between 3 202
AppendSizes (OnObject Acknowledge) z = Unit
AppendSizes OpenApplication z = Unit
AppendSizes CloseApplication z = Unit
AppendSizes Unknown z = Unit

append_sizes : (c : List ℕ) → AppendSizes (row c) (line_of c).sizes
unfolding row line_of command_table table_line no_line
append_sizes c = every_line (λ l. AppendSizes l.row l.sizes) command_table (cmd c) (param c) (search) tt

pub body_sent : (sound : Bool) (c : List ℕ) (s : Session) → early sound c s ≡ accepted → row c ≡ OnObject Append → body_allowed (sent_body c) ≡ true
unfolding sent_body
body_sent sound c s h r =
    let sizes : (line_of c).sizes ≡ between 3 202 = rw r at (append_sizes c) in
    let least = ap (λ (z : Sizes). z.least) sizes in
    let most = ap (λ (z : Sizes). z.most) sizes in
    let long = in_full sound c s h in
    let short = in_limit sound c s h in
    body_of_size (drop 6 c) (omega (arith, length-drop 6 c)) (omega (arith, length-drop 6 c))
