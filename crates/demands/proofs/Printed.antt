-- The text of every list fits: no line has more than 251 bytes for each byte of its command and of its length.
use Prim.Native.Nat.{ℕ, zero, suc, ◌+◌, ◌*◌, ◌≤◌, ◌<◌}
use mathlib.Core.Bool.{true, false}
use mathlib.Core.List.{List, [], ◌∷◌, ◌++◌}
use mathlib.Core.Option.{Option, none, some}
use mathlib.Core.Path.{◌≡◌, refl, ap, ◌∙◌}
use native.Mathlib.Omega.{arith}
use borrow.Author.Tests.{ltb-true, ltb-false}
use lib.Dec.{ltb}
use lib.ListN.{length, take, drop, length-append, length-take, length-drop, length-replicate}
use Rattle.rules.specs.declared.Session.{Session}
use Rattle.rules.specs.declared.Action.{Action}
use Rattle.rules.specs.declared.Action.TheVariants.{GetData, GetMetadata, Write, EraseAndWrite, SetMetadata, Count, Append, Acknowledge}
use Rattle.rules.specs.declared.Row.{Row}
use Rattle.rules.specs.declared.Row.TheVariants.{OnObject, OpenApplication, CloseApplication, Unknown}
use Rattle.rules.specs.Verdict.{accepted}
use Rattle.rules.specs.Basic.{zeros, big_endian_at, is_some, or_else}
use Rattle.rules.specs.Hex.{ascii}
use Rattle.rules.specs.Command.{table_line, command_table, no_line, line_of, cmd, param, row, object_number}
use Rattle.rules.specs.Response.{done_response, refused_response, put_in_front}
use Rattle.rules.specs.Expression.{always}
use Rattle.rules.specs.Object.{Object, of_session}
use Rattle.rules.specs.Layout.{unpack}
use Rattle.rules.specs.Factory.{factory_store, fresh_session}
use Rattle.rules.specs.Metadata.{field, fields_bytes, object_fields, led_by_20, metadata}
use Rattle.rules.specs.Access.{Seen, seen, named, asked, access, granted}
use Rattle.rules.specs.Operation.{operation, setting_session}
use Rattle.rules.specs.Refusals.{ruling_on, ruling_of, ruling, verdict}
use Rattle.rules.specs.Step.{After, unanswered, declined, performed, flushed, step}
use Rattle.rules.specs.Program.{upper_hex, line, response_in, answer_line, lines, printed}
use Rattle.laws.proofs.Tests.{if_by}
use Rattle.laws.proofs.Expressions.{expression_length}
use Rattle.laws.proofs.Facts.{Allowed}
use Rattle.laws.proofs.Inverse.{two_bytes, pack_unpack}
use Rattle.laws.proofs.Verdicts.{nine_passed, verdict_passed}
use Rattle.laws.proofs.Rows.{every_line, in_full}
use Rattle.laws.proofs.Named.{in_store, found_there}
use Rattle.laws.proofs.Fitting.{not_never}
use Rattle.laws.proofs.Keeps.{ruled, step_by, malformed_refused, step_room_length}

-- what is shown of a room -----------------------------------------------------------------------------------------------------

response_length : (room : List ℕ) → (length (response_in room) ≤ length room) × (length (response_in room) ≤ 4 + big_endian_at 2 room)
unfolding response_in
response_length room = let e = length-take (4 + big_endian_at 2 room) room in (omega (arith, e), omega (arith, e))

hex_length : (b : List ℕ) → length (upper_hex b) ≡ 2 * length b
unfolding upper_hex
hex_length [] = refl
hex_length (x ∷ b) = omega (arith, hex_length b)

line_length : (a : After) → length (answer_line a) ≡ 3 + 2 * length (response_in a.room)
unfolding answer_line line
line_length a = simp length-append (omega (arith, hex_length (response_in a.room)))

-- answers of short commands ---------------------------------------------------------------------------------------------------

pub metadata_length : (o : Object) → Allowed o → length (metadata o) ≤ 100
unfolding metadata led_by_20 fields_bytes object_fields field
metadata_length o a =
    simp length-append
    (omega (arith, expression_length o.change a.change, expression_length o.read a.read, expression_length o.execute a.execute))

-- a get of data has 6 bytes of InData
get_size : (c : List ℕ) → row c ≡ OnObject GetData → (line_of c).sizes.least ≡ 6
unfolding row line_of command_table table_line no_line
get_size c =
    every_line (λ l. l.row ≡ OnObject GetData → l.sizes.least ≡ 6) command_table (cmd c) (param c)
    ((λ e. cc), ((λ e. cc), ((λ e. cc), ((λ e. cc), ((λ e. cc), ((λ e. cc), ((λ e. cc), ((λ e. cc), ((λ e. cc), ((λ e. cc), tt)))))))))) (λ e. cc)

-- what is no get of data answers no data, or the metadata of a stored object
operation_short : (a : Action) (c : List ℕ) (o : Object) (see : Seen) → (a ≡ GetData → ⊥) → granted a o see ≡ true →
    (of_session o.kind ≡ false → Allowed o) → length (operation a c o see).answer ≤ 100
unfolding operation access asked
operation_short GetData c o see other g known = absurd (other refl)
operation_short GetMetadata c o see other g known = metadata_length o (known (not_never (of_session o.kind) see o.lcso always g))
operation_short Write c o see other g known = omega arith
operation_short EraseAndWrite c o see other g known = omega arith
operation_short SetMetadata c o see other g known = omega arith
operation_short Count c o see other g known = omega arith
operation_short Append c o see other g known = omega arith
operation_short Acknowledge c o see other g known = omega arith

-- an accepted command of less than ten bytes is no get of data
answer_short : (c store : List ℕ) (room : ℕ) (m : Option (List Object)) (s : Session) → length c < 10 → unpack store ≡ m →
    let see = seen (or_else m []) s in
    verdict (is_some m) c room see ≡ accepted → length (ruling (row c) c see).does.answer ≤ 100
unfolding seen ruling ruling_on ruling_of setting_session
answer_short c store room none s l u v = absurd (malformed_refused c room (seen [] s) v)
answer_short c store room (some os) s l u v = by (row c) refl
  where
    by : (r : Row) → row c ≡ r → length (ruling r c (seen os s)).does.answer ≤ 100
    by (OnObject a) e =
        let n = object_number c in
        let (early, late) = verdict_passed true c room (seen os s) v in
        let p = nine_passed a c (named n (seen os s)) (seen os s) room (rw e at late) in
        let other : a ≡ GetData → ⊥ = λ g. omega (arith, l, in_full true c s early, get_size c (e ∙ ap OnObject g)) in
        let known : of_session p.object.kind ≡ false → Allowed p.object =
        λ k. (found_there n os p.object (pack_unpack store os u).1 (in_store n (seen os s) p.object k p.there)).facts in
        rw p.there (operation_short a c p.object (seen os s) other p.late.granted known)
    by OpenApplication e = omega arith
    by CloseApplication e = omega arith
    by Unknown e = omega arith

-- so its response has at most 104 bytes
response_short : (c room store : List ℕ) (s : Session) → length c < 10 → length (response_in (step c room store s).room) ≤ 104
unfolding unanswered performed declined put_in_front done_response refused_response
response_short c room store s l =
    step_by (λ a. length (response_in a.room) ≤ 104) c room store s
    (λ m. omega (arith, (response_length room).0, m)) (λ m r e. omega (arith, (response_length (put_in_front refused_response room)).1))
    (λ m e.
    let out = (ruled c (unpack store) (flushed c s)).does.answer in
    let short = answer_short c store (length room) _ (flushed c s) l refl e in
    omega (arith, (response_length (put_in_front (done_response out) room)).1, two_bytes (length out), short))

-- lines -----------------------------------------------------------------------------------------------------------------------

-- a line has at most 251 bytes for each byte of its command and of its length
pub line_short : (c room store : List ℕ) (s : Session) → length room ≡ 1504 → length (answer_line (step c room store s)) ≤ 251 * (2 + length c)
line_short c room store s h =
    let a = step c room store s in
    elim (ltb (length c) 10) as (λ t. ltb (length c) 10 ≡ t → length (answer_line (step c room store s)) ≤ 251 * (2 + length c)) [
      | true ↦ λ e. omega (arith, line_length a, response_short c room store s (ltb-true (length c) 10 e))
      | false ↦ λ e. omega (arith, h, line_length a, (response_length a.room).0, step_room_length c room store s, ltb-false (length c) 10 e)
    ] refl

-- so have all lines
pub lines_fit : (n : ℕ) (input store : List ℕ) (s : Session) → length (lines n input store s) ≤ 251 * length input
unfolding lines line ascii
lines_fit zero input store s = omega arith
lines_fit (suc n) [] store s = omega arith
lines_fit (suc n) (h ∷ []) store s = omega arith
lines_fit (suc n) (h ∷ l ∷ rest) store s =
    let size = big_endian_at 0 (h ∷ l ∷ []) in
    let a = step (take size rest) (zeros 1504) store s in
    let more = lines n (drop size rest) a.store a.session in
    let first = line_short (take size rest) (zeros 1504) store s (length-replicate {A = ℕ} 1504 0) in
    let later = lines_fit n (drop size rest) a.store a.session in
    if_by (λ text. length text ≤ 251 * length (h ∷ l ∷ rest)) (ltb (length rest) size) (line (ascii "cut")) (answer_line a ++ more) (λ t. omega arith)
    (λ t. omega (arith, first, later, length-append (answer_line a) more, length-take size rest, length-drop size rest))

-- what the program prints fits the output that it has
pub printed_fits : (input : List ℕ) → length (printed input) ≤ 4112384
unfolding printed line ascii
printed_fits input =
    if_by (λ text. length text ≤ 4112384) (ltb 16384 (length input)) (line (ascii "too long")) _ (λ t. omega arith)
    (λ t. omega (arith, lines_fit (length input) input factory_store fresh_session, ltb-false 16384 (length input) t))
