-- A code of an object, by which a proof tells two of them apart: a group is its first condition and the others.
use Rattle.std.specs.Prelude.{ℕ, Bool, true, false, List, [], ◌∷◌, ◌≡◌, refl}
use Rattle.std.specs.Coded.{Coded, code_by, coded×, coded_bool, coded_ℕ, coded_list}
use mathlib.Core.Path.{ap}
use Rattle.rules.specs.declared.Kind.{Kind}
use Rattle.rules.specs.contracts.Kind.{the_row}
use Rattle.rules.specs.Expression.{Condition, Group, just, ◌and◌, Groups, only, ◌or◌, Expression, always, never, when}
use Rattle.rules.specs.Object.{Object}

abbrev Conditions : Type 0
Conditions = Condition × List Condition

abbrev conditions : Group → Conditions
conditions (just c) = (c, [])
conditions (c and g) = (c, (conditions g).0 ∷ (conditions g).1)

abbrev group : Condition → List Condition → Group
group c [] = just c
group c (d ∷ ds) = c and group d ds

pub group_back : (g : Group) → group (conditions g).0 (conditions g).1 ≡ g
group_back (just c) = refl
group_back (c and g) = ap (λ x. c and x) (group_back g)

abbrev group_list : Groups → Group × List Group
group_list (only g) = (g, [])
group_list (g or gs) = (g, (group_list gs).0 ∷ (group_list gs).1)

abbrev groups : Group → List Group → Groups
groups g [] = only g
groups g (h ∷ hs) = g or groups h hs

pub groups_back : (gs : Groups) → groups (group_list gs).0 (group_list gs).1 ≡ gs
groups_back (only g) = refl
groups_back (g or gs) = ap (λ x. g or x) (groups_back gs)

abbrev choice : Expression → Bool × List Groups
choice always = (true, [])
choice never = (false, [])
choice (when gs) = (true, gs ∷ [])

abbrev chosen : Bool → List Groups → Expression
chosen b (gs ∷ _) = when gs
chosen true [] = always
chosen false [] = never

pub choice_back : (e : Expression) → chosen (choice e).0 (choice e).1 ≡ e
choice_back always = refl
choice_back never = refl
choice_back (when gs) = refl

abbrev condition_code : Coded Condition
condition_code =
    code_by (ℕ × (ℕ × ℕ)) (coded× coded_ℕ (coded× coded_ℕ coded_ℕ)) (λ c. (c.subject, (c.relation, c.reference)))
    (λ p. record { subject = p.0; relation = p.1.0; reference = p.1.1 }) (λ _. refl)

abbrev group_code : Coded Group
group_code = code_by Conditions (coded× condition_code (coded_list condition_code)) conditions (λ p. group p.0 p.1) group_back

abbrev groups_code : Coded Groups
groups_code = code_by (Group × List Group) (coded× group_code (coded_list group_code)) group_list (λ p. groups p.0 p.1) groups_back

abbrev expression_code : Coded Expression
expression_code = code_by (Bool × List Groups) (coded× coded_bool (coded_list groups_code)) choice (λ p. chosen p.0 p.1) choice_back

abbrev pub object_code : Coded Object
object_code =
    code_by (ℕ × (Kind × (ℕ × (ℕ × (Expression × (Expression × (Expression × List ℕ)))))))
    (coded× coded_ℕ (coded× the_row.coded (coded× coded_ℕ (coded× coded_ℕ (coded× expression_code (coded× expression_code (coded× expression_code (coded_list coded_ℕ))))))))
    (λ o. (o.number, (o.kind, (o.maximum, (o.lcso, (o.change, (o.read, (o.execute, o.content))))))))
    (λ p. record {
      number = p.0;
      kind = p.1.0;
      maximum = p.1.1.0;
      lcso = p.1.1.1.0;
      change = p.1.1.1.1.0;
      read = p.1.1.1.1.1.0;
      execute = p.1.1.1.1.1.1.0;
      content = p.1.1.1.1.1.1.1;
    }) (λ _. refl)
