-- An alternative may belong to a class exactly where the conditions that the assignments make hold.
use Rattle.std.proofs.Common.{◌≡◌, ◌↔◌, ℕ, ◌<◌, ◌≤◌, true, false, List, [], ◌∷◌, ◌++◌, Option, Some, None, option_to_list, length, take, get_or, ℤ, ◌+◌, refl, sym, ap, ap₂, ◌∙◌, arith, length-append}
use Rattle.std.specs.Prelude.{Bool, nat_lt}
use Rattle.std.specs.List.{AllByRecursion, flat_map}
use Rattle.std.proofs.lemmas.Bool.{ltb-true}
use Rattle.std.proofs.lemmas.Int.{ints}
use Rattle.std.proofs.lemmas.List.{take_more}
use Rattle.std.proofs.lemmas.List.Elements.{filter_map-append}
use Rattle.std.proofs.lemmas.List.Concat.{flat_map-append}
use Rattle.ror_integers.proofs.Order.{le_cases}
use Rattle.ror_text.proofs.Everywhere.{all-append, all-front, all-back, all-by}
use Rattle.ror_statement.specs.declared.statement.Assignment.{Assignment}
use Rattle.ror_statement.specs.declared.statement.Statement.{Statement}
use Rattle.ror_statement.specs.Statements.{assignment_of}
use Rattle.ror_statement.specs.Names.{IsAssignmentWithin}
use Rattle.ror_table.specs.Table.{DecisionTable}
use Rattle.ror_value.specs.Over.{IsValidIn}
use Rattle.ror_value.specs.Value.{value}
use Rattle.ror_value.specs.Meaning.{Holds, assignments_of, worst_class, best_class}
use Rattle.ror_value.specs.Laws.{IsHighEnough, IsLowEnough}
use Rattle.ror_value.proofs.Classes.{assignments_within, in_class_of_each}
use Rattle.ror_rows.specs.declared.extra.Extra.{Extra}
use Rattle.ror_rows.specs.Rows.{comparison_of_extra, class_conditions}

-- what one assignment asks of an alternative that may belong to class h
abbrev pub Lets : DecisionTable → List ℤ → ℕ → ℕ → Assignment → Type 0
Lets t w a h x = IsHighEnough t w a h x × IsLowEnough t w a h x

one_lets : (t : DecisionTable) (w : List ℤ) (a h : ℕ) (x : Assignment) → x.lowest ≤ x.highest → Lets t w a h x ↔ AllByRecursion (λ e. Holds t w (comparison_of_extra e)) (class_conditions a h x)
one_lets t w a h x some = by_low (nat_lt h x.lowest) refl
  where
    by_high : (b : Bool) → nat_lt x.highest h ≡ b → nat_lt h x.lowest ≡ false → Lets t w a h x ↔ AllByRecursion (λ e. Holds t w (comparison_of_extra e)) (class_conditions a h x)
    by_high true is low =
        let past = ltb-true x.highest h is in
        let at_least : x.lowest ≤ h = omega (arith, past, some) in
        rw (low, is) (λ lets. (le_cases (value t w a) (value t w x.alternative) (λ le. absurd (let within = lets.1 le in omega (arith, within, past))) (λ lt. lt), tt), λ all. (λ le. at_least, λ le. absurd (let down = all.0 in omega (arith, ints, le, down))))
    by_high false is low =
        let at_least : x.lowest ≤ h = grind (arith, low) in
        let at_most : h ≤ x.highest = grind (arith, is) in
        rw (low, is) (λ lets. tt, λ all. (λ le. at_least, λ le. at_most))

    by_low : (b : Bool) → nat_lt h x.lowest ≡ b → Lets t w a h x ↔ AllByRecursion (λ e. Holds t w (comparison_of_extra e)) (class_conditions a h x)
    by_low true is =
        let under = ltb-true h x.lowest is in
        let at_most : h ≤ x.highest = omega (arith, under, some) in
        rw is (λ lets. (le_cases (value t w x.alternative) (value t w a) (λ le. absurd (let within = lets.0 le in omega (arith, within, under))) (λ lt. lt), tt), λ all. (λ le. absurd (let down = all.0 in omega (arith, ints, le, down)), λ le. at_most))
    by_low false is = by_high (nat_lt x.highest h) refl is

all_let : (t : DecisionTable) (w : List ℤ) (a h : ℕ) (xs : List Assignment) → AllByRecursion (λ x. x.lowest ≤ x.highest) xs → AllByRecursion (Lets t w a h) xs ↔ AllByRecursion (λ e. Holds t w (comparison_of_extra e)) (flat_map (class_conditions a h) xs)
all_let t w a h [] some = (λ all. tt, λ all. tt)
all_let t w a h (x ∷ xs) some =
    let here = one_lets t w a h x some.0 in
    let rest = all_let t w a h xs some.1 in
    let P : Extra → Type 0 = λ e. Holds t w (comparison_of_extra e) in
    (λ all. all-append P (class_conditions a h x) (flat_map (class_conditions a h) xs) (here.0 all.0) (rest.0 all.1), λ all. (here.1 (all-front P (class_conditions a h x) (flat_map (class_conditions a h) xs) all), rest.1 (all-back P (class_conditions a h x) (flat_map (class_conditions a h) xs) all)))

-- the function lets the alternative belong to the class exactly where it has each condition
pub in_class : (t : DecisionTable) (list : List Statement) (w : List ℤ) (a h : ℕ) → AllByRecursion (IsValidIn t) list → 1 ≤ h → h ≤ t.classes
    → ((worst_class t list w a ≤ h) × (h ≤ best_class t list w a)) ↔ AllByRecursion (λ e. Holds t w (comparison_of_extra e)) (flat_map (class_conditions a h) (assignments_of list))
in_class t list w a h valid first last =
    let xs = assignments_of list in
    let each = in_class_of_each t list w a h first last in
    let lets = all_let t w a h xs (all-by (IsAssignmentWithin (length t.alternatives) t.classes) (λ x. x.lowest ≤ x.highest) xs (λ x is. is.some_class) (assignments_within t list valid)) in
    (λ between. lets.0 (each.0 between), λ all. each.1 (lets.1 all))

-- one more statement
pub conditions_more : (g : Assignment → List Extra) (list : List Statement) (i : ℕ) (d : Statement) → i < length list → flat_map g (assignments_of (take (i + 1) list)) ≡ flat_map g (assignments_of (take i list)) ++ flat_map g (option_to_list (assignment_of (get_or list i d)))
conditions_more g list i d within =
    ap (λ ss. flat_map g (assignments_of ss)) (take_more list i d within)
    ∙ ap (flat_map g) (filter_map-append assignment_of (take i list) (get_or list i d ∷ []))
    ∙ flat_map-append g (assignments_of (take i list)) (assignments_of (get_or list i d ∷ []))
    ∙ ap (λ xs. flat_map g (assignments_of (take i list)) ++ flat_map g xs) (of_one (assignment_of (get_or list i d)) refl)
  where
    of_one : (m : Option Assignment) → assignment_of (get_or list i d) ≡ m → assignments_of (get_or list i d ∷ []) ≡ option_to_list (assignment_of (get_or list i d))
    of_one None is = rw is refl
    of_one (Some x) is = rw is refl

pub in_class_more : (g : Assignment → List Extra) (list : List Statement) (i : ℕ) (s : Statement) (had has : List Extra) → i < length list → s ≡ get_or list i s → had ≡ flat_map g (assignments_of (take i list)) → has ≡ had ++ flat_map g (option_to_list (assignment_of s)) → has ≡ flat_map g (assignments_of (take (i + 1) list))
in_class_more g list i s had has within is so_far pushed =
    pushed
    ∙ ap₂ (λ (xs : List Extra) (x : Statement). xs ++ flat_map g (option_to_list (assignment_of x))) so_far is
    ∙ sym (conditions_more g list i s within)

-- at most one condition for each statement
conditions_of_one : (a h : ℕ) (x : Assignment) → length (class_conditions a h x) ≤ 1
conditions_of_one a h x = by_low (nat_lt h x.lowest) refl
  where
    by_high : (b : Bool) → nat_lt x.highest h ≡ b → nat_lt h x.lowest ≡ false → length (class_conditions a h x) ≤ 1
    by_high true is low = rw (low, is) (omega arith)
    by_high false is low = rw (low, is) (omega arith)

    by_low : (b : Bool) → nat_lt h x.lowest ≡ b → length (class_conditions a h x) ≤ 1
    by_low true is = rw is (omega arith)
    by_low false is = by_high (nat_lt x.highest h) refl is

conditions_of_all : (a h : ℕ) (xs : List Assignment) → length (flat_map (class_conditions a h) xs) ≤ length xs
conditions_of_all a h [] = omega arith
conditions_of_all a h (x ∷ xs) =
    let here = conditions_of_one a h x in
    let rest = conditions_of_all a h xs in
    omega (arith, length-append (class_conditions a h x) (flat_map (class_conditions a h) xs), here, rest)

assignments_number : (list : List Statement) → length (assignments_of list) ≤ length list
assignments_number [] = omega arith
assignments_number (s ∷ ss) = by_assignment (assignment_of s) refl (assignments_number ss)
  where
    by_assignment : (m : Option Assignment) → assignment_of s ≡ m → length (assignments_of ss) ≤ length ss → length (assignments_of (s ∷ ss)) ≤ length (s ∷ ss)
    by_assignment None is rest = rw is (omega (arith, rest))
    by_assignment (Some x) is rest = rw is (omega (arith, rest))

pub class_conditions_number : (a h : ℕ) (list : List Statement) → length (flat_map (class_conditions a h) (assignments_of list)) ≤ length list
class_conditions_number a h list = let all = conditions_of_all a h (assignments_of list) in let some = assignments_number list in omega (arith, all, some)
