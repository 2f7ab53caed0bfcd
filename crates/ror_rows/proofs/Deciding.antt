-- Consistency and answers by which systems have solutions.
use Rattle.std.proofs.Common.{◌≡◌, ◌↔◌, ◌⊎◌, ℕ, ◌≤◌, List, [], ◌∷◌, length, map, ℤ, true, false, refl, subst, sym, arith, inl, inr}
use Rattle.std.specs.Prelude.{Bool, ◌<◌, nat_lt}
use Rattle.std.specs.List.{AllByRecursion}
use Rattle.ror_integers.proofs.Ring.{sums}
use Rattle.ror_integers.proofs.Order.{le_cases}
use Rattle.ror_text.proofs.Everywhere.{all-map, all-by, all-pieces}
use Rattle.ror_statement.specs.declared.comparison.Form.{Form}
use Rattle.ror_statement.specs.declared.statement.Statement.{Statement}
use Rattle.ror_statement.specs.declared.question.QuestionKind.TheVariants.{Plain, Any, Every}
use Rattle.ror_statement.specs.declared.question.Property.{Property}
use Rattle.ror_statement.specs.declared.question.Property.TheVariants as property
use Rattle.ror_statement.specs.declared.question.Question.{Question}
use Rattle.ror_statement.specs.declared.question.Conclusion.TheVariants.{Yes}
use Rattle.ror_statement.specs.Questions.{kind_of, property_of}
use Rattle.ror_statement.specs.Names.{IsPropertyWithin, IsAssignmentWithin}
use Rattle.ror_statement.specs.declared.statement.Assignment.{Assignment}
use Rattle.ror_statement.specs.declared.row_number.TheConstants.{MOST_STATEMENTS}
use Rattle.ror_table.specs.Table.{DecisionTable}
use Rattle.ror_system.specs.System.{Solves, IsSolvable}
use Rattle.ror_value.specs.Over.{IsNamedIn, IsLawfulIn, IsAskedIn}
use Rattle.ror_value.specs.Meaning.{first_quantity, second_quantity, Holds, IsCompatible, IsConsistent, IsContradictory, Has, HoldsOfCompatible, Answers, assignments_of}
use Rattle.ror_value.proofs.Classes.{assignments_within}
use Rattle.ror_rows.specs.declared.extra.Extra.{Extra}
use Rattle.ror_rows.specs.Rows.{system_for, comparison_of_extra, negation_of, class_conditions, conditions_of, systems_by}
use Rattle.ror_rows.specs.Laws.{NoneSolvable, OneSolvable}
use Rattle.ror_rows.proofs.Building.{turned-named}
use Rattle.ror_rows.proofs.ClassConditions.{class_conditions_number, in_class}
use Rattle.ror_rows.proofs.Holding.{first-turned, second-turned, rows_hold_extra, rows_hold_base}

-- ---- a condition and its negation
abbrev pub HoldsExtra : DecisionTable → List ℤ → Extra → Type 0
HoldsExtra t w e = Holds t w (comparison_of_extra e)

pub negation_excludes : (t : DecisionTable) (w : List ℤ) (e : Extra) → HoldsExtra t w (negation_of e) → HoldsExtra t w e → ⊥
negation_excludes t w e = by_flag e.strict e.form
  where
    by_flag : (strict : Bool) (form : Form) → HoldsExtra t w (negation_of (record { form = form; strict = strict })) → HoldsExtra t w (record { form = form; strict = strict }) → ⊥
    by_flag true form fails holds = let x = first-turned t w form in let y = second-turned t w form in absurd (omega (arith, sums, x, y, fails, holds))
    by_flag false form fails holds = let x = first-turned t w form in let y = second-turned t w form in absurd (omega (arith, sums, x, y, fails, holds))

pub holds_or_negation : (t : DecisionTable) (w : List ℤ) (e : Extra) → HoldsExtra t w e ⊎ HoldsExtra t w (negation_of e)
holds_or_negation t w e = by_flag e.strict e.form
  where
    by_flag : (strict : Bool) (form : Form) → HoldsExtra t w (record { form = form; strict = strict }) ⊎ HoldsExtra t w (negation_of (record { form = form; strict = strict }))
    by_flag true form =
        let x = first-turned t w form in
        let y = second-turned t w form in
        le_cases (first_quantity t w form) (second_quantity t w form) (λ le. inr (omega (arith, sums, x, y, le))) (λ lt. inl lt)
    by_flag false form =
        let x = first-turned t w form in
        let y = second-turned t w form in
        le_cases (second_quantity t w form) (first_quantity t w form) (λ le. inl le) (λ lt. inr (omega (arith, sums, x, y, lt)))

-- ---- conditions
in_class_named : (t : DecisionTable) (a h : ℕ) (x : Assignment) → a < length t.alternatives → x.alternative < length t.alternatives → AllByRecursion (λ e. IsNamedIn t e.form) (class_conditions a h x)
in_class_named t a h x mine other = by_low (nat_lt h x.lowest) refl
  where
    by_high : (b : Bool) → nat_lt x.highest h ≡ b → nat_lt h x.lowest ≡ false → AllByRecursion (λ e. IsNamedIn t e.form) (class_conditions a h x)
    by_high true is low = rw (low, is) ((mine, other), tt)
    by_high false is low = rw (low, is) tt

    by_low : (b : Bool) → nat_lt h x.lowest ≡ b → AllByRecursion (λ e. IsNamedIn t e.form) (class_conditions a h x)
    by_low true is = rw is ((other, mine), tt)
    by_low false is = by_high (nat_lt x.highest h) refl is

pub conditions_named : (t : DecisionTable) (list : List Statement) (p : Property) → IsLawfulIn t list → IsPropertyWithin (length t.alternatives) (length t.criteria) t.classes p → AllByRecursion (λ e. IsNamedIn t e.form) (conditions_of list p)
conditions_named t list property.Compatible lawful within = tt
conditions_named t list (property.AtLeast form) lawful within = (within, tt)
conditions_named t list (property.InClass a h) lawful within =
    all-pieces (λ e. IsNamedIn t e.form) (class_conditions a h) (assignments_of list) (all-by (IsAssignmentWithin (length t.alternatives) t.classes) (λ x. AllByRecursion (λ e. IsNamedIn t e.form) (class_conditions a h x)) (assignments_of list) (λ x is. in_class_named t a h x within.0 is.alternative) (assignments_within t list lawful.each_valid))

pub conditions_few : (t : DecisionTable) (list : List Statement) (p : Property) → IsLawfulIn t list → length (conditions_of list p) ≤ MOST_STATEMENTS
conditions_few t list property.Compatible lawful = omega arith
conditions_few t list (property.AtLeast form) lawful = omega arith
conditions_few t list (property.InClass a h) lawful = let number = class_conditions_number a h list in let few = lawful.few in omega (arith, number, few)

-- a function has the property exactly where it has each condition
pub has_conditions : (t : DecisionTable) (list : List Statement) (w : List ℤ) (p : Property) → IsLawfulIn t list → IsPropertyWithin (length t.alternatives) (length t.criteria) t.classes p → Has t list w p ↔ AllByRecursion (HoldsExtra t w) (conditions_of list p)
has_conditions t list w property.Compatible lawful within = (λ has. tt, λ all. tt)
has_conditions t list w (property.AtLeast form) lawful within = (λ has. (has, tt), λ all. all.0)
has_conditions t list w (property.InClass a h) lawful within = in_class t list w a h lawful.each_valid within.1 within.2

-- ---- systems
pub base_solvable_is_consistent : (t : DecisionTable) (list : List Statement) → IsLawfulIn t list → IsConsistent t list ↔ IsSolvable (system_for t list [])
base_solvable_is_consistent t list lawful = (λ h. (h.0, (rows_hold_base t list h.0 lawful).0 h.1), λ s. (s.0, (rows_hold_base t list s.0 lawful).1 s.1))

pub base_refuted_is_contradictory : (t : DecisionTable) (list : List Statement) → IsLawfulIn t list → (IsSolvable (system_for t list []) → ⊥) → IsContradictory t list
base_refuted_is_contradictory t list lawful none w h = none (w, (rows_hold_base t list w lawful).0 h)

-- a function that solves the system of a negation is compatible, and the condition fails of it; and conversely
pub fails_at : (t : DecisionTable) (list : List Statement) (e : Extra) (w : List ℤ) → IsLawfulIn t list → IsNamedIn t e.form
    → (IsCompatible t list w × HoldsExtra t w (negation_of e)) ↔ Solves (system_for t list (map comparison_of_extra (negation_of e ∷ []))) w
fails_at t list e w lawful named =
    let both = rows_hold_extra t list (map comparison_of_extra (negation_of e ∷ [])) w lawful (turned-named t e.form named, tt) in
    (λ h. both.0 (h.0, (h.1, tt)), λ s. let found = both.1 s in (found.0, found.1.0))

-- of every compatible function each condition holds exactly where no system of a negation is solvable
every_condition : (t : DecisionTable) (list : List Statement) (es : List Extra) → IsLawfulIn t list → AllByRecursion (λ e. IsNamedIn t e.form) es
    → ((w : List ℤ) → IsCompatible t list w → AllByRecursion (HoldsExtra t w) es) ↔ AllByRecursion (λ extra. IsSolvable (system_for t list extra) → ⊥) (map (map comparison_of_extra) (map (λ e. negation_of e ∷ []) es))
every_condition t list [] lawful named = (λ each. tt, λ none w h. tt)
every_condition t list (e ∷ es) lawful named =
    let rest = every_condition t list es lawful named.1 in
    (λ each. (λ s. let found = (fails_at t list e s.0 lawful named.0).1 s.1 in negation_excludes t s.0 e found.1 (each s.0 found.0).0, rest.0 (λ w h. (each w h).1)), λ none w h. (elim (holds_or_negation t w e) [ inl holds ↦ holds | inr fails ↦ absurd (none.0 (w, (fails_at t list e w lawful named.0).0 (h, fails))) ], rest.1 none.1 w h))

pub every_decides : (t : DecisionTable) (list : List Statement) (p : Property) → IsLawfulIn t list → IsPropertyWithin (length t.alternatives) (length t.criteria) t.classes p
    → HoldsOfCompatible t list Every p ↔ AllByRecursion (λ extra. IsSolvable (system_for t list extra) → ⊥) (map (map comparison_of_extra) (systems_by Every (conditions_of list p)))
every_decides t list p lawful within =
    let each = every_condition t list (conditions_of list p) lawful (conditions_named t list p lawful within) in
    (λ holds. each.0 (λ w h. (has_conditions t list w p lawful within).0 (holds w h)), λ none w h. (has_conditions t list w p lawful within).1 (each.1 none w h))

pub any_decides : (t : DecisionTable) (list : List Statement) (p : Property) → IsLawfulIn t list → IsPropertyWithin (length t.alternatives) (length t.criteria) t.classes p
    → HoldsOfCompatible t list Any p ↔ IsSolvable (system_for t list (map comparison_of_extra (conditions_of list p)))
any_decides t list p lawful within =
    let es = conditions_of list p in
    let named = (all-map (λ c. IsNamedIn t c.form) comparison_of_extra es).0 (conditions_named t list p lawful within) in (
      λ holds. (holds.0, (rows_hold_extra t list (map comparison_of_extra es) holds.0 lawful named).0 (holds.1, (all-map (Holds t holds.0) comparison_of_extra es).0 ((has_conditions t list holds.0 p lawful within).0 holds.2))),
      λ s. let found = (rows_hold_extra t list (map comparison_of_extra es) s.0 lawful named).1 s.1 in (s.0, found.0, (has_conditions t list s.0 p lawful within).1 ((all-map (Holds t s.0) comparison_of_extra es).1 found.1)),
    )

pub systems_decide_every : (t : DecisionTable) (list : List Statement) (q : Question) → IsLawfulIn t list → IsConsistent t list → IsAskedIn t q → kind_of q ≡ Every → Answers t list q Yes ↔ NoneSolvable t list q
systems_decide_every t list q lawful consistent asked is =
    rw is (λ answer. (every_decides t list (property_of q) lawful asked).0 answer.1, λ none. (consistent, (every_decides t list (property_of q) lawful asked).1 none))

one_system : (t : DecisionTable) (list : List Statement) (extra found : List Extra) → map (map comparison_of_extra) (extra ∷ []) ≡ map (map comparison_of_extra) (found ∷ []) → map comparison_of_extra extra ≡ map comparison_of_extra found
one_system t list extra found is = cc

pub systems_decide_any : (t : DecisionTable) (list : List Statement) (q : Question) → IsLawfulIn t list → IsConsistent t list → IsAskedIn t q → kind_of q ≡ Any → Answers t list q Yes ↔ OneSolvable t list q
systems_decide_any t list q lawful consistent asked is =
    let both = any_decides t list (property_of q) lawful asked in
    rw is (λ answer. record { extra = map comparison_of_extra (conditions_of list (property_of q)); only = rw is refl; solvable = both.0 answer.1 }, λ one. (consistent, both.1 (let only = rw is at one.only in let same : map comparison_of_extra (conditions_of list (property_of q)) ≡ one.extra = cc in subst (λ (extra : List _). IsSolvable (system_for t list extra)) (sym same) one.solvable)))

pub systems_decide_plain : (t : DecisionTable) (list : List Statement) (q : Question) → IsConsistent t list → kind_of q ≡ Plain → Answers t list q Yes
systems_decide_plain t list q consistent is = rw is (consistent, consistent)
