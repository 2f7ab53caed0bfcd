-- A system with the rows of extra comparisons after its own.
use Rattle.std.proofs.Common.{◌≡◌, ℕ, ◌+◌, ◌≤◌, List, [], ◌∷◌, ◌++◌, length, map, Some, ℤ, ap, ap₂, sym, subst, ◌∙◌, arith, length-append}
use Rattle.std.specs.Prelude.{slice_get}
use Rattle.std.proofs.lemmas.List.{append-nil}
use Rattle.ror_integers.specs.Vectors.{ones}
use Rattle.ror_text.proofs.Everywhere.{all-append}
use Rattle.ror_statement.specs.declared.comparison.Comparison.{Comparison}
use Rattle.ror_statement.specs.declared.statement.Statement.{Statement}
use Rattle.ror_statement.specs.Statements.{comparisons_of}
use Rattle.ror_statement.specs.declared.row_number.TheConstants.{MOST_STATEMENTS, MOST_ROWS}
use Rattle.ror_system.specs.System.{LinearSystem}
use Rattle.ror_system.specs.declared.limits.TheConstants.{MOST_SYSTEM_ROWS}
use Rattle.ror_table.specs.Table.{DecisionTable, columns}
use Rattle.ror_value.specs.Over.{IsLawfulIn}
use Rattle.ror_rows.specs.declared.extra.Extra.{Extra}
use Rattle.ror_rows.specs.Rows.{weak_rows, strict_rows, system_for, extended_by, comparison_of_extra}
use Rattle.ror_rows.specs.Laws.{AreNamed}
use Rattle.ror_rows.proofs.Building.{AreWide, weak_rows_width, strict_rows_width, number_of_rows, extras_number, parts_number}

-- ---- the system of statements

-- it has few rows
pub base_few : (t : DecisionTable) (list : List Statement) (s : LinearSystem) → IsLawfulIn t list → s ≡ system_for t list [] → length s.weak + length s.strict ≤ MOST_ROWS
base_few t list s lawful is = parts_number t list s.weak s.strict lawful (ap (λ (z : LinearSystem). z.weak) is) (ap (λ (z : LinearSystem). z.strict) is)

-- with extra comparisons it is the system of the statements and of those
extended_base : (t : DecisionTable) (list : List Statement) (cs : List Comparison) → extended_by t (system_for t list []) cs ≡ system_for t list cs
extended_base t list cs =
    ap₂ (λ (weak strict : List (List ℤ)). record { columns = columns t; weak = weak ++ weak_rows t cs; strict = ones (columns t) ∷ (strict ++ strict_rows t cs) }) (append-nil (weak_rows t (comparisons_of list))) (append-nil (strict_rows t (comparisons_of list)))

pub extended_is : (t : DecisionTable) (list : List Statement) (cs : List Comparison) (s extended : LinearSystem) → s ≡ system_for t list [] → extended ≡ extended_by t s cs → extended ≡ system_for t list cs
extended_is t list cs s extended is e = e ∙ ap (λ (z : LinearSystem). extended_by t z cs) is ∙ extended_base t list cs

-- ---- the rows of each part

pub copied_first : (w0 w1 w2 base more : List (List ℤ)) → w0 ≡ [] → w1 ≡ w0 ++ base → w2 ≡ w1 ++ more → w2 ≡ base ++ more
copied_first w0 w1 w2 base more e0 e1 e2 = e2 ∙ ap (λ (xs : List (List ℤ)). xs ++ more) (e1 ∙ ap (λ (xs : List (List ℤ)). xs ++ base) e0)

pub extended_number : (t : DecisionTable) (s : LinearSystem) (extra : List Extra) (weak strict : List (List ℤ)) → length s.weak + length s.strict ≤ MOST_ROWS → length extra ≤ MOST_STATEMENTS
    → weak ≡ s.weak ++ weak_rows t (map comparison_of_extra extra) → strict ≡ s.strict ++ strict_rows t (map comparison_of_extra extra) → length weak + length strict ≤ MOST_SYSTEM_ROWS
extended_number t s extra weak strict rows few p q =
    let es = map comparison_of_extra extra in
    let number = number_of_rows t es in
    let extras = extras_number extra in
    let w = ap length p in
    let z = ap length q in
    omega (arith, length-append s.weak (weak_rows t es), length-append s.strict (strict_rows t es), number, extras, w, z, rows, few)

pub extended_weak_width : (t : DecisionTable) (n : ℕ) (cs : List Comparison) (rows extended : List (List ℤ)) → n ≡ columns t → AreNamed t cs → AreWide n rows → extended ≡ rows ++ weak_rows t cs → AreWide n extended
extended_weak_width t n cs rows extended e named wide is =
    subst (AreWide n) (sym is) (all-append (λ row. length row ≡ n) rows (weak_rows t cs) wide (subst (λ m. AreWide m (weak_rows t cs)) (sym e) (weak_rows_width t cs named)))

pub extended_strict_width : (t : DecisionTable) (n : ℕ) (cs : List Comparison) (rows extended : List (List ℤ)) → n ≡ columns t → AreNamed t cs → AreWide n rows → extended ≡ rows ++ strict_rows t cs → AreWide n extended
extended_strict_width t n cs rows extended e named wide is =
    subst (AreWide n) (sym is) (all-append (λ row. length row ≡ n) rows (strict_rows t cs) wide (subst (λ m. AreWide m (strict_rows t cs)) (sym e) (strict_rows_width t cs named)))

pub extended_total : (first : List ℤ) (rows more extended : List (List ℤ)) → slice_get rows 0 ≡ Some first → extended ≡ rows ++ more → slice_get extended 0 ≡ Some first
extended_total first rows more extended total is = subst (λ (xs : List (List ℤ)). slice_get xs 0 ≡ Some first) (sym is) (kept rows total)
  where
    kept : (xs : List (List ℤ)) → slice_get xs 0 ≡ Some first → slice_get (xs ++ more) 0 ≡ Some first
    kept [] none = absurd cc
    kept (x ∷ xs) some = some
