-- The pivots and the place of a note lie in the tableau of its system, and the systems of statements and questions are well formed.
use Rattle.std.proofs.Common.{ℕ, ◌<◌, ◌≤◌, List, [], ◌∷◌, ◌++◌, length, map, ℤ, refl, sym, subst, arith}
use Rattle.std.specs.List.{AllByRecursion}
use Rattle.std.proofs.lemmas.List.{length-map}
use Rattle.ror_text.proofs.Everywhere.{all-append, all-by, all-map}
use Rattle.ror_statement.specs.declared.comparison.Comparison.{Comparison}
use Rattle.ror_statement.specs.declared.statement.Statement.{Statement}
use Rattle.ror_statement.specs.declared.question.Question.{Question}
use Rattle.ror_statement.specs.Questions.{kind_of, property_of}
use Rattle.ror_statement.specs.declared.row_number.TheConstants.{MOST_STATEMENTS}
use Rattle.ror_table.specs.Table.{DecisionTable, IsTable, columns}
use Rattle.ror_system.specs.System.{LinearSystem, IsWellFormed}
use Rattle.ror_value.specs.Over.{IsNamedIn, IsLawfulIn, IsAskedIn}
use Rattle.ror_rows.specs.declared.extra.Extra.{Extra}
use Rattle.ror_rows.specs.Rows.{weak_rows, strict_rows, system_for, extended_by, comparison_of_extra, conditions_of, systems_by}
use Rattle.ror_rows.proofs.Building.{extras_named, parts_weak_width, parts_strict_width}
use Rattle.ror_rows.proofs.Extending.{base_few, extended_is, extended_number, extended_weak_width, extended_strict_width}
use Rattle.ror_pivot.specs.declared.note.Place.{Place}
use Rattle.ror_pivot.specs.Tableau.{IsTableau, shape_of, right_side_column, objective_row, starting_rows}
use Rattle.ror_pivot.specs.Paths.{rows_at}
use Rattle.ror_pivot.specs.Notes.{IsPathWithin, IsWideNote, at_start, at_pivot, at_feasible_end, at_infeasible_end, starting_numbers_from, pivot_numbers, numbers_to, feasible_numbers, infeasible_numbers}
use Rattle.ror_pivot.specs.Answers.{IsPlaceWithin}
use Rattle.ror_pivot.proofs.StartLemmas.{starts, tableau_at}
use Rattle.ror_pivot.proofs.PathLemmas.{pivots_of_path, path_more}
use Rattle.ror_pivot.proofs.NoteLemmas.{named_placed, starting_places, pivot_places, feasible_places, infeasible_places, path_places}
use Rattle.ror_check.specs.Proof.{question_systems_of}
use Rattle.ror_check.proofs.Checking.{AreFewNamed, named_systems}

-- ---- of a well formed system

-- each pivot is one of a column but the right-hand side and a row but the objective
abbrev pub IsPathInside : LinearSystem → List (ℕ × ℕ) → Type 0
IsPathInside s path =
    AllByRecursion (λ p. (p.0 < right_side_column (shape_of s)) × (p.1 < objective_row (shape_of s))) path

module _ (most : ℕ) (s : LinearSystem) (form : IsWellFormed s) where
  tableau_of : (path : List (ℕ × ℕ)) → IsPathWithin most s path → IsTableau (shape_of s) (rows_at s path)
  tableau_of path within = tableau_at s path form (pivots_of_path (shape_of s) (starting_rows s) path within.is_path)

  pub note_within : (path : List (ℕ × ℕ)) (place : Place) → IsWideNote most s path place → IsPathInside s path × IsPlaceWithin (shape_of s) place
  note_within path place (at_start none named) =
      let h = shape_of s in
      let rows = starting_rows s in
      let tableau = starts s form in
      let count = tableau.rows_of_shape in
      let inside = starting_places h 0 rows (omega (arith, count)) tableau.widths in (
        subst (IsPathInside s) (sym none) tt,
        named_placed (IsPlaceWithin h) most (numbers_to s []) place (all-append (λ (x : Place × ℤ). IsPlaceWithin h x.0) (starting_numbers_from 0 rows) [] inside tt) named,
      )
  note_within path place (at_pivot before p is within next named) =
      let h = shape_of s in
      let rows = rows_at s before in
      let leaving = next.chosen.leaving.candidate.constraint in (
        subst (IsPathInside s) (sym is) (path_places h (starting_rows s) (before ++ p ∷ []) (path_more h (starting_rows s) before p within.is_path next)),
        named_placed (IsPlaceWithin h) most (pivot_numbers rows p) place (pivot_places h rows p.0 p.1 (tableau_of before within) (omega (arith, leaving))) named,
      )
  note_within path place (at_feasible_end within ended named) = (
    path_places (shape_of s) (starting_rows s) path within.is_path,
    named_placed (IsPlaceWithin (shape_of s)) most (feasible_numbers s (rows_at s path)) place (feasible_places s (rows_at s path) (tableau_of path within)) named,
  )
  note_within path place (at_infeasible_end within ended named) = (
    path_places (shape_of s) (starting_rows s) path within.is_path,
    named_placed (IsPlaceWithin (shape_of s)) most (infeasible_numbers s (rows_at s path)) place (infeasible_places s (rows_at s path)) named,
  )

-- ---- of the systems of statements and questions

module _ (t : DecisionTable) (list : List Statement) (table : IsTable t) (lawful : IsLawfulIn t list) where
  pub well_formed : (extra : List Extra) → length extra ≤ MOST_STATEMENTS → AllByRecursion (λ e. IsNamedIn t e.form) extra → IsWellFormed (system_for t list (map comparison_of_extra extra))
  well_formed extra few named =
      let es = map comparison_of_extra extra in
      let are = extras_named t extra named in
      let base : LinearSystem = system_for t list [] in
      let weak = parts_weak_width t list (columns t) base.weak refl lawful.each_valid refl in
      let strict = parts_strict_width t list (columns t) base.strict refl lawful.each_valid refl in
      let formed : IsWellFormed (extended_by t base es) = record {
        columns_limit = table.columns_limit;
        rows_limit = extended_number t base extra (base.weak ++ weak_rows t es) (base.strict ++ strict_rows t es) (base_few t list base lawful refl) few refl refl;
        weak_widths = extended_weak_width t (columns t) es base.weak (base.weak ++ weak_rows t es) refl are weak refl;
        strict_widths = extended_strict_width t (columns t) es base.strict (base.strict ++ strict_rows t es) refl are strict refl;
        total_row = refl;
      } in
      subst IsWellFormed (extended_is t list es base (extended_by t base es) refl refl) formed

  usable_formed : (extra : List Extra) → AreFewNamed t (map comparison_of_extra extra) → IsWellFormed (system_for t list (map comparison_of_extra extra))
  usable_formed extra usable =
      let few = usable.0 in
      well_formed extra (omega (arith, length-map extra comparison_of_extra, few)) ((all-map (λ c. IsNamedIn t c.form) comparison_of_extra extra).1 usable.1)

  pub systems_formed : (q : Question) → IsAskedIn t q → AllByRecursion IsWellFormed (question_systems_of t list q)
  systems_formed q asked =
      let extras = systems_by (kind_of q) (conditions_of list (property_of q)) in
      let usable = (all-map (AreFewNamed t) (map comparison_of_extra) extras).1 (named_systems t list q lawful asked) in
      let formed = all-by (λ extra. AreFewNamed t (map comparison_of_extra extra)) (λ extra. IsWellFormed (system_for t list (map comparison_of_extra extra))) extras usable_formed usable in
      (all-map IsWellFormed (system_for t list) (map (map comparison_of_extra) extras)).0 ((all-map (λ (cs : List Comparison). IsWellFormed (system_for t list cs)) (map comparison_of_extra) extras).0 formed)
