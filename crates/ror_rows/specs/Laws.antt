-- The laws of rows and systems: they hold exactly of the functions that are meant.
use Rattle.std.specs.Prelude.{◌≡◌, ◌↔◌, ℕ, ◌<◌, ◌≤◌, true, false, List, [], ◌∷◌, length, ℤ, pos}
use Rattle.std.specs.List.{AllByRecursion}
use Rattle.ror_integers.specs.Vectors.{entry}
use Rattle.ror_statement.specs.declared.statement.Statement.{Statement}
use Rattle.ror_statement.specs.declared.comparison.Comparison.{Comparison}
use Rattle.ror_statement.specs.declared.question.QuestionKind.TheVariants.{Plain, Any, Every}
use Rattle.ror_statement.specs.declared.question.Question.{Question}
use Rattle.ror_statement.specs.declared.question.Conclusion.TheVariants.{Yes}
use Rattle.ror_statement.specs.Questions.{kind_of, property_of}
use Rattle.ror_table.specs.Table.{DecisionTable, is_linear, rank, steps, has_weights, weight, column, columns}
use Rattle.ror_system.specs.System.{Solves, IsSolvable}
use Rattle.ror_value.specs.Over.{IsNamedIn, IsLawfulIn, IsAskedIn}
use Rattle.ror_value.specs.Meaning.{Holds, Has, IsCompatible, IsConsistent, Answers}
use Rattle.ror_rows.specs.Rows.{value_row, system_for, comparison_of_extra, conditions_of, systems_of_question}

-- the comparisons name what the table has
abbrev pub AreNamed : DecisionTable → List Comparison → Type 0
AreNamed t cs = AllByRecursion (λ c. IsNamedIn t c.form) cs

-- what solves a list's system is compatible with the list, and what solves it with extra rows meets those besides
pub record RowsHold : Type 0 where
  pub base : (t : DecisionTable) (list : List Statement) (w : List ℤ)
      → IsLawfulIn t list → IsCompatible t list w ↔ Solves (system_for t list []) w
  pub with_extra : (t : DecisionTable) (list : List Statement) (extra : List Comparison)
      (w : List ℤ) → IsLawfulIn t list → AreNamed t extra
      → (IsCompatible t list w × AllByRecursion (Holds t w) extra)
      ↔ Solves (system_for t list extra) w

-- A function has what a question asks of it exactly where each condition holds of it: so a class lies in the interval that it
-- leaves an alternative exactly where the rows that the class statements give for this class hold of it.
abbrev pub ConditionsHold : Type 0
ConditionsHold = (t : DecisionTable) (list : List Statement) (w : List ℤ) (q : Question)
    → IsLawfulIn t list → IsAskedIn t q → Has t list w (property_of q)
    ↔ AllByRecursion (λ e. Holds t w (comparison_of_extra e)) (conditions_of list (property_of q))

-- no system of the question has a solution
abbrev pub NoneSolvable : DecisionTable → List Statement → Question → Type 0
NoneSolvable t list q =
    AllByRecursion (λ extra. IsSolvable (system_for t list extra) → ⊥) (systems_of_question list q)

-- the question has one system, and that has a solution
pub record OneSolvable (t : DecisionTable) (list : List Statement) (q : Question) : Type 0 where
  pub extra : List Comparison
  pub only : systems_of_question list q ≡ extra ∷ []
  pub solvable : IsSolvable (system_for t list extra)

-- A list is consistent exactly where its system has a solution. Over a consistent list a question on every compatible
-- function is answered yes exactly where none of its systems has a solution, a question on some compatible function exactly
-- where its one system has, and whether there is a compatible function always.
pub record SystemsDecide : Type 0 where
  pub consistency : (t : DecisionTable) (list : List Statement)
      → IsLawfulIn t list → IsConsistent t list ↔ IsSolvable (system_for t list [])
  pub every : (t : DecisionTable) (list : List Statement) (q : Question)
      → IsLawfulIn t list → IsConsistent t list → IsAskedIn t q → kind_of q ≡ Every
      → Answers t list q Yes ↔ NoneSolvable t list q
  pub any : (t : DecisionTable) (list : List Statement) (q : Question)
      → IsLawfulIn t list → IsConsistent t list → IsAskedIn t q → kind_of q ≡ Any
      → Answers t list q Yes ↔ OneSolvable t list q
  pub plain : (t : DecisionTable) (list : List Statement) (q : Question)
      → IsConsistent t list → kind_of q ≡ Plain → Answers t list q Yes

-- the row of an alternative's value has 1 at the column of each step up to its rank on a stepwise criterion, 0 at the columns
-- beyond, and the weight of its level at the column of a linear one
pub record ValueRowEntries : Type 0 where
  pub width : (t : DecisionTable) (a : ℕ) → a < length t.alternatives
      → length (value_row t a) ≡ columns t
  pub one : (t : DecisionTable) (a i k : ℕ) → a < length t.alternatives → i < length t.criteria
      → is_linear t i ≡ false → 0 < k → k ≤ rank t a i
      → entry (value_row t a) (column t i k) ≡ pos 1
  pub zero : (t : DecisionTable) (a i k : ℕ) → a < length t.alternatives → i < length t.criteria
      → is_linear t i ≡ false → rank t a i < k → k ≤ steps t i
      → entry (value_row t a) (column t i k) ≡ pos 0
  pub weighted : (t : DecisionTable) (a i : ℕ) → a < length t.alternatives → i < length t.criteria
      → has_weights t i ≡ true → entry (value_row t a) (column t i 1) ≡ weight t i (rank t a i)
