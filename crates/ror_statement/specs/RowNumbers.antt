-- How many rows statements take, and which lists a desk may hold.
use Rattle.std.specs.Prelude.{ℕ, ◌+◌, ◌≤◌, List, length, option_to_list}
use Rattle.std.specs.List.{AllByRecursion, sum_by}
use Rattle.ror_statement.specs.declared.row_number.TheConstants.{MOST_STATEMENTS, MOST_ROWS}
use Rattle.ror_statement.specs.declared.comparison.Relation.{Relation}
use Rattle.ror_statement.specs.declared.comparison.Relation.TheVariants as relations
use Rattle.ror_statement.specs.declared.comparison.Comparison.{Comparison}
use Rattle.ror_statement.specs.declared.statement.Statement.{Statement}
use Rattle.ror_statement.specs.Statements.{comparison_of, comparisons_of}
use Rattle.ror_statement.specs.Names.{IsValid}

-- an equality is two weak rows, every other comparison is one row
abbrev pub rows_of : Relation → ℕ
rows_of relations.Equal = 2
rows_of _ = 1

abbrev pub rows_number : List Comparison → ℕ
rows_number comparisons = sum_by (λ c. rows_of c.relation) comparisons

-- those of a statement by itself
abbrev pub own_rows : Statement → ℕ
own_rows s = rows_number (option_to_list (comparison_of s))

-- the row that says that the total is positive, and those of all that the list says
abbrev pub row_count : List Statement → ℕ
row_count list = 1 + rows_number (comparisons_of list)

-- what a desk may hold: at most so many valid statements of at most so many rows
pub record IsLawful (alternatives criteria classes : ℕ) (list : List Statement) : Type 0 where
  pub few : length list ≤ MOST_STATEMENTS
  pub rows : row_count list ≤ MOST_ROWS
  pub each_valid : AllByRecursion (IsValid alternatives criteria classes) list
