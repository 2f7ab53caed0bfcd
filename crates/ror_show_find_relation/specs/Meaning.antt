-- What a cell says of all value functions that are compatible with the statements, in the field's words.
use Rattle.std.specs.Prelude.{◌≡◌, ℕ, List, ◌≤ℤ◌, ◌<ℤ◌}
use Rattle.ror_statement.specs.declared.statement.Statement.{Statement}
use Rattle.ror_table.specs.Table.{DecisionTable}
use Rattle.ror_value.specs.Value.{value}
use Rattle.ror_value.specs.Meaning.{IsConsistent, IsContradictory}
use Rattle.ror_show_find_relation.specs.declared.cell.Cell.{Cell}
use Rattle.ror_show_find_relation.specs.declared.cell.Cell.TheVariants as cells
use Rattle.ror_show_ground.specs.Meaning.{ByEvery, BySome}

-- some function is compatible, and by every one the first is worth more than the second
pub record IsAlwaysBetter (t : DecisionTable) (list : List Statement) (a b : ℕ) : Type 0 where
  pub consistent : IsConsistent t list
  pub more : ByEvery t list (λ w. value t w b <ℤ value t w a)

-- by every function the first is worth at least as much as the second, by some the same, and not by every the same
pub record IsAtLeastAsGood (t : DecisionTable) (list : List Statement) (a b : ℕ) : Type 0 where
  pub at_least : ByEvery t list (λ w. value t w b ≤ℤ value t w a)
  pub tie : BySome t list (λ w. value t w a ≡ value t w b)
  pub no_tie : ByEvery t list (λ w. value t w a ≡ value t w b) → ⊥

-- some function is compatible, and by every one they are worth the same
pub record IsAlwaysEqual (t : DecisionTable) (list : List Statement) (a b : ℕ) : Type 0 where
  pub consistent : IsConsistent t list
  pub same : ByEvery t list (λ w. value t w a ≡ value t w b)

-- some function is compatible, and neither is worth at least as much as the other by every one
pub record IsOpen (t : DecisionTable) (list : List Statement) (a b : ℕ) : Type 0 where
  pub consistent : IsConsistent t list
  pub not_over : ByEvery t list (λ w. value t w b ≤ℤ value t w a) → ⊥
  pub not_under : ByEvery t list (λ w. value t w a ≤ℤ value t w b) → ⊥

-- what the cell of a row and a column says
abbrev pub Says : DecisionTable → List Statement → Cell → ℕ → ℕ → Type 0
Says t list cells.Itself a b = a ≡ b
Says t list cells.AlwaysBetter a b = IsAlwaysBetter t list a b
Says t list cells.AtLeastAsGood a b = IsAtLeastAsGood t list a b
Says t list cells.AlwaysEqual a b = IsAlwaysEqual t list a b
Says t list cells.Open a b = IsOpen t list a b
Says t list cells.AtMostAsGood a b = IsAtLeastAsGood t list b a
Says t list cells.NeverAsGood a b = IsAlwaysBetter t list b a
Says t list cells.Contradiction a b = IsContradictory t list
Says t list cells.Unknown a b = Unit {0}
