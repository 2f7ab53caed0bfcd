-- Each test of a revision, and their order.
use Rattle.std.specs.Prelude.{◌≡◌, ℕ, ◌<◌, ◌≤◌, nat_eq, List, [], ◌∷◌, ◌++◌, length}
use Rattle.std.specs.List.{All, Contains, IsDistinct}
use Rattle.ror_text.specs.FirstFault.{IsEarlier}
use Rattle.ror_statement.specs.declared.row_number.TheConstants.{MOST_STATEMENTS, MOST_ROWS}
use Rattle.ror_statement.specs.declared.statement.Statement.{Statement}
use Rattle.ror_statement.specs.RowNumbers.{row_count}
use Rattle.ror_history.specs.declared.history.HistoryFault.{HistoryFault}
use Rattle.ror_history.specs.declared.history.HistoryFault.TheVariants as faults
use Rattle.ror_history.specs.History.{Revisions, replacement, standing, statements_of, with_revision}
use Rattle.ror_statement.specs.Statements.{numbers_in}

-- ---- a statement that is to be added

-- what each test finds at fault, each taken alone
abbrev pub FailsAddition : Revisions → Statement → HistoryFault → Type 0
FailsAddition r s faults.TooManyStatements = MOST_STATEMENTS ≤ length (standing r)
FailsAddition r s faults.TooManyRows = MOST_ROWS < row_count (statements_of r ++ s ∷ [])
FailsAddition r s _ = ⊥

-- neither test fails
pub record CanBeAdded (r : Revisions) (s : Statement) : Type 0 where
  pub few : length (standing r) < MOST_STATEMENTS
  pub rows : row_count (statements_of r ++ s ∷ []) ≤ MOST_ROWS

-- ---- a statement that is to be replaced

abbrev pub Stands : Revisions → ℕ → Type 0
Stands r n = Contains (numbers_in (standing r)) n

abbrev pub FailsReplacement : Revisions → ℕ → Statement → HistoryFault → Type 0
FailsReplacement r n s faults.NoSuchStatement = ¬ (Stands r n)
FailsReplacement r n s faults.TooManyRows = MOST_ROWS < row_count (statements_of (with_revision r (replacement n s)))
FailsReplacement r n s _ = ⊥

pub record CanBeReplaced (r : Revisions) (n : ℕ) (s : Statement) : Type 0 where
  pub stands : Stands r n
  pub rows : row_count (statements_of (with_revision r (replacement n s))) ≤ MOST_ROWS

-- ---- statements that are to be withdrawn

-- each of these is one of those, and is listed once
pub record AreEachOnce (those these : List ℕ) : Type 0 where
  pub among : All (Contains those) these
  pub once : IsDistinct nat_eq these

abbrev pub CanBeWithdrawn : Revisions → List ℕ → Type 0
CanBeWithdrawn r ns = AreEachOnce (numbers_in (standing r)) ns

abbrev pub FailsWithdrawal : Revisions → List ℕ → HistoryFault → Type 0
FailsWithdrawal r ns faults.NoSuchStatement = ¬ (CanBeWithdrawn r ns)
FailsWithdrawal r ns _ = ⊥

-- ---- an undo

abbrev pub FailsUndo : Revisions → HistoryFault → Type 0
FailsUndo r faults.NothingToUndo = r.surviving ≡ []
FailsUndo r _ = ⊥

-- ---- the order of the tests

abbrev pub fault_stage : HistoryFault → ℕ
fault_stage faults.NoSuchStatement = 0
fault_stage faults.NothingToUndo = 1
fault_stage faults.TooManyStatements = 2
fault_stage faults.TooManyRows = 3
fault_stage faults.Memory = 4

abbrev pub IsEarlierFault : HistoryFault → HistoryFault → Type 0
IsEarlierFault = IsEarlier fault_stage (λ _. 0)
