-- Lists whose base is decided.
use Rattle.std.specs.Prelude.{◌≡◌, ℕ, List}
use Rattle.ror_statement.specs.declared.statement.Statement.{Statement}
use Rattle.ror_table.specs.Table.{DecisionTable}
use Rattle.ror_value.specs.Over.{IsLawfulIn}
use Rattle.ror_check.specs.Proof.{base_system}
use Rattle.ror_relation.specs.declared.decided.DecidedList.{DecidedList}
use Rattle.ror_relation.specs.Decisions.{IsDecision}

abbrev pub statements_of : DecidedList → List Statement
statements_of x = x.list

-- The statements are lawful for the table, and beside them stands their system, with what it comes to at the width.
pub record IsDecidedList (most : ℕ) (t : DecisionTable) (x : DecidedList) : Type 0 where
  pub lawful : IsLawfulIn t (statements_of x)
  pub system : x.system ≡ base_system t (statements_of x)
  pub base : IsDecision most x.system x.base
