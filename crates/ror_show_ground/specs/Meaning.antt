use Rattle.std.specs.Prelude.{List, ℤ}
use Rattle.ror_statement.specs.declared.statement.Statement.{Statement}
use Rattle.ror_table.specs.Table.{DecisionTable}
use Rattle.ror_value.specs.Meaning.{IsCompatible}

-- it holds of every compatible function
abbrev pub ByEvery : DecisionTable → List Statement → (List ℤ → Type 0) → Type 0
ByEvery t list P = (w : List ℤ) → IsCompatible t list w → P w

-- it holds of some compatible function
abbrev pub BySome : DecisionTable → List Statement → (List ℤ → Type 0) → Type 0
BySome t list P = (w : List ℤ) × IsCompatible t list w × P w
