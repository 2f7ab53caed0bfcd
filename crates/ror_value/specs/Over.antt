-- Statements, forms and questions that name what a table has.
use Rattle.std.specs.Prelude.{List, length}
use Rattle.ror_statement.specs.declared.comparison.Form.{Form}
use Rattle.ror_statement.specs.declared.statement.Statement.{Statement}
use Rattle.ror_statement.specs.declared.question.Question.{Question}
use Rattle.ror_statement.specs.Names.{NamesWithin, IsValid, IsValidQuestion}
use Rattle.ror_statement.specs.RowNumbers.{IsLawful}
use Rattle.ror_table.specs.Table.{DecisionTable}

abbrev pub IsNamedIn : DecisionTable → Form → Type 0
IsNamedIn t form = NamesWithin (length t.alternatives) (length t.criteria) form

abbrev pub IsValidIn : DecisionTable → Statement → Type 0
IsValidIn t s = IsValid (length t.alternatives) (length t.criteria) t.classes s

abbrev pub IsLawfulIn : DecisionTable → List Statement → Type 0
IsLawfulIn t list = IsLawful (length t.alternatives) (length t.criteria) t.classes list

abbrev pub IsAskedIn : DecisionTable → Question → Type 0
IsAskedIn t q = IsValidQuestion (length t.alternatives) (length t.criteria) t.classes q
