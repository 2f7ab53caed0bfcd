use Rattle.std.specs.Prelude.{List}
use Rattle.ror_statement.specs.declared.statement.Statement.{Statement}
use Rattle.ror_table.specs.Table.{DecisionTable}
use Rattle.ror_value.specs.Over.{IsAskedIn}
use Rattle.ror_proof.specs.declared.answer.Answer.{Answer}
use Rattle.ror_check.specs.Proof.{IsWideOrProved}

-- the answer is to a question that may be asked, and its proof proves its verdict, unless it is too wide
pub record IsSoundAnswer (t : DecisionTable) (list : List Statement) (x : Answer) : Type 0 where
  pub asked : IsAskedIn t x.question
  pub verdict : IsWideOrProved t list x.question x.verdict
