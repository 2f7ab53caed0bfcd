-- What stood at one line, and the answers to it.
use Rattle.std.specs.Prelude.{List}
use Rattle.std.specs.List.{AllByRecursion}
use Rattle.std.specs.List.Sorted.{IsStrictlyIncreasing}
use Rattle.ror_statement.specs.declared.statement.Numbered.{Numbered}
use Rattle.ror_statement.specs.Statements.{numbers_in, statements_in}
use Rattle.ror_table.specs.Table.{DecisionTable}
use Rattle.ror_value.specs.Over.{IsLawfulIn}
use Rattle.ror_proof.specs.declared.answer.Answer.{Answer}
use Rattle.ror_show_ground.specs.Sound.{IsSoundAnswer}
use Rattle.ror_show_ground.specs.declared.stood.Stood as lent

pub record Stood : Type 0 where
  pub table : DecisionTable
  pub list : List Numbered
  pub answers : List Answer

abbrev pub stood_of : lent.Stood → Stood
stood_of s = record { table = s.table.now; list = s.list.now; answers = s.answers.now }

abbrev pub stood_with : DecisionTable → List Answer → List Numbered → Stood
stood_with t xs list = record { table = t; list = list; answers = xs }

-- what stood is lawful, its numbers rise, and each answer has its proof over it or is too wide: the one thing that a finder of reasons
-- asks for
pub record IsStood (s : Stood) : Type 0 where
  pub lawful : IsLawfulIn s.table (statements_in s.list)
  pub rising : IsStrictlyIncreasing (numbers_in s.list)
  pub sound : AllByRecursion (IsSoundAnswer s.table (statements_in s.list)) s.answers
