-- Which answers of the judges prove the words of a pair, and which judges may be asked.
use Rattle.std.specs.Prelude.{◌≡◌, ℕ, List, map}
use Rattle.ror_statement.specs.declared.statement.Statement.{Statement}
use Rattle.ror_table.specs.Table.{DecisionTable}
use Rattle.ror_value.specs.Over.{IsLawfulIn}
use Rattle.ror_proof.specs.declared.answer.Answer.{Answer}
use Rattle.ror_check.specs.Proof.{IsWideOrProved}
use Rattle.ror_check.specs.Checkers.{IsCheckerOf}
use Rattle.ror_group.specs.declared.judge.Judge.{Judge}
use Rattle.ror_group.specs.declared.quartet.Quartet.{Quartet}
use Rattle.ror_group.specs.Combining.{Asked, asked_on, InStep, combined}

-- the answer is to what was asked, and concludes nothing or has a proof over the list
pub record IsWideOrProvedFor (t : DecisionTable) (asked : Asked) (x : Answer) : Type 0 where
  pub question : x.question ≡ asked.question
  pub proof : IsWideOrProved t asked.list asked.question x.verdict

-- the answers are those of the judges on the pair, each with its proof where it concludes something, and the words are
-- combined from them
pub record IsProvedPair (t : DecisionTable) (lists : List (List Statement)) (a b : ℕ)
    (xs : List Answer) (q : Quartet) : Type 0 where
  pub answers : InStep (IsWideOrProvedFor t) (asked_on a b lists) xs
  pub words : q ≡ combined xs

-- the statements of the judge are lawful, and its checker is theirs
pub record IsJudgeIn (t : DecisionTable) (judge : Judge) : Type 0 where
  pub lawful : IsLawfulIn t judge.statements
  pub checker : IsCheckerOf t judge.statements judge.checker

abbrev pub lists_of : List Judge → List (List Statement)
lists_of judges = map (λ judge. judge.statements) judges
