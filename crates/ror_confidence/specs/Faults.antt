-- Each test of a span that may fail, and their order.
use Rattle.std.specs.Prelude.{◌≡◌, ◌≢◌, ℕ, ◌+◌, ◌⊎◌, false, List, length, map, slice_get, Some}
use Rattle.ror_text.specs.FirstFault.{IsFirst, IsEarlier}
use Rattle.ror_statement.specs.declared.statement.Statement.{Statement}
use Rattle.ror_statement.specs.declared.question.Question.{Question}
use Rattle.ror_table.specs.Table.{DecisionTable}
use Rattle.ror_check.specs.declared.fault.CheckFault.{CheckFault}
use Rattle.ror_check.specs.declared.fault.CheckFault.TheVariants as checks
use Rattle.ror_check.specs.Faults.{FailsAnswer, IsEarlierFault}
use Rattle.ror_confidence.specs.declared.due.Due.{Due}
use Rattle.ror_confidence.specs.declared.fault.SpanCheckFault.{SpanCheckFault}
use Rattle.ror_confidence.specs.declared.fault.SpanCheckFault.TheVariants as faults
use Rattle.ror_confidence.specs.declared.span.LevelAnswer.{LevelAnswer}
use Rattle.ror_confidence.specs.declared.span.Span.{Span}
use Rattle.ror_confidence.specs.Levels.{list_of_level}
use Rattle.ror_confidence.specs.Proof.{concludes, dues_of, is_in_range}

-- what is asked of an answer, apart from what it concludes
abbrev pub place_of_due : Due → ℕ × Question
place_of_due due = (due.level, due.question)

abbrev pub place_of_answer : LevelAnswer → ℕ × Question
place_of_answer x = (x.level, x.answer.question)

-- what each test finds at fault in an answer over the statements of the level, where this one is due; a verdict is a wrong
-- one too where it has another conclusion
abbrev pub FailsDue : DecisionTable → List Statement → Due → LevelAnswer → CheckFault → Type 0
FailsDue t list due x checks.WrongVerdict = (concludes due.conclusion x.answer.verdict ≡ false)
    ⊎ FailsAnswer t list due.question x.answer checks.WrongVerdict
FailsDue t list due x fault = FailsAnswer t list due.question x.answer fault

-- the answer at a place, counted from 1, has this fault first
pub record FailsAnswerAt (t : DecisionTable) (lists : List (List Statement)) (dues : List Due)
    (xs : List LevelAnswer) (k : ℕ) (fault : CheckFault) : Type 0 where
  pub due : Due
  pub answer : LevelAnswer
  pub before : ℕ
  pub counted : k ≡ before + 1
  pub due_there : slice_get dues before ≡ Some due
  pub there : slice_get xs before ≡ Some answer
  pub first : IsFirst (FailsDue t (list_of_level lists due.level) due answer) IsEarlierFault fault

-- what each test finds at fault in a span
abbrev pub FailsSpan : DecisionTable → List (List Statement) → ℕ → ℕ → Span → SpanCheckFault → Type 0
FailsSpan t lists a b x faults.Range =
    is_in_range (length lists) x.contradictory x.necessary x.possible ≡ false
FailsSpan t lists a b x faults.Shape =
    map place_of_answer x.proof
    ≢ map place_of_due (dues_of (length lists) a b x.contradictory x.necessary x.possible)
FailsSpan t lists a b x (faults.Answer k fault) =
    FailsAnswerAt t lists (dues_of (length lists) a b x.contradictory x.necessary x.possible)
    x.proof k fault
FailsSpan t lists a b x faults.Memory = ⊥

abbrev pub span_stage : SpanCheckFault → ℕ
span_stage faults.Range = 0
span_stage faults.Shape = 1
span_stage _ = 2

abbrev pub span_place : SpanCheckFault → ℕ
span_place (faults.Answer k fault) = k
span_place _ = 0

abbrev pub IsEarlierSpanFault : SpanCheckFault → SpanCheckFault → Type 0
IsEarlierSpanFault = IsEarlier span_stage span_place
