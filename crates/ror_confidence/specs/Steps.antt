-- What the check of a span and the search for one keep on their way.
use Rattle.std.specs.Prelude.{◌≡◌, ℕ, ◌+◌, ◌<◌, ◌≤◌, true, List, map, slice_get, Some}
use Rattle.std.specs.List.{AllByRecursion}
use Rattle.ror_statement.specs.declared.statement.Statement.{Statement}
use Rattle.ror_table.specs.Table.{DecisionTable}
use Rattle.ror_value.specs.Over.{IsLawfulIn, IsAskedIn}
use Rattle.ror_check.specs.declared.fault.CheckFault.{CheckFault}
use Rattle.ror_check.specs.declared.fault.CheckFault.TheVariants as checks
use Rattle.ror_check.specs.Proof.{IsProvedAnswer}
use Rattle.ror_check.specs.Checkers.{IsCheckerOf}
use Rattle.ror_confidence.specs.declared.due.Due.{Due}
use Rattle.ror_confidence.specs.declared.fault.SpanCheckFault.{SpanCheckFault}
use Rattle.ror_confidence.specs.declared.fault.SpanCheckFault.TheVariants as faults
use Rattle.ror_confidence.specs.declared.level.LevelChecker.{LevelChecker}
use Rattle.ror_confidence.specs.declared.span.LevelAnswer.{LevelAnswer}
use Rattle.ror_confidence.specs.Proof.{concludes, IsProvedDue}
use Rattle.ror_confidence.specs.Faults.{FailsAnswerAt}

-- ---- the check

-- the statements are lawful, and the checker is theirs
pub record IsCheckerOfLevel (t : DecisionTable) (level : LevelChecker) : Type 0 where
  pub lawful : IsLawfulIn t level.statements
  pub checker : IsCheckerOf t level.statements level.checker

abbrev pub AreCheckers : DecisionTable → List LevelChecker → Type 0
AreCheckers t levels = AllByRecursion (IsCheckerOfLevel t) levels

abbrev pub lists_of : List LevelChecker → List (List Statement)
lists_of levels = map (λ level. level.statements) levels

-- the answer concludes what is due, with its proof over the list
pub record IsDueOver (t : DecisionTable) (list : List Statement) (due : Due)
    (x : LevelAnswer) : Type 0 where
  pub conclusion : concludes due.conclusion x.answer.verdict ≡ true
  pub proved : IsProvedAnswer t list due.question x.answer

-- each is at one of so many levels, and to a question of the table
abbrev pub AreDuesWithin : DecisionTable → ℕ → List Due → Type 0
AreDuesWithin t n dues =
    AllByRecursion (λ due. (1 ≤ due.level) × (due.level ≤ n) × IsAskedIn t due.question) dues

-- each answer before the place is the one that is due
abbrev pub AreProvedBefore : DecisionTable → List (List Statement) → List Due → List LevelAnswer → ℕ
    → Type 0
AreProvedBefore t lists dues xs n = (j : ℕ) (due : Due) (x : LevelAnswer) → j < n
    → slice_get dues j ≡ Some due → slice_get xs j ≡ Some x → IsProvedDue t lists due x

-- an answer is refused, and those before it were not; or memory ran out
abbrev pub RefusesAnswers : DecisionTable → List (List Statement) → List Due → List LevelAnswer
    → SpanCheckFault → Type 0
RefusesAnswers t lists dues xs (faults.Answer k fault) = FailsAnswerAt t lists dues xs k fault
    × ((before : ℕ) → k ≡ before + 1 → AreProvedBefore t lists dues xs before)
RefusesAnswers t lists dues xs faults.Memory = Unit {0}
RefusesAnswers t lists dues xs _ = ⊥

-- the fault of a span of which the answer at a place is refused
abbrev pub refused_at : ℕ → CheckFault → SpanCheckFault
refused_at k checks.Memory = faults.Memory
refused_at k fault = faults.Answer k fault
