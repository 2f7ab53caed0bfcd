-- Whose answers a checker checks.
use Rattle.std.specs.Prelude.{List, IfSome}
use Rattle.ror_statement.specs.declared.statement.Statement.{Statement}
use Rattle.ror_table.specs.Table.{DecisionTable}
use Rattle.ror_check.specs.declared.answers.AnswersChecker.{AnswersChecker}
use Rattle.ror_check.specs.declared.answers.Last.{Last}
use Rattle.ror_check.specs.declared.checker.Checker.{Checker}
use Rattle.ror_check.specs.Proof.{base_system}
use Rattle.ror_check.specs.Steps.{IsBaseOf}

-- the checker is of these statements over the table: it keeps their system, and certificates that this accepts
abbrev pub IsCheckerOf : DecisionTable → List Statement → Checker → Type 0
IsCheckerOf t list checker = IsBaseOf (base_system t list) checker.base

-- the base that is kept with a list is the one of its statements over the table
abbrev pub IsOfItsList : DecisionTable → Last → Type 0
IsOfItsList t last = IsBaseOf (base_system t last.list.items) last.base

-- the checker is of lists over the table: what it keeps of the last one is the base of that list
abbrev pub IsCheckerOver : DecisionTable → AnswersChecker → Type 0
IsCheckerOver t checker = IfSome checker.last (IsOfItsList t)
