-- What was read and judged: a table with the statements that came with its file, a session over it, and what a check kept of a
-- report of that session. Finders and writers are lent it.
use Rattle.std.specs.Prelude.{◌<◌, ◌≤◌, ◌^◌, ◌-◌, List, length}
use Rattle.std.specs.List.{AllByRecursion}
use Rattle.ror_statement.specs.declared.statement.Statement.{Statement}
use Rattle.ror_statement.specs.declared.row_number.TheConstants.{MOST_STATEMENTS}
use Rattle.ror_table.specs.Table.{DecisionTable}
use Rattle.ror_value.specs.declared.input.Input.{Input}
use Rattle.ror_session.specs.declared.session.Session.{Session}
use Rattle.ror_session.specs.declared.limits.TheConstants.{MOST_DESKS}
use Rattle.ror_bench.specs.declared.kept.KeptLine.{KeptLine}
use Rattle.ror_show_ground.specs.Ready.{IsReady, HasNarrowAnswers, answers_in}
use Rattle.ror_show_ground.specs.declared.ground.Ground as lent

pub record Ground : Type 0 where
  pub table : DecisionTable
  pub session : Session
  pub opening : List Statement
  pub kept : List KeptLine

abbrev pub ground_of : lent.Ground → Ground
ground_of g = record { table = g.table.now; session = g.session.now; opening = g.opening.now; kept = g.kept.now }

abbrev pub ground_in : Input → Session → List KeptLine → Ground
ground_in i s kept = record { table = i.table; session = s; opening = i.opening; kept = kept }

-- What a check of the report leaves: what stood at each kept line is lawful, its numbers rise, and what came of it is proved over
-- that; and there are no more statements, desks and answers than may be.
pub record IsJudged (g : Ground) : Type 0 where
  pub few : length g.opening ≤ MOST_STATEMENTS
  pub few_desks : length g.session.desks ≤ MOST_DESKS
  pub ready : AllByRecursion (IsReady g.table) g.kept
  pub narrow : AllByRecursion HasNarrowAnswers g.kept
  pub few_answers : answers_in g.kept < 2 ^ 32 - 1
