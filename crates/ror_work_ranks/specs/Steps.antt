-- What a maker and a judge of the entries go by.
use Rattle.std.specs.Prelude.{◌≡◌, ℕ, ◌<◌, ◌≤◌, ◌^◌, List, length}
use Rattle.std.specs.List.{AllByRecursion}
use Rattle.ror_statement.specs.declared.statement.Statement.{Statement}
use Rattle.ror_table.specs.Table.{DecisionTable, IsTable}
use Rattle.ror_value.specs.Over.{IsLawfulIn}
use Rattle.ror_session.specs.Grammar.{IsClean}
use Rattle.ror_session.specs.declared.limits.TheConstants.{MOST_DESK_NAME_BYTES}
use Rattle.ror_ranks_text.specs.declared.entry.Entry.{Entry}
use Rattle.ror_ranks_text.specs.declared.entry.EntryBody.{EntryBody}
use Rattle.ror_ranks_text.specs.declared.entry.EntryBody.TheVariants as bodies
use Rattle.ror_ranks_text.specs.Text.{IsPrintableEntry}
use Rattle.ror_entries.specs.declared.check.EntryFault.{EntryFault}
use Rattle.ror_entries.specs.Steps.{IfRefused}
use Rattle.ror_work_ranks.specs.Entries.{RefusesBody}

-- a table, the names of the desks, their lists, and what no number passes
pub record RanksMaking : Type 0 where
  pub table : DecisionTable
  pub names : List (List ℕ)
  pub lists : List (List Statement)
  pub most : ℕ

-- a table, the names of the desks, their lists, and the bytes of a report
pub record RanksJudging : Type 0 where
  pub table : DecisionTable
  pub names : List (List ℕ)
  pub lists : List (List Statement)
  pub report : List ℕ

-- each desk has a name and a list that is lawful in the table
pub record AreDesks (t : DecisionTable) (names : List (List ℕ)) (lists : List (List Statement)) : Type 0 where
  pub table : IsTable t
  pub lawful : AllByRecursion (IsLawfulIn t) lists
  pub list_each : length lists ≡ length names
  pub few : length names ≤ 64

-- each name is one that a session may have
pub record AreNames (names : List (List ℕ)) : Type 0 where
  pub short : AllByRecursion (λ name. length name ≤ MOST_DESK_NAME_BYTES) names
  pub clean : AllByRecursion IsClean names

-- the body has few extreme ranks, where it has any
abbrev pub HasFewRanks : EntryBody → Type 0
HasFewRanks (bodies.Ranks xs) = length xs < 2 ^ 32
HasFewRanks _ = Unit {0}

-- why an entry is refused for its body, as a fault
abbrev pub RefusesFor : DecisionTable → List Statement → EntryBody → EntryFault → Type 0
RefusesFor t list body fault = IfRefused (RefusesBody t list body) fault

-- the entry can be written
abbrev pub IsWritable : DecisionTable → Entry → Type 0
IsWritable t x = IsPrintableEntry t x
