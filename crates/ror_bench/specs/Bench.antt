-- A workbench: a table, what each desk holds, and how much work was done.
use Rattle.std.specs.Prelude.{◌≡◌, ℕ, ◌+◌, ◌-◌, ◌<◌, ◌^◌, min, List, [], ◌++◌, replicate, slice_index_or}
use Rattle.std.specs.List.{AllByRecursion}
use Rattle.ror_table.specs.Table.{DecisionTable}
use Rattle.ror_value.specs.declared.input.Input.{Input}
use Rattle.ror_value.specs.Over.{IsLawfulIn}
use Rattle.ror_history.specs.History.{Revision, Revisions, next_number, statements_of}

-- a table that no line changes, the state of the desks: the statements that each began with and its surviving revisions,
-- how many pivots were made so far, by questions and repairs together, and for how many more revisions each desk has room
pub record Workbench : Type 0 where
  pub table : DecisionTable
  pub state : List Revisions
  pub pivots : ℕ
  pub spare : List ℕ

-- the desks of an input: each begins with its opening statements, no pivot was made, and no room is asked for
abbrev pub bench_of : Input → ℕ → Workbench
bench_of input desks = record {
  table = input.table;
  state = replicate desks (record { opening = input.opening; surviving = [] });
  pivots = 0;
  spare = replicate desks 0;
}

-- both have one table and hold the same at each desk, whatever pivots were made and whatever room there is
abbrev pub HoldTheSame : Workbench → Workbench → Type 0
HoldTheSame one other = (one.table ≡ other.table) × (one.state ≡ other.state)

-- those of questions and those of repairs; the count stays at its greatest value
abbrev pub pivots_together : ℕ → ℕ → ℕ
pivots_together questions repairs = min (questions + repairs) (2 ^ 64 - 1)

-- what a desk holds
abbrev pub revisions_at : Workbench → ℕ → Revisions
revisions_at bench desk = slice_index_or bench.state desk (record { opening = []; surviving = [] })

-- for how many more revisions a desk has room
abbrev pub spare_at : Workbench → ℕ → ℕ
spare_at bench desk = slice_index_or bench.spare desk 0

-- what stands is lawful, and so is what stood after each number of the surviving revisions, the first of them first: an
-- undo brings it back
abbrev pub IsLawfulThroughout : DecisionTable → Revisions → Type 0
IsLawfulThroughout t r = (before after : List Revision) → r.surviving ≡ before ++ after
    → IsLawfulIn t (statements_of (record { opening = r.opening; surviving = before }))

-- what stands at each desk is lawful, after any undos too
abbrev pub IsLawfulBench : Workbench → Type 0
IsLawfulBench bench = AllByRecursion (IsLawfulThroughout bench.table) bench.state

-- the desk's next number leaves so many more to be given
abbrev pub LeavesNumbers : ℕ → Revisions → Type 0
LeavesNumbers more r = next_number r + more < 2 ^ 32
