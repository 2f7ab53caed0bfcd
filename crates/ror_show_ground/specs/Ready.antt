-- What stands and is answered at kept lines of a proved report.
use Rattle.std.specs.Prelude.{◌≡◌, ℕ, List, [], Some, length}
use Rattle.std.specs.List.{AllByRecursion, flat_map}
use Rattle.std.specs.List.Sorted.{IsStrictlyIncreasing}
use Rattle.ror_statement.specs.declared.statement.Numbered.{Numbered}
use Rattle.ror_statement.specs.Statements.{numbers_in, statements_in}
use Rattle.ror_table.specs.Table.{DecisionTable}
use Rattle.ror_value.specs.declared.input.Input.{Input}
use Rattle.ror_value.specs.Over.{IsLawfulIn}
use Rattle.ror_session.specs.declared.session.Line.{Line}
use Rattle.ror_report.specs.Text.{answers_of}
use Rattle.ror_history.specs.Laws.{AreNumberedInTurn}
use Rattle.ror_bench.specs.Bench.{Workbench, bench_of, HoldTheSame, IsLawfulBench}
use Rattle.ror_bench.specs.Blocks.{IsTrueRepair}
use Rattle.ror_bench.specs.declared.kept.Keep.{Keep}
use Rattle.ror_bench.specs.declared.kept.KeptLine.{KeptLine}
use Rattle.ror_bench.specs.declared.report.Accepted.{Accepted}
use Rattle.ror_bench.specs.Kept.{kept_from}
use Rattle.ror_bench.specs.Reports.{IsProvedReport}
use Rattle.ror_show_ground.specs.Sound.{IsSoundAnswer}
use Rattle.ror_pivot.specs.declared.note.Bits.TheVariants.{B127}
use Rattle.ror_pivot.specs.Answers.{most_of}
use Rattle.ror_given.specs.Answers.{IsVerdictWithin}

-- what stood is lawful, its numbers rise, each answer has its proof over it or is too wide, and a repair drops what a repair of it drops
pub record IsReadyOver (t : DecisionTable) (x : KeptLine) (list : List Numbered) : Type 0 where
  pub lawful : IsLawfulIn t (statements_in list)
  pub rising : IsStrictlyIncreasing (numbers_in list)
  pub sound : AllByRecursion (IsSoundAnswer t (statements_in list)) (answers_of x.block.body)
  pub repair : IsTrueRepair t list x.block.body

-- so it is where what stood is kept
abbrev pub IsReady : DecisionTable → KeptLine → Type 0
IsReady t x = (list : List Numbered) → x.standing ≡ Some list → IsReadyOver t x list

-- at each desk a statement that was added has the number that was next when it came
abbrev pub IsNumberedBench : Workbench → Type 0
IsNumberedBench bench = AllByRecursion AreNumberedInTurn bench.state

-- so it is where the desks begin
abbrev pub DesksBeginNumbered : Type 0
DesksBeginNumbered = (bench : Workbench) (input : Input) (desks : ℕ)
    → HoldTheSame bench (bench_of input desks) → IsNumberedBench bench

abbrev pub KeptLinesAreReady : Type 0
KeptLinesAreReady = (bench : Workbench) (lines : List Line) (bytes : List ℕ) (accepted : Accepted) (keep : List Keep)
    → IsLawfulBench bench → IsNumberedBench bench → (report : IsProvedReport bench lines bytes accepted)
    → AllByRecursion (IsReady bench.table) (kept_from bench keep [] lines report.blocks)

-- no number of the answers to a line is of absolute value above 2^127 - 1
abbrev pub HasNarrowAnswers : KeptLine → Type 0
HasNarrowAnswers x = AllByRecursion (λ y. IsVerdictWithin (most_of B127) y.verdict) (answers_of x.block.body)

-- how many answers kept lines have
abbrev pub answers_in : List KeptLine → ℕ
answers_in kept = length (flat_map (λ x. answers_of x.block.body) kept)
