-- Laws of blocks and reports: what is proved is true.
use Rattle.std.specs.Prelude.{◌≡◌, ℕ, ◌≤◌, List, [], length, ℤ, ◌<ℤ◌, ◌≤ℤ◌, Ok}
use Rattle.std.specs.List.{AllByRecursion}
use Rattle.ror_statement.specs.declared.statement.Statement.{Statement}
use Rattle.ror_statement.specs.declared.statement.Statement.TheVariants.{Prefer, AtLeast}
use Rattle.ror_table.specs.Table.{DecisionTable, IsTable}
use Rattle.ror_value.specs.Over.{IsLawfulIn}
use Rattle.ror_session.specs.declared.session.Line.{Line}
use Rattle.ror_session.specs.declared.session.Command.{Command}
use Rattle.ror_session.specs.declared.session.Command.TheVariants.{State}
use Rattle.ror_session.specs.Sound.{IsSound}
use Rattle.ror_report.specs.declared.block.Block.{Block}
use Rattle.ror_history.specs.History.{Revisions, statements_of}
use Rattle.ror_report.specs.Text.{report_text}
use Rattle.ror_bench.specs.Allowed.{proved}
use Rattle.ror_bench.specs.Bench.{Workbench, IsLawfulBench}
use Rattle.ror_bench.specs.Faults.{FailsBlock}
use Rattle.ror_bench.specs.Replays.{AreBlocksAt, IsReplayedReport}
use Rattle.ror_bench.specs.declared.bench.BlockFault.{BlockFault}
use Rattle.ror_bench.specs.declared.report.Accepted.{Accepted}
use Rattle.ror_bench.specs.declared.report.Rejection.{Rejection}
use Rattle.ror_bench.specs.declared.generated.TheConstants.{MOST_GENERATED}
use Rattle.ror_bench.specs.declared.names.TheConstants.{MOST_RELATED}
use Rattle.ror_bench.specs.declared.report.TheConstants.{MOST_REPORT_BYTES}
use Rattle.ror_bench.specs.declared.generated.Generated.{Generated}
use Rattle.ror_bench.specs.Generated.{generated, generated_table, hidden_value}
use Rattle.ror_bench.specs.Names.{statement_of}
use Rattle.ror_bench.specs.Blocks.{IsBlockOf, IsProvedBlock, HasNothingWide, IsTrueBlock}
use Rattle.ror_bench.specs.Reports.{EachHolds, accepted_of, IsProvedReport, IsAcceptedReport, IsRejectedFor, AreTrueBlocks, block_reason, IsOfItsQuestion}

-- a block that is proved over lawful statements is true: its answers that aren't too wide, of all value functions that are
-- compatible with them, and what a repair drops
abbrev pub ProvedBlocksAreTrue : Type 0
ProvedBlocksAreTrue = (t : DecisionTable) (r : Revisions) (line : Line) (block : Block)
    → IsLawfulIn t (statements_of r) → IsProvedBlock t r line block
    → IsTrueBlock t r block

-- where each desk begins with lawful statements, the blocks of a proved report are true
abbrev pub ProvedReportsAreTrue : Type 0
ProvedReportsAreTrue = (bench : Workbench) (lines : List Line) (bytes : List ℕ) (accepted : Accepted)
    → IsLawfulBench bench → (report : IsProvedReport bench lines bytes accepted)
    → AreTrueBlocks bench lines report.blocks

-- what is rejected is not proved: a report that is proved has no fault, in no block
abbrev pub RejectedIsNotProved : Type 0
RejectedIsNotProved = (bench : Workbench) (lines : List Line) (bytes : List ℕ)
    (rejection : Rejection) (accepted : Accepted) → IsTable bench.table
    → length bytes ≤ MOST_REPORT_BYTES → IsRejectedFor bench lines bytes rejection
    → IsProvedReport bench lines bytes accepted → ⊥

-- what a replay writes at a width is proved but for what is too wide: as many answers have a proof, and as much is too wide
abbrev pub ReplayedIsProved : Type 0
ReplayedIsProved = (most : ℕ) (bench : Workbench) (lines : List Line) (bytes : List ℕ)
    (accepted : Accepted) → IsReplayedReport most bench lines bytes accepted
    → IsProvedReport bench lines bytes accepted

-- these very blocks are proved for the lines but for what is too wide, and so is the report of them
pub record AreProvedBlocks (bench : Workbench) (lines : List Line) (blocks : List Block) : Type 0 where
  pub proved : EachHolds (IsProvedBlock bench.table) bench [] lines blocks
  pub report : IsProvedReport bench lines (report_text bench.table blocks) (accepted_of blocks)
  pub the_same : report.blocks ≡ blocks

-- each of these blocks has its proofs, and the report of them is one that a check accepts: nothing of it is too wide, it is true,
-- and it has no first fault for which it could be rejected
pub record AreAcceptedBlocks (bench : Workbench) (lines : List Line)
    (blocks : List Block) : Type 0 where
  pub proved_whole : EachHolds (IsBlockOf proved bench.table) bench [] lines blocks
  pub accepted : IsAcceptedReport bench lines (report_text bench.table blocks) (accepted_of blocks)
  pub nothing_wide : (accepted_of blocks).wide ≡ 0
  pub not_rejected : length (report_text bench.table blocks) ≤ MOST_REPORT_BYTES
      → (rejection : Rejection)
      → IsRejectedFor bench lines (report_text bench.table blocks) rejection → ⊥

-- Blocks that a replay may write at a width are, as the very same list, proved but for what is too wide. Where nothing of them is,
-- over a table at whose desks what stands is lawful, each has its proofs and a check accepts the report of them.
abbrev pub GivenAreProved : Type 0
GivenAreProved = (most : ℕ) (bench : Workbench) (lines : List Line) (blocks : List Block)
    → AreBlocksAt most bench lines blocks
    → AreProvedBlocks bench lines blocks
    × (IsTable bench.table → IsLawfulBench bench
    → AllByRecursion (λ block. HasNothingWide block.body) blocks
    → AreAcceptedBlocks bench lines blocks)

-- an answer is tested as one to the question that it names, so neither a block nor a report is ever refused since that is another
-- one: it is no block of its line then
abbrev pub NoBlockOfAnother : Type 0
NoBlockOfAnother = (t : DecisionTable) (r : Revisions) (line : Line) (block : Block)
    (fault : BlockFault) → FailsBlock t r line block fault → IsOfItsQuestion (block_reason fault)

abbrev pub NoReportOfAnother : Type 0
NoReportOfAnother = (bench : Workbench) (lines : List Line) (bytes : List ℕ) (rejection : Rejection)
    → IsRejectedFor bench lines bytes rejection → IsOfItsQuestion rejection.reason

-- how many answers of a proved report have a proof, and how much of it is too wide, goes by its bytes
abbrev pub OneCount : Type 0
OneCount = (bench : Workbench) (lines : List Line) (bytes : List ℕ) (x y : Accepted)
    → IsTable bench.table → IsProvedReport bench lines bytes x → IsProvedReport bench lines bytes y
    → x ≡ y

-- two first faults of the same bytes are equal, in their block and in their reason
abbrev pub OneRejection : Type 0
OneRejection = (bench : Workbench) (lines : List Line) (bytes : List ℕ) (first second : Rejection)
    → IsRejectedFor bench lines bytes first → IsRejectedFor bench lines bytes second
    → first ≡ second

-- what the limits are: of how many alternatives all pairs are asked of, how long a report is, and which numbers an input is
-- generated from
abbrev pub LimitsAre : Type 0
LimitsAre = (MOST_RELATED ≡ 100) × (MOST_REPORT_BYTES ≡ 268435456) × (MOST_GENERATED ≡ 999999999)

-- ---- the generated input

-- whatever number generates it: the table is one, what comes with it may stand at a desk, and the session is as one that is read
pub record IsLawfulInput (g : Generated) : Type 0 where
  pub table : IsTable g.input.table
  pub opening : IsLawfulIn g.input.table g.input.opening
  pub session : IsSound g.session

abbrev pub GeneratedIsLawful : Type 0
GeneratedIsLawful = (number : ℕ) → IsLawfulInput (generated number)

-- values of alternatives meet a statement that one is worth more than another, or at least as much
abbrev pub IsMetBy : (ℕ → ℤ) → Statement → Type 0
IsMetBy value (Prefer a b) = value b <ℤ value a
IsMetBy value (AtLeast a b) = value b ≤ℤ value a
IsMetBy value _ = ⊥

-- what a command states names alternatives of the table, and the values meet it
abbrev pub IsMet : DecisionTable → (ℕ → ℤ) → Command → Type 0
IsMet t value (State named) =
    (s : Statement) × (statement_of t named ≡ Ok s) × IsMetBy value s
IsMet t value _ = Unit {0}

-- the hidden value meets whatever the session states
abbrev pub HiddenValueMeets : Type 0
HiddenValueMeets = (number : ℕ)
    → AllByRecursion (λ line. IsMet (generated_table number) (hidden_value (generated_table number)) line.command)
    (generated number).session.lines
