-- The closing lists of a session: what stands at each desk after its lines that don't ask, each with its block.
use Rattle.std.specs.Prelude.{◌≡◌, ℕ, ◌<◌, List, [], ◌∷◌, ◌++◌, length, map}
use Rattle.std.specs.List.{AllByRecursion, filter, range_with_len}
use Rattle.ror_statement.specs.declared.statement.Statement.{Statement}
use Rattle.ror_statement.specs.declared.statement.Numbered.{Numbered}
use Rattle.ror_session.specs.declared.session.Line.{Line}
use Rattle.ror_session.specs.declared.session.Command.TheVariants.{Repair}
use Rattle.ror_report.specs.declared.block.Block.{Block}
use Rattle.ror_history.specs.History.{standing, statements_of}
use Rattle.ror_bench.specs.Bench.{Workbench, revisions_at, HoldTheSame}
use Rattle.ror_bench.specs.Blocks.{IsProvedBlock, with_block}
use Rattle.ror_bench.specs.Desks.{with_blocks}
use Rattle.ror_bench.specs.Reports.{EachHolds, revisions_then}
use Rattle.ror_bench.specs.Rooms.{may_revise}
use Rattle.ror_closing.specs.declared.closing.ClosingFault.{ClosingFault}
use Rattle.ror_closing.specs.declared.closing.ClosingFault.TheVariants as faults

-- ---- which lines are unsuited

-- the line repairs: what a repair drops is known only by a search, which may be too wide
abbrev pub IsUnsuited : Line → Type 0
IsUnsuited line = line.command ≡ Repair

-- no line is unsuited
abbrev pub AreSuited : List Line → Type 0
AreSuited lines = AllByRecursion (λ line. ¬ (IsUnsuited line)) lines

-- this is the number of a line that is unsuited, and none before it is
pub record IsFirstUnsuited (lines : List Line) (number : ℕ) : Type 0 where
  pub before : List Line
  pub line : Line
  pub after : List Line
  pub split : lines ≡ before ++ line ∷ after
  pub suited_before : AreSuited before
  pub unsuited : IsUnsuited line
  pub number_is : number ≡ line.number

-- why there are no closing lists: the first unsuited line; or memory ran out, where none is unsuited
abbrev pub RefusesClosing : List Line → ClosingFault → Type 0
RefusesClosing lines (faults.Unsuited number) = IsFirstUnsuited lines number
RefusesClosing lines faults.Memory = AreSuited lines

-- ---- the closing lists

-- the lines that don't ask: without repairs, those that state, withdraw, replace and undo
abbrev pub revision_lines : List Line → List Line
revision_lines lines = filter (λ line. may_revise line.command) lines

-- what stands at each desk after lines and their blocks, the list of the first desk first
abbrev pub lists_after : Workbench → List (Line × Block) → List (List Statement)
lists_after bench said = map (λ desk. statements_of (revisions_then bench said desk))
    (range_with_len 0 (length bench.state))

-- The lines that don't ask have each a block in order, which is the one of its line over what the line's desk holds then: so a
-- line that is refused changes nothing. The lists are what stands at each desk after all of these.
pub record AreClosingLists (bench : Workbench) (lines : List Line)
    (lists : List (List Statement)) : Type 0 where
  pub blocks : List Block
  pub each : EachHolds (IsProvedBlock bench.table) bench [] (revision_lines lines) blocks
  pub lists_are : lists ≡ lists_after bench (with_blocks (revision_lines lines) blocks)

-- what stands at a desk after them, with its numbers
pub record IsClosingStanding (bench : Workbench) (lines : List Line) (desk : ℕ)
    (list : List Numbered) : Type 0 where
  pub blocks : List Block
  pub each : EachHolds (IsProvedBlock bench.table) bench [] (revision_lines lines) blocks
  pub list_is : list ≡ standing (revisions_then bench (with_blocks (revision_lines lines) blocks) desk)

-- ---- on the way to them

-- the line has a block over what its desk holds, and the bench holds what the two leave
pub record IsDone (bench : Workbench) (line : Line) (moved : Workbench) : Type 0 where
  pub block : Block
  pub is_block : IsProvedBlock bench.table (revisions_at bench line.desk) line block
  pub moved_on : HoldTheSame moved (with_block bench line block)

-- the bench holds at each desk what the lines that don't ask left there, each with its block
pub record HasRevised (start : Workbench) (lines : List Line) (bench : Workbench) : Type 0 where
  pub blocks : List Block
  pub each : EachHolds (IsProvedBlock start.table) start [] (revision_lines lines) blocks
  pub table : bench.table ≡ start.table
  pub desks : length bench.state ≡ length start.state
  pub holds : (desk : ℕ) → desk < length start.state → revisions_at bench desk
      ≡ revisions_then start (with_blocks (revision_lines lines) blocks) desk

-- what stands at each desk of the bench
abbrev pub lists_at : Workbench → List (List Statement)
lists_at bench = map (λ desk. statements_of (revisions_at bench desk))
    (range_with_len 0 (length bench.state))
