-- Laws of closing lists: suited lines have them, there are no two of a session, and they are what any report of it leaves.
use Rattle.std.specs.Prelude.{◌≡◌, ℕ, ◌<◌, List, [], length, slice_get, Some}
use Rattle.ror_statement.specs.declared.statement.Statement.{Statement}
use Rattle.ror_statement.specs.declared.statement.Numbered.{Numbered}
use Rattle.ror_statement.specs.Statements.{statements_in}
use Rattle.ror_session.specs.declared.session.Line.{Line}
use Rattle.ror_report.specs.declared.block.Block.{Block}
use Rattle.ror_bench.specs.Bench.{Workbench, HoldTheSame}
use Rattle.ror_bench.specs.Blocks.{IsProvedBlock}
use Rattle.ror_bench.specs.Desks.{with_blocks}
use Rattle.ror_bench.specs.Replays.{AreBlocksAt}
use Rattle.ror_bench.specs.Reports.{EachHolds}
use Rattle.ror_closing.specs.Closing.{AreSuited, IsFirstUnsuited, AreClosingLists, IsClosingStanding, lists_after}

-- where no line is unsuited, there are closing lists
abbrev pub HaveClosing : Type 0
HaveClosing = (bench : Workbench) (lines : List Line) → AreSuited lines
    → (lists : List (List Statement)) × AreClosingLists bench lines lists

-- where no line is unsuited, benches that hold the same have the same closing lists: they go by the table, by what stands at
-- the desks, and by the lines
abbrev pub OneClosing : Type 0
OneClosing = (one other : Workbench) (lines : List Line) (xs ys : List (List Statement))
    → HoldTheSame one other → AreSuited lines → AreClosingLists one lines xs
    → AreClosingLists other lines ys → xs ≡ ys

-- and so has each desk one closing list with its numbers, whose statements are its closing list
pub record OneStanding : Type 0 where
  pub one : (one other : Workbench) (lines : List Line) (desk : ℕ) (xs ys : List Numbered)
      → HoldTheSame one other → AreSuited lines → IsClosingStanding one lines desk xs
      → IsClosingStanding other lines desk ys → xs ≡ ys
  pub statements : (bench : Workbench) (lines : List Line) (desk : ℕ) (xs : List Numbered)
      (lists : List (List Statement)) → desk < length bench.state → AreSuited lines
      → IsClosingStanding bench lines desk xs → AreClosingLists bench lines lists
      → slice_get lists desk ≡ Some (statements_in xs)

-- and they are what stands after all the lines and their blocks, also of those that ask, in any report that is proved
abbrev pub ClosesReports : Type 0
ClosesReports = (bench : Workbench) (lines : List Line) (blocks : List Block)
    (lists : List (List Statement)) → AreSuited lines
    → EachHolds (IsProvedBlock bench.table) bench [] lines blocks
    → AreClosingLists bench lines lists → lists ≡ lists_after bench (with_blocks lines blocks)

-- and so in any report that a replay writes, whatever its width
abbrev pub ClosesReplays : Type 0
ClosesReplays = (most : ℕ) (bench : Workbench) (lines : List Line) (blocks : List Block)
    (lists : List (List Statement)) → AreSuited lines → AreBlocksAt most bench lines blocks
    → AreClosingLists bench lines lists → lists ≡ lists_after bench (with_blocks lines blocks)

-- lines have at most one first number of an unsuited one, and with one they are not suited
pub record OneFirstUnsuited : Type 0 where
  pub one : (lines : List Line) (m n : ℕ) → IsFirstUnsuited lines m → IsFirstUnsuited lines n → m ≡ n
  pub not_suited : (lines : List Line) (n : ℕ) → IsFirstUnsuited lines n → AreSuited lines → ⊥
