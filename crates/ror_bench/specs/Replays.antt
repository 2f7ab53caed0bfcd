-- Which bytes a replay of a session may write: the report of its lines at a width, or how one begins.
use Rattle.std.specs.Prelude.{◌≡◌, ℕ, List, [], ◌++◌}
use Rattle.std.specs.List.{AllByRecursion, flat_map}
use Rattle.ror_session.specs.declared.session.Line.{Line}
use Rattle.ror_report.specs.declared.block.Block.{Block}
use Rattle.ror_report.specs.Text.{report_text, header_text, block_text, IsPrintableBlock}
use Rattle.ror_bench.specs.Allowed.{given_at}
use Rattle.ror_bench.specs.Bench.{Workbench}
use Rattle.ror_bench.specs.Blocks.{IsBlockOf}
use Rattle.ror_bench.specs.Reports.{EachHolds, accepted_of}
use Rattle.ror_bench.specs.declared.report.Accepted.{Accepted}

-- One block for each line, in order, each the one of its line over what stands at the line's desk: its answers and repairs are
-- those that may be given at the width. Each has a text.
pub record AreBlocksAt (most : ℕ) (bench : Workbench) (lines : List Line)
    (blocks : List Block) : Type 0 where
  pub printable : AllByRecursion (IsPrintableBlock bench.table) blocks
  pub given : EachHolds (IsBlockOf (given_at most) bench.table) bench [] lines blocks

-- the bytes are the text of the report of these blocks, with so many answers that have a proof, and so many answers and
-- repairs that are too wide
pub record IsReplayedReport (most : ℕ) (bench : Workbench) (lines : List Line) (bytes : List ℕ)
    (accepted : Accepted) : Type 0 where
  pub blocks : List Block
  pub made : AreBlocksAt most bench lines blocks
  pub text : bytes ≡ report_text bench.table blocks
  pub counted : accepted ≡ accepted_of blocks

-- the bytes are how such a report begins: its header and the blocks of the first lines, or all of it
pub data IsBegunReport (most : ℕ) (bench : Workbench) (lines : List Line)
    (bytes : List ℕ) : Type 0 where
  some_lines : (taken left : List Line) (blocks : List Block) → lines ≡ taken ++ left
      → AreBlocksAt most bench taken blocks
      → bytes ≡ header_text ++ flat_map (block_text bench.table) blocks
      → IsBegunReport most bench lines bytes
  all_lines : (accepted : Accepted) → IsReplayedReport most bench lines bytes accepted
      → IsBegunReport most bench lines bytes
