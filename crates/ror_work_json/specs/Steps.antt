-- What each step of a replay and of a check leaves to the next.
use Rattle.std.specs.Prelude.{◌≡◌, ℕ, ◌++◌, ◌∷◌, [], Bool, List, nat_lt}
use Rattle.serde_json.specs.Data.{Data}
use Rattle.ror_text.specs.FirstFault.{IsFirst}
use Rattle.ror_table.specs.Table.{DecisionTable}
use Rattle.ror_session.specs.declared.session.Line.{Line}
use Rattle.ror_report.specs.declared.block.Block.{Block}
use Rattle.ror_history.specs.History.{Revisions}
use Rattle.ror_json.specs.Texts.{json_text, IsJsonOf, IsBadJsonShape}
use Rattle.ror_bench.specs.declared.bench.BlockFault.{BlockFault}
use Rattle.ror_bench.specs.declared.report.Accepted.{Accepted}
use Rattle.ror_bench.specs.declared.report.Reason.{Reason}
use Rattle.ror_bench.specs.declared.report.Reason.TheVariants as reasons
use Rattle.ror_bench.specs.declared.report.Rejection.{Rejection}
use Rattle.ror_bench.specs.Bench.{Workbench}
use Rattle.ror_bench.specs.Blocks.{IsProvedBlock}
use Rattle.ror_bench.specs.Faults.{FailsBlock, IsEarlierBlockFault}
use Rattle.ror_bench.specs.Replays.{AreBlocksAt}
use Rattle.ror_bench.specs.Reports.{EachHolds, accepted_of, block_reason}

-- the text is that of the blocks of the lines, and this is whether anything of them is too wide
pub record IsJsonText (most : ℕ) (bench : Workbench) (lines : List Line) (text : List ℕ)
    (wide : Bool) : Type 0 where
  pub blocks : List Block
  pub made : AreBlocksAt most bench lines blocks
  pub text_is : text ≡ json_text bench.table blocks
  pub wide_is : wide ≡ nat_lt 0 (accepted_of blocks).wide

-- these blocks are proved for the lines, but for so many answers and repairs that are too wide
pub record AreProvedBlocks (bench : Workbench) (lines : List Line) (blocks : List Block)
    (accepted : Accepted) : Type 0 where
  pub proved : EachHolds (IsProvedBlock bench.table) bench [] lines blocks
  pub counted : accepted ≡ accepted_of blocks

-- the bytes are JSON of no value, or of one with a bad shape
pub data RefusesText (t : DecisionTable) (bytes : List ℕ) (rejection : Rejection) : Type 0 where
  no_json : ((d : Data) → IsJsonOf bytes d → ⊥)
      → rejection ≡ record { block = 0; reason = reasons.BadJson } → RefusesText t bytes rejection
  no_report : (block : ℕ) → IsBadJsonShape t bytes block
      → rejection ≡ record { block = block; reason = reasons.BadShape } → RefusesText t bytes rejection

-- the reason is that of the block's first fault
pub record RefusesBlock (t : DecisionTable) (r : Revisions) (line : Line) (block : Block)
    (reason : Reason) : Type 0 where
  pub fault : BlockFault
  pub first : IsFirst (FailsBlock t r line block) IsEarlierBlockFault fault
  pub is : reason ≡ block_reason fault
