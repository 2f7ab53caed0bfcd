-- Each test of a block that may fail, and their order.
use Rattle.std.specs.Prelude.{ℕ, List}
use Rattle.ror_text.specs.FirstFault.{IsFirst, IsEarlier}
use Rattle.ror_statement.specs.declared.statement.Numbered.{Numbered}
use Rattle.ror_table.specs.Table.{DecisionTable}
use Rattle.ror_session.specs.declared.session.Line.{Line}
use Rattle.ror_check.specs.Faults.{FailsAnswerAt}
use Rattle.ror_check.specs.RepairFaults.{FailsRepair, IsEarlierRepairFault}
use Rattle.ror_check.specs.declared.fault.RepairCheckFault.{RepairCheckFault}
use Rattle.ror_report.specs.declared.block.Block.{Block}
use Rattle.ror_report.specs.declared.block.Body.{Body}
use Rattle.ror_report.specs.declared.block.Body.TheVariants.{Repaired}
use Rattle.ror_report.specs.Text.{answers_of}
use Rattle.ror_history.specs.History.{Revisions, standing, statements_of}
use Rattle.ror_bench.specs.Allowed.{of_form}
use Rattle.ror_bench.specs.Blocks.{IsBlockOf}
use Rattle.ror_bench.specs.declared.bench.BlockFault.{BlockFault}
use Rattle.ror_bench.specs.declared.bench.BlockFault.TheVariants as faults

-- this is the first test that the repair of a body fails, over the statements that stand
abbrev pub FailsRepairOf : DecisionTable → List Numbered → Body → RepairCheckFault → Type 0
FailsRepairOf t list (Repaired kept) fault =
    IsFirst (FailsRepair t list kept) IsEarlierRepairFault fault
FailsRepairOf t list _ fault = ⊥

-- the block is another one's, whatever its proofs are; or an answer is not accepted, or its repair
abbrev pub FailsBlock : DecisionTable → Revisions → Line → Block → BlockFault → Type 0
FailsBlock t r line block faults.WrongBlock = IsBlockOf of_form t r line block → ⊥
FailsBlock t r line block (faults.Answer k fault) =
    FailsAnswerAt t (statements_of r) (answers_of block.body) k fault
FailsBlock t r line block (faults.Repair fault) = FailsRepairOf t (standing r) block.body fault
FailsBlock t r line block faults.Memory = ⊥

abbrev pub block_stage : BlockFault → ℕ
block_stage faults.WrongBlock = 0
block_stage _ = 1

abbrev pub block_place : BlockFault → ℕ
block_place (faults.Answer k fault) = k
block_place _ = 0

abbrev pub IsEarlierBlockFault : BlockFault → BlockFault → Type 0
IsEarlierBlockFault = IsEarlier block_stage block_place
