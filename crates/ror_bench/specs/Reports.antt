-- Which bytes are the text of a report that is proved for a session, and for what others are rejected.
use Rattle.std.specs.Prelude.{◌≡◌, ◌≢◌, ℕ, ◌+◌, ◌<◌, ◌==◌, true, false, min, List, [], ◌∷◌, ◌++◌, length, drop, Some, None, Ok, Err}
use Rattle.std.specs.List.{AllByRecursion, sum_by, filter, fold}
use Rattle.std.specs.Str.{IsUtf8}
use Rattle.ror_text.specs.Cursor.{cursor_at}
use Rattle.ror_text.specs.FirstFault.{IsFirst}
use Rattle.ror_text.specs.Lines.{line_of}
use Rattle.ror_table.specs.Table.{DecisionTable}
use Rattle.ror_session.specs.declared.session.Line.{Line}
use Rattle.ror_report.specs.declared.block.Block.{Block}
use Rattle.ror_proof.specs.declared.read.ProofFault.{ProofFault}
use Rattle.ror_proof.specs.declared.read.ProofFault.TheVariants as forms
use Rattle.ror_report.specs.Reading.{begins_end, block_at, end_at, header_at}
use Rattle.ror_report.specs.Text.{report_text, IsPrintableBlock}
use Rattle.ror_check.specs.declared.fault.CheckFault.TheVariants as checks
use Rattle.ror_check.specs.declared.fault.RepairCheckFault.TheVariants as repairs
use Rattle.ror_discriminate.specs.declared.fault.OptimalFault.TheVariants as optima
use Rattle.ror_ranks.specs.declared.fault.ExtremeFault.TheVariants as extremes
use Rattle.ror_history.specs.History.{Revisions}
use Rattle.ror_bench.specs.Bench.{Workbench, revisions_at}
use Rattle.ror_bench.specs.Blocks.{IsProvedBlock, passed_of, IsTrueBlock, revisions_with}
use Rattle.ror_bench.specs.Faults.{FailsBlock, IsEarlierBlockFault}
use Rattle.ror_bench.specs.declared.bench.BlockFault.{BlockFault}
use Rattle.ror_bench.specs.declared.bench.BlockFault.TheVariants as blocks
use Rattle.ror_bench.specs.declared.report.Accepted.{Accepted}
use Rattle.ror_bench.specs.declared.report.Reason.{Reason}
use Rattle.ror_bench.specs.declared.report.Reason.TheVariants as reasons
use Rattle.ror_bench.specs.declared.report.Rejection.{Rejection}
use Rattle.ror_bench.specs.declared.report.ReportError.{ReportError}
use Rattle.ror_bench.specs.declared.report.ReportError.TheVariants as errors

abbrev pub NamesADesk : ℕ → Line → Type 0
NamesADesk desks line = line.desk < desks

-- the lines of one desk, each with its block
abbrev pub at_desk : ℕ → List (Line × Block) → List (Line × Block)
at_desk desk before = filter (λ x. x.0.desk == desk) before

-- a desk's revisions after its lines and their blocks, in order
abbrev pub revisions_after : DecisionTable → Revisions → List (Line × Block) → Revisions
revisions_after t r lines = fold (λ r x. revisions_with t r x.0.command x.1.body) r lines

-- what a desk of the bench holds after lines and their blocks: those of other desks change nothing
abbrev pub revisions_then : Workbench → List (Line × Block) → ℕ → Revisions
revisions_then bench before desk =
    revisions_after bench.table (revisions_at bench desk) (at_desk desk before)

-- one block for each line, in order; each holds over what the line's desk holds then
abbrev pub EachHolds : (Revisions → Line → Block → Type 0) → Workbench → List (Line × Block)
    → List Line → List Block → Type 0
EachHolds P bench before [] [] = Unit {0}
EachHolds P bench before (line ∷ lines) (block ∷ blocks) =
    P (revisions_then bench before line.desk) line block
    × EachHolds P bench (before ++ (line, block) ∷ []) lines blocks
EachHolds P bench before _ _ = ⊥

-- how many answers of a report have a proof, and how many answers and repairs are too wide
abbrev pub accepted_of : List Block → Accepted
accepted_of blocks = record {
  answers = sum_by (λ b. (passed_of b.body).answers) blocks;
  wide = sum_by (λ b. (passed_of b.body).wide) blocks;
}

-- the bytes are the text of a report that is proved for the session's lines, but for so many answers and repairs that are too
-- wide
pub record IsProvedReport (bench : Workbench) (lines : List Line) (bytes : List ℕ)
    (accepted : Accepted) : Type 0 where
  pub blocks : List Block
  pub text : bytes ≡ report_text bench.table blocks
  pub printable : AllByRecursion (IsPrintableBlock bench.table) blocks
  pub proved : EachHolds (IsProvedBlock bench.table) bench [] lines blocks
  pub counted : accepted ≡ accepted_of blocks

-- each block is true of what stands at its line's desk then: its answers that aren't too wide, and what a repair drops
abbrev pub AreTrueBlocks : Workbench → List Line → List Block → Type 0
AreTrueBlocks bench lines blocks =
    EachHolds (λ r line block. IsTrueBlock bench.table r block) bench [] lines blocks

-- the bytes are the text of a report that is proved for the session's lines, and its blocks are true of all compatible value
-- functions
pub record IsAcceptedReport (bench : Workbench) (lines : List Line) (bytes : List ℕ)
    (accepted : Accepted) : Type 0 where
  pub proved : IsProvedReport bench lines bytes accepted
  pub blocks_true : AreTrueBlocks bench lines proved.blocks

-- ---- for what a report is rejected

-- the line of a fault within the bytes, or the one that their end is in
abbrev pub misread_reason : List ℕ → ProofFault → Reason
misread_reason bytes (forms.BadLine place) =
    reasons.BadLine (line_of bytes (min place (length bytes)))
misread_reason bytes (forms.BadNumber place) =
    reasons.BadNumber (line_of bytes (min place (length bytes)))
misread_reason bytes forms.Memory = reasons.WrongBlock

abbrev pub block_reason : BlockFault → Reason
block_reason blocks.WrongBlock = reasons.WrongBlock
block_reason (blocks.Answer k fault) = reasons.Answer k fault
block_reason (blocks.Repair fault) = reasons.Repair fault
block_reason blocks.Memory = reasons.WrongBlock

-- The text from a place on is rejected as the block of a line, over what its desk holds: by its form, as a last line where
-- a block is due, or for the first fault of the block.
pub data RejectsNext (t : DecisionTable) (r : Revisions) (line : Line) (bytes : List ℕ) (from : ℕ)
    (reason : Reason) : Type 0 where
  end_misread : (fault : ProofFault) → begins_end (drop from bytes) ≡ true
      → end_at (cursor_at bytes from) ≡ Err fault → reason ≡ misread_reason bytes fault
      → RejectsNext t r line bytes from reason
  ends_early : (n : ℕ) → begins_end (drop from bytes) ≡ true
      → end_at (cursor_at bytes from) ≡ Ok n → reason ≡ reasons.WrongBlock
      → RejectsNext t r line bytes from reason
  block_misread : (fault : ProofFault) → begins_end (drop from bytes) ≡ false
      → block_at t (cursor_at bytes from) ≡ Err fault → reason ≡ misread_reason bytes fault
      → RejectsNext t r line bytes from reason
  refused : (b : Block) (after : ℕ) (fault : BlockFault) → begins_end (drop from bytes) ≡ false
      → block_at t (cursor_at bytes from) ≡ Ok (b, cursor_at bytes after)
      → IsFirst (FailsBlock t r line b) IsEarlierBlockFault fault → reason ≡ block_reason fault
      → RejectsNext t r line bytes from reason

-- The text from a place on is rejected as the last line after so many blocks: by its form, as a block too many, or for its
-- number.
pub data RejectsEnd (t : DecisionTable) (bytes : List ℕ) (from count : ℕ)
    (reason : Reason) : Type 0 where
  end_misread : (fault : ProofFault) → begins_end (drop from bytes) ≡ true
      → end_at (cursor_at bytes from) ≡ Err fault → reason ≡ misread_reason bytes fault
      → RejectsEnd t bytes from count reason
  miscounted : (n : ℕ) → begins_end (drop from bytes) ≡ true
      → end_at (cursor_at bytes from) ≡ Ok n → n ≢ count → reason ≡ reasons.WrongBlock
      → RejectsEnd t bytes from count reason
  block_misread : (fault : ProofFault) → begins_end (drop from bytes) ≡ false
      → block_at t (cursor_at bytes from) ≡ Err fault → reason ≡ misread_reason bytes fault
      → RejectsEnd t bytes from count reason
  one_too_many : (b : Block) (after : ℕ) → begins_end (drop from bytes) ≡ false
      → block_at t (cursor_at bytes from) ≡ Ok (b, cursor_at bytes after)
      → reason ≡ reasons.WrongBlock → RejectsEnd t bytes from count reason

-- the reason of the first block at fault, counted from 1, or of the last line, after the blocks before the place
pub data IsRejectedFrom (bench : Workbench) (bytes : List ℕ)
    (rejection : Rejection) : List (Line × Block) → List Line → ℕ → Type 0 where
  at_line : (before : List (Line × Block)) (line : Line) (lines : List Line) (from : ℕ)
      → rejection.block ≡ 1 + length before
      → RejectsNext bench.table (revisions_then bench before line.desk) line bytes from rejection.reason
      → IsRejectedFrom bench bytes rejection before (line ∷ lines) from
  at_end : (before : List (Line × Block)) (from : ℕ) → rejection.block ≡ 1 + length before
      → RejectsEnd bench.table bytes from (length before) rejection.reason
      → IsRejectedFrom bench bytes rejection before [] from
  later : (before : List (Line × Block)) (line : Line) (lines : List Line) (from : ℕ) (b : Block)
      (after : ℕ) → begins_end (drop from bytes) ≡ false
      → block_at bench.table (cursor_at bytes from) ≡ Ok (b, cursor_at bytes after)
      → IsProvedBlock bench.table (revisions_then bench before line.desk) line b
      → IsRejectedFrom bench bytes rejection (before ++ (line, b) ∷ []) lines after
      → IsRejectedFrom bench bytes rejection before (line ∷ lines) from

-- why the bytes are no report that is proved: what is at fault first, in no block or in the first faulty one
pub data IsRejectedFor (bench : Workbench) (lines : List Line) (bytes : List ℕ)
    (rejection : Rejection) : Type 0 where
  not_utf8 : ¬ (IsUtf8 bytes) → rejection ≡ record { block = 0; reason = reasons.NotUtf8 }
      → IsRejectedFor bench lines bytes rejection
  no_header : IsUtf8 bytes → header_at bytes ≡ None
      → rejection ≡ record { block = 0; reason = reasons.BadLine 1 }
      → IsRejectedFor bench lines bytes rejection
  in_blocks : IsUtf8 bytes → (start : ℕ) → header_at bytes ≡ Some start
      → IsRejectedFrom bench bytes rejection [] lines start
      → IsRejectedFor bench lines bytes rejection

-- what is said of the rejection of an error, if it is one
abbrev pub IfRejected : (Rejection → Type 0) → ReportError → Type 0
IfRejected P (errors.Rejected rejection) = P rejection
IfRejected P errors.Memory = Unit {0}

-- want of memory is an answer of its own, and stands inside no reason
abbrev pub IsFreeOfMemory : Reason → Type 0
IsFreeOfMemory (reasons.Answer k fault) = fault ≢ checks.Memory
IsFreeOfMemory (reasons.Repair fault) = fault ≢ repairs.Memory
IsFreeOfMemory (reasons.Optimal fault) = fault ≢ optima.Memory
IsFreeOfMemory (reasons.Rank k fault) = fault ≢ extremes.Memory
IsFreeOfMemory _ = Unit {0}

-- In a report of a session's lines no answer is refused since its question is another: that is the block of another line, before
-- any answer is tested. Among the answers on a pair one may be.
abbrev pub IsOfItsQuestion : Reason → Type 0
IsOfItsQuestion (reasons.Answer k fault) = fault ≢ checks.WrongQuestion
IsOfItsQuestion _ = Unit {0}

abbrev pub HoldsNoMemory : ReportError → Type 0
HoldsNoMemory e = IfRejected (λ rejection. IsFreeOfMemory rejection.reason) e
