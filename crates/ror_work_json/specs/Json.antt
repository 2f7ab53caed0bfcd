-- What the commands on reports as JSON do: one writes the report of a session over a table, the other accepts a report that is
-- proved for them and rejects any other.
use Rattle.std.specs.Prelude.{◌≡◌, ℕ, ◌+◌, ◌<◌, ◌≤◌, Bool, false, List, [], ◌∷◌, ◌++◌, length, None, nat_lt}
use Rattle.ror_text.specs.FirstFault.{IsFirst}
use Rattle.serde_json.specs.Data.{Data}
use Rattle.ror_table.specs.Table.{DecisionTable}
use Rattle.ror_value.specs.declared.input.Input.{Input}
use Rattle.ror_session.specs.declared.session.Line.{Line}
use Rattle.ror_session.specs.declared.session.Session.{Session}
use Rattle.ror_report.specs.declared.block.Block.{Block}
use Rattle.ror_history.specs.History.{Revisions}
use Rattle.ror_pivot.specs.declared.note.Bits.{Bits}
use Rattle.ror_pivot.specs.Answers.{most_of}
use Rattle.ror_json.specs.Texts.{json_line, IsJsonOf, IsJsonReport, IsBadJsonShape}
use Rattle.ror_bench.specs.declared.bench.BlockFault.{BlockFault}
use Rattle.ror_bench.specs.declared.report.Accepted.{Accepted}
use Rattle.ror_bench.specs.declared.report.Reason.{Reason}
use Rattle.ror_bench.specs.declared.report.Reason.TheVariants as reasons
use Rattle.ror_bench.specs.declared.report.Rejection.{Rejection}
use Rattle.ror_bench.specs.declared.report.TheConstants.{MOST_REPORT_BYTES}
use Rattle.ror_bench.specs.Bench.{Workbench}
use Rattle.ror_bench.specs.Blocks.{IsProvedBlock}
use Rattle.ror_bench.specs.Faults.{FailsBlock, IsEarlierBlockFault}
use Rattle.ror_bench.specs.Replays.{AreBlocksAt}
use Rattle.ror_bench.specs.Reports.{EachHolds, AreTrueBlocks, accepted_of, block_reason, revisions_then}
use Rattle.ror_words.specs.Words.{InputNames}
use Rattle.ror_frame.specs.declared.stop.Refusal.{Refusal}
use Rattle.ror_frame.specs.declared.stop.Refusal.TheVariants as refusals
use Rattle.ror_frame.specs.Courses.{Output, Chore}
use Rattle.ror_frame.specs.Inputs.{bench_for, accepted_output, writing_chore, judging_chore}

-- ---- which bytes are the report of a session that is proved

-- the bytes are JSON of a report that is proved for the session's lines, but for so many answers and repairs that are too wide
pub record IsProvedJson (bench : Workbench) (lines : List Line) (bytes : List ℕ)
    (accepted : Accepted) : Type 0 where
  pub blocks : List Block
  pub json : IsJsonReport bench.table bytes blocks
  pub proved : EachHolds (IsProvedBlock bench.table) bench [] lines blocks
  pub counted : accepted ≡ accepted_of blocks

-- the same, and its blocks are true of all compatible value functions
pub record IsAcceptedJson (bench : Workbench) (lines : List Line) (bytes : List ℕ)
    (accepted : Accepted) : Type 0 where
  pub proved : IsProvedJson bench lines bytes accepted
  pub blocks_true : AreTrueBlocks bench lines proved.blocks

-- ---- for what bytes are rejected

-- The reason for which the blocks of lines are rejected, and the number of the block, from 1, after those before: that a line has
-- no block, that a block has no line, or the first fault of the first block that is not proved.
pub data IsRejectedAmong (bench : Workbench) (rejection : Rejection)
    : List (Line × Block) → List Line → List Block → Type 0 where
  missing : (before : List (Line × Block)) (line : Line) (lines : List Line)
      → rejection ≡ record { block = 1 + length before; reason = reasons.WrongBlock }
      → IsRejectedAmong bench rejection before (line ∷ lines) []
  one_too_many : (before : List (Line × Block)) (block : Block) (blocks : List Block)
      → rejection ≡ record { block = 1 + length before; reason = reasons.WrongBlock }
      → IsRejectedAmong bench rejection before [] (block ∷ blocks)
  refused : (before : List (Line × Block)) (line : Line) (lines : List Line) (block : Block)
      (blocks : List Block) (fault : BlockFault)
      → IsFirst (FailsBlock bench.table (revisions_then bench before line.desk) line block) IsEarlierBlockFault fault
      → rejection ≡ record { block = 1 + length before; reason = block_reason fault }
      → IsRejectedAmong bench rejection before (line ∷ lines) (block ∷ blocks)
  later : (before : List (Line × Block)) (line : Line) (lines : List Line) (block : Block)
      (blocks : List Block)
      → IsProvedBlock bench.table (revisions_then bench before line.desk) line block
      → IsRejectedAmong bench rejection (before ++ (line, block) ∷ []) lines blocks
      → IsRejectedAmong bench rejection before (line ∷ lines) (block ∷ blocks)

-- Why the bytes are no JSON of a report that is proved: they are JSON of no value, or of one with a bad shape, or the first of its
-- blocks at fault is.
pub data IsRejectedJson (bench : Workbench) (lines : List Line) (bytes : List ℕ)
    (rejection : Rejection) : Type 0 where
  no_json : ((d : Data) → IsJsonOf bytes d → ⊥)
      → rejection ≡ record { block = 0; reason = reasons.BadJson }
      → IsRejectedJson bench lines bytes rejection
  no_report : (block : ℕ) → IsBadJsonShape bench.table bytes block
      → rejection ≡ record { block = block; reason = reasons.BadShape }
      → IsRejectedJson bench lines bytes rejection
  in_blocks : (blocks : List Block) → IsJsonReport bench.table bytes blocks
      → IsRejectedAmong bench rejection [] lines blocks
      → IsRejectedJson bench lines bytes rejection

-- ---- what a check says

-- the report's bytes, of which there are at most 268,435,456, are JSON of a report that is proved for table and session but for
-- what is too wide: so many answers have a proof, and so many answers and repairs are too wide
abbrev pub ProvesJson : Input → Session → List ℕ → Accepted → Type 0
ProvesJson i s bytes accepted = (length bytes ≤ MOST_REPORT_BYTES)
    × IsProvedJson (bench_for i s) s.lines bytes accepted

-- why the bytes are rejected as a report on the lines: they are too many, or else for what is at fault first
pub data IsJsonRejection (bench : Workbench) (lines : List Line) (bytes : List ℕ)
    (rejection : Rejection) : Type 0 where
  too_long : MOST_REPORT_BYTES < length bytes → rejection ≡ record { block = 0; reason = reasons.TooLong }
      → IsJsonRejection bench lines bytes rejection
  at_fault : length bytes ≤ MOST_REPORT_BYTES → IsRejectedJson bench lines bytes rejection
      → IsJsonRejection bench lines bytes rejection

abbrev pub RejectsJson : Input → Session → List ℕ → Rejection → Type 0
RejectsJson i s bytes rejection = IsJsonRejection (bench_for i s) s.lines bytes rejection

-- as a step of the work
abbrev pub RefusesJson : Input → Session → List ℕ → Refusal → Type 0
RefusesJson i s bytes r = (rejection : Rejection) × (r ≡ refusals.Rejected rejection)
    × RejectsJson i s bytes rejection

-- The line of the accepted report. Every answer of it that isn't too wide is true of all compatible value functions, and so is
-- what its repairs drop.
abbrev pub proved_json_output : Input → Session → List ℕ → Accepted → Output
proved_json_output i s bytes accepted = accepted_output accepted (IsAcceptedJson (bench_for i s) s.lines bytes accepted)

abbrev pub check_json_chore : InputNames → List ℕ → Chore
check_json_chore names report = judging_chore names report ProvesJson RejectsJson proved_json_output

-- ---- what a replay writes

-- The bytes are the report of the blocks of the lines, as JSON on one line: there is a block for each line, with answers and
-- repairs that may be given where no number passes most. So many answers have a proof, and so many answers and repairs are too
-- wide.
pub record IsReplayedJson (most : ℕ) (bench : Workbench) (lines : List Line) (bytes : List ℕ)
    (accepted : Accepted) : Type 0 where
  pub blocks : List Block
  pub made : AreBlocksAt most bench lines blocks
  pub text : bytes ≡ json_line bench.table blocks
  pub counted : accepted ≡ accepted_of blocks

-- the same, and the bytes are JSON of a report that is proved but for what is too wide, and true
pub record IsJsonReportOf (most : ℕ) (bench : Workbench) (lines : List Line) (bytes : List ℕ)
    (accepted : Accepted) : Type 0 where
  pub given : IsReplayedJson most bench lines bytes accepted
  pub checked : IsAcceptedJson bench lines bytes accepted

-- The report of the lines of a session. Where a write fails, a front of one stands there; where memory runs out, nothing.
abbrev pub json_output : ℕ → Workbench → List Line → Output
json_output most bench lines = record {
  tells = None;
  Whole = λ wide text. (accepted : Accepted) × IsJsonReportOf most bench lines text accepted
      × (wide ≡ nat_lt 0 accepted.wide);
  Begun = λ text. (accepted : Accepted) × IsJsonReportOf most bench lines text accepted;
  keeps_front = false;
}

abbrev pub replay_json_chore : InputNames → Bits → Chore
replay_json_chore names bits = writing_chore names (λ i s. json_output (most_of bits) (bench_for i s) s.lines)
