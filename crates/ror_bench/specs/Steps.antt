-- What each step of a line and of a check leaves to the next, and the error that a fault is.
use Rattle.std.specs.Prelude.{◌≡◌, ◌≢◌, ◌⊎◌, ℕ, ◌+◌, false, List, ◌++◌, drop, map, Option, Some, None, Result, Ok, Err}
use Rattle.std.specs.List.{AllByRecursion, flat_map}
use Rattle.ror_text.specs.FirstFault.{IsFirst}
use Rattle.ror_statement.specs.declared.statement.Statement.{Statement}
use Rattle.ror_statement.specs.declared.question.Question.{Question}
use Rattle.ror_table.specs.Table.{DecisionTable}
use Rattle.ror_session.specs.declared.session.Command.{Command}
use Rattle.ror_proof.specs.declared.answer.Answer.{Answer}
use Rattle.ror_check.specs.declared.fault.AnswersFault.{AnswersFault}
use Rattle.ror_check.specs.declared.fault.AnswersFault.TheVariants as checks
use Rattle.ror_check.specs.Faults.{FailsAnswers, IsEarlierAnswersFault}
use Rattle.ror_check.specs.declared.fault.RepairCheckFault.{RepairCheckFault}
use Rattle.ror_check.specs.declared.fault.RepairCheckFault.TheVariants as repairs
use Rattle.ror_report.specs.declared.block.Body.{Body}
use Rattle.ror_report.specs.declared.block.Body.TheVariants as bodies
use Rattle.ror_report.specs.declared.block.LineFault.{LineFault}
use Rattle.ror_report.specs.declared.block.LineFault.TheVariants as lines
use Rattle.ror_report.specs.Text.{answers_of}
use Rattle.ror_history.specs.declared.history.HistoryFault.{HistoryFault}
use Rattle.ror_history.specs.declared.history.HistoryFault.TheVariants as histories
use Rattle.ror_history.specs.History.{Revision, Revisions, standing, statements_of, with_revision}
use Rattle.ror_text.specs.Cursor.{cursor_at}
use Rattle.ror_session.specs.declared.session.Line.{Line}
use Rattle.ror_report.specs.declared.block.Block.{Block}
use Rattle.ror_proof.specs.declared.read.ProofFault.{ProofFault}
use Rattle.ror_proof.specs.declared.read.ProofFault.TheVariants as forms
use Rattle.ror_report.specs.Reading.{begins_end, block_at, end_at}
use Rattle.ror_report.specs.Text.{block_text, end_text, IsPrintableBlock}
use Rattle.ror_bench.specs.Allowed.{of_form}
use Rattle.ror_bench.specs.Bench.{Workbench, revisions_at, HoldTheSame}
use Rattle.ror_bench.specs.Faults.{FailsRepairOf}
use Rattle.ror_bench.specs.Reports.{EachHolds, accepted_of, misread_reason, block_reason}
use Rattle.ror_bench.specs.declared.bench.Passed.{Passed}
use Rattle.ror_bench.specs.declared.report.Accepted.{Accepted}
use Rattle.ror_bench.specs.declared.report.Reason.{Reason}
use Rattle.ror_bench.specs.declared.report.Reason.TheVariants as reasons
use Rattle.ror_bench.specs.declared.report.ReportError.{ReportError}
use Rattle.ror_bench.specs.declared.report.ReportError.TheVariants as errors
use Rattle.ror_bench.specs.declared.bench.BlockFault.{BlockFault}
use Rattle.ror_bench.specs.declared.bench.BlockFault.TheVariants as faults
use Rattle.ror_bench.specs.declared.desk.Made.{Made}
use Rattle.ror_bench.specs.declared.desk.Made.TheVariants.{Added, Withdrawn, Replaced, Undone}
use Rattle.ror_bench.specs.declared.stop.LineStop.{LineStop}
use Rattle.ror_bench.specs.declared.stop.LineStop.TheVariants as stops
use Rattle.ror_bench.specs.Lines.{IsRefusedFor, IsTaken}
use Rattle.ror_bench.specs.Blocks.{IsBodyOf, IsProvedBlock, IsRevised, passed_of, revisions_with, with_block}

-- ---- a command

-- the fault of a line that is stopped: none for want of memory
abbrev pub stopping_fault : LineStop → Option LineFault
stopping_fault (stops.Refused fault) = Some fault
stopping_fault stops.Memory = None

-- a fault of the history stops a line for the reason of the same name
abbrev pub stop_of_history : HistoryFault → LineStop
stop_of_history histories.NoSuchStatement = stops.Refused lines.NoSuchStatement
stop_of_history histories.NothingToUndo = stops.Refused lines.NothingToUndo
stop_of_history histories.TooManyStatements = stops.Refused lines.TooManyStatements
stop_of_history histories.TooManyRows = stops.Refused lines.TooManyRows
stop_of_history histories.Memory = stops.Memory

-- the body that says what was made
abbrev pub body_of : Made → Body
body_of (Added n) = bodies.Added n
body_of (Withdrawn n) = bodies.Withdrawn n
body_of (Replaced n) = bodies.Replaced n
body_of Undone = bodies.Undone

-- the command is taken, and this is made of it
pub record IsMade (t : DecisionTable) (r : Revisions) (command : Command) (made : Made)
    (moved : Revisions) : Type 0 where
  pub taken : IsTaken t r command
  pub revised : IsRevised t r command (body_of made)
  pub moved_on : moved ≡ revisions_with t r command (body_of made)

-- one more revision survives
abbrev pub IsOneMore : Revisions → Revisions → Type 0
IsOneMore r moved = (x : Revision) × (moved ≡ with_revision r x)

-- the command is refused for its first fault; or memory ran out
abbrev pub RefusesCommand : DecisionTable → Revisions → Command → LineStop → Type 0
RefusesCommand t r command (stops.Refused fault) = IsRefusedFor t r command fault
RefusesCommand t r command stops.Memory = Unit {0}

-- the body says what was made, or for what the line is refused
abbrev pub IsSaidOf : Result Made LineStop → Body → Type 0
IsSaidOf (Ok made) body = body ≡ body_of made
IsSaidOf (Err (stops.Refused fault)) body = body ≡ bodies.Refused fault
IsSaidOf (Err stops.Memory) body = ⊥

-- the body says something else; or memory ran out
abbrev pub RefusesSaid : Result Made LineStop → Body → BlockFault → Type 0
RefusesSaid made body faults.WrongBlock = (made ≢ Err stops.Memory) × (IsSaidOf made body → ⊥)
RefusesSaid made body (faults.Answer k fault) = ⊥
RefusesSaid made body (faults.Repair fault) = ⊥
RefusesSaid made body faults.Memory = Unit {0}

abbrev pub EndsWithRevision : Revisions → Type 0
EndsWithRevision r = (before : Revisions) × (revision : Revision)
    × (r ≡ with_revision before revision)

-- what was made is taken back
abbrev pub IsTakenBack : Result Made LineStop → Revisions → Revisions → Type 0
IsTakenBack (Ok made) old new = (revision : Revision) × (old ≡ with_revision new revision)
IsTakenBack (Err stop) old new = new ≡ old

-- ---- a body

-- the answers are not to these questions, or one is the first that is refused; or memory ran out
abbrev pub RefusesAnswers : DecisionTable → List Statement → List Question → List Answer
    → BlockFault → Type 0
RefusesAnswers t list questions xs faults.WrongBlock = map (λ x. x.question) xs ≢ questions
RefusesAnswers t list questions xs (faults.Answer k fault) =
    (map (λ x. x.question) xs ≡ questions)
    × IsFirst (FailsAnswers t list xs) IsEarlierAnswersFault (checks.Answer k fault)
RefusesAnswers t list questions xs (faults.Repair fault) = ⊥
RefusesAnswers t list questions xs faults.Memory = Unit {0}

-- the body is another one's, or an answer is the first that is refused, or its repair is refused; or memory ran out
abbrev pub RefusesBody : DecisionTable → Revisions → Command → Body → BlockFault → Type 0
RefusesBody t r command body faults.WrongBlock = IsBodyOf of_form t r command body → ⊥
RefusesBody t r command body (faults.Answer k fault) = IsBodyOf of_form t r command body
    × IsFirst (FailsAnswers t (statements_of r) (answers_of body)) IsEarlierAnswersFault
    (checks.Answer k fault)
RefusesBody t r command body (faults.Repair fault) = IsBodyOf of_form t r command body
    × FailsRepairOf t (standing r) body fault
RefusesBody t r command body faults.Memory = Unit {0}

-- the fault of a block whose repair is refused
abbrev pub fault_of_repair : RepairCheckFault → BlockFault
fault_of_repair repairs.Memory = faults.Memory
fault_of_repair fault = faults.Repair fault

-- the fault of a block of which an answer is refused
abbrev pub fault_of_answers : AnswersFault → BlockFault
fault_of_answers (checks.Answer k fault) = faults.Answer k fault
fault_of_answers checks.Memory = faults.Memory

-- ---- a report

-- the block of the line stands at the place and ends at the other, it is proved with so many answers, and the bench holds what
-- it leaves
pub record IsNextBlock (bench moved : Workbench) (line : Line) (bytes : List ℕ) (from : ℕ)
    (block : Block) (passed : Passed) (after : ℕ) : Type 0 where
  pub no_end : begins_end (drop from bytes) ≡ false
  pub read : block_at bench.table (cursor_at bytes from) ≡ Ok (block, cursor_at bytes after)
  pub proved : IsProvedBlock bench.table (revisions_at bench line.desk) line block
  pub counted : passed ≡ passed_of block.body
  pub moved_on : HoldTheSame moved (with_block bench line block)

-- the bytes are the texts of blocks that are proved for the lines, after those before, and the last line of a report of so
-- many blocks
pub record IsRest (start : Workbench) (before : List (Line × Block)) (lines : List Line) (total : ℕ)
    (bytes : List ℕ) (accepted : Accepted) : Type 0 where
  pub blocks : List Block
  pub text : bytes ≡ flat_map (block_text start.table) blocks ++ end_text total
  pub printable : AllByRecursion (IsPrintableBlock start.table) blocks
  pub proved : EachHolds (IsProvedBlock start.table) start before lines blocks
  pub counted : accepted ≡ accepted_of blocks

-- the numbers of both together
abbrev pub with_passed : Accepted → Passed → Accepted
with_passed accepted passed = record {
  answers = accepted.answers + passed.answers;
  wide = accepted.wide + passed.wide;
}

-- a last line stands at the place, where a block is due, or an entry
abbrev pub IsEarlyEnd : List ℕ → ℕ → Reason → Type 0
IsEarlyEnd bytes from reason = ((n : ℕ) × (end_at (cursor_at bytes from) ≡ Ok n)
    × (reason ≡ reasons.WrongBlock)) ⊎ ((fault : ProofFault)
    × (end_at (cursor_at bytes from) ≡ Err fault) × (reason ≡ misread_reason bytes fault))

-- a block stands at the place, where the last line is due
abbrev pub IsLateBlock : DecisionTable → List ℕ → ℕ → Reason → Type 0
IsLateBlock t bytes from reason = ((b : Block) × (after : ℕ)
    × (block_at t (cursor_at bytes from) ≡ Ok (b, cursor_at bytes after))
    × (reason ≡ reasons.WrongBlock)) ⊎ ((fault : ProofFault)
    × (block_at t (cursor_at bytes from) ≡ Err fault) × (reason ≡ misread_reason bytes fault))

-- ---- which error a fault of a block is

abbrev pub rejected : ℕ → Reason → ReportError
rejected block reason = errors.Rejected (record { block = block; reason = reason })

abbrev pub refused_block_error : ℕ → BlockFault → ReportError
refused_block_error block faults.Memory = errors.Memory
refused_block_error block fault = rejected block (block_reason fault)

abbrev pub misread_error : List ℕ → ℕ → ProofFault → ReportError
misread_error bytes block forms.Memory = errors.Memory
misread_error bytes block fault = rejected block (misread_reason bytes fault)
