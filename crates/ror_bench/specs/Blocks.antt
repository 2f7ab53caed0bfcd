-- Which block is one of a line, over what its desk holds, and what the desk holds then.
use Rattle.std.specs.Prelude.{Bool, ◌≡◌, ◌≢◌, ℕ, ◌+◌, ◌-◌, ◌≤◌, true, false, List, [], ◌∷◌, length, take, count_by, Option, Some, None, Result, Ok, slice_set}
use Rattle.std.specs.Bool.{beq}
use Rattle.std.specs.List.{AllByRecursion, AllZip, list_any}
use Rattle.std.specs.Result.{result_ok}
use Rattle.ror_statement.specs.declared.statement.Statement.{Statement}
use Rattle.ror_statement.specs.declared.statement.Numbered.{Numbered}
use Rattle.ror_statement.specs.declared.question.Question.{Question}
use Rattle.ror_table.specs.Table.{DecisionTable}
use Rattle.ror_session.specs.declared.session.Line.{Line}
use Rattle.ror_session.specs.declared.session.Command.{Command}
use Rattle.ror_session.specs.declared.session.Command.TheVariants.{State, Withdraw, Replace, Repair, Undo, Ask}
use Rattle.ror_proof.specs.declared.answer.Answer.{Answer}
use Rattle.ror_check.specs.Proof.{IsWideOrTrue, is_wide}
use Rattle.ror_check.specs.Repair.{numbers_of, IsRepair}
use Rattle.ror_report.specs.declared.block.Block.{Block}
use Rattle.ror_report.specs.declared.block.Body.{Body}
use Rattle.ror_report.specs.declared.block.Body.TheVariants.{Added, Withdrawn, Replaced, Undone, Repaired, RepairWide, Answers, Refused}
use Rattle.ror_report.specs.declared.block.LineFault.{LineFault}
use Rattle.ror_report.specs.Printing.{HasValidQuestion, HasNarrowVerdict, HasNarrowRepair}
use Rattle.ror_report.specs.Text.{answers_of, IsPrintableBlock}
use Rattle.ror_history.specs.History.{Revision, addition, withdrawal, replacement, Revisions, with_revision, next_number, standing, statements_of}
use Rattle.ror_bench.specs.Allowed.{Allowing, proved_unless_wide}
use Rattle.ror_bench.specs.Bench.{Workbench, revisions_at, spare_at}
use Rattle.ror_bench.specs.Names.{statement_of, questions_of}
use Rattle.ror_bench.specs.Lines.{IsRefusedFor, IsTaken}
use Rattle.ror_bench.specs.declared.bench.Passed.{Passed}

-- ---- the body of a command

-- answers to the questions of a line, in order, each one that is allowed over what stands
pub record AreAnswers (allowing : Allowing) (t : DecisionTable) (list : List Statement)
    (questions : Result (List Question) LineFault) (xs : List Answer) : Type 0 where
  pub asked : List Question
  pub named : questions ≡ Ok asked
  pub each : AllZip (allowing.answer t list) asked xs

-- what comes of a revision that is taken
abbrev pub IsRevised : DecisionTable → Revisions → Command → Body → Type 0
IsRevised t r (State named) body = body ≡ Added (next_number r)
IsRevised t r (Withdraw n) body = body ≡ Withdrawn n
IsRevised t r (Replace n named) body = body ≡ Replaced n
IsRevised t r Undo body = body ≡ Undone
IsRevised t r _ body = ⊥

-- what comes of a command that is taken: a revision has one body, questions have their answers, and a repair is one of what
-- stands
abbrev pub IsOutcome : Allowing → DecisionTable → Revisions → Command → Body → Type 0
IsOutcome allowing t r (Ask asked) body = (body ≡ Answers (answers_of body))
    × AreAnswers allowing t (statements_of r) (questions_of t asked) (answers_of body)
IsOutcome allowing t r Repair body = allowing.repair t (standing r) body
IsOutcome allowing t r command body = IsRevised t r command body

-- the command is refused with the first test that it fails, or taken
pub data IsBodyOf (allowing : Allowing) (t : DecisionTable) (r : Revisions) (command : Command)
    (body : Body) : Type 0 where
  refused : (fault : LineFault) → IsRefusedFor t r command fault → body ≡ Refused fault
      → IsBodyOf allowing t r command body
  taken : IsTaken t r command → IsOutcome allowing t r command body
      → IsBodyOf allowing t r command body

-- the block has the line's number, and the body of its command
pub record IsBlockOf (allowing : Allowing) (t : DecisionTable) (r : Revisions) (line : Line)
    (block : Block) : Type 0 where
  pub number : block.line ≡ line.number
  pub body : IsBodyOf allowing t r line.command block.body

-- ---- its text

-- The block has a text, which is read back as it, and is what a printer takes: its answers are to valid questions of the
-- table, and no number of their certificates, or of those of its repair, is too wide for a report.
pub record HasText (t : DecisionTable) (block : Block) : Type 0 where
  pub printable : IsPrintableBlock t block
  pub valid : AllByRecursion (HasValidQuestion t) (answers_of block.body)
  pub narrow : AllByRecursion HasNarrowVerdict (answers_of block.body)
  pub repair : HasNarrowRepair block.body

-- ---- what the desk holds then

-- the statement that a command states, or puts in another's place
abbrev pub stated : DecisionTable → Command → Option Statement
stated t (State named) = result_ok (statement_of t named)
stated t (Replace n named) = result_ok (statement_of t named)
stated t _ = None

abbrev pub without_last : Revisions → Revisions
without_last r = record { opening = r.opening; surviving = take (length r.surviving - 1) r.surviving }

-- the revisions with one more, of a statement if there is one
abbrev pub with_stated : Revisions → (Statement → Revision) → Option Statement → Revisions
with_stated r make None = r
with_stated r make (Some s) = with_revision r (make s)

-- The surviving revisions after a line's body: it adds, withdraws or replaces, takes the last one back, withdraws all that a
-- repair drops in one revision, or changes nothing. A repair that drops nothing is a revision too, and one that is too wide
-- is none.
abbrev pub revisions_with : DecisionTable → Revisions → Command → Body → Revisions
revisions_with t r command (Added n) = with_stated r (addition n) (stated t command)
revisions_with t r command (Withdrawn n) = with_revision r (withdrawal (n ∷ []))
revisions_with t r command (Replaced n) = with_stated r (replacement n) (stated t command)
revisions_with t r command Undone = without_last r
revisions_with t r command (Repaired kept) = with_revision r (withdrawal (numbers_of kept.dropped))
revisions_with t r command (RepairWide number note) = r
revisions_with t r command (Answers xs) = r
revisions_with t r command (Refused fault) = r

-- the bench after a line and its block: the line's desk has its revisions with them, and all else is as before
abbrev pub with_block : Workbench → Line → Block → Workbench
with_block bench line block = record {
  table = bench.table;
  state = slice_set bench.state line.desk
      (revisions_with bench.table (revisions_at bench line.desk) line.command block.body);
  pivots = bench.pivots;
  spare = bench.spare;
}

-- ---- the room that a line takes

-- the command states, withdraws, replaces or undoes: it needs no search
abbrev pub NeedsNoSearch : Command → Type 0
NeedsNoSearch Repair = ⊥
NeedsNoSearch (Ask asked) = ⊥
NeedsNoSearch _ = Unit {0}

-- a revision takes the room of one at most, and a command that makes none takes none
abbrev pub most_room : Command → ℕ
most_room Undo = 0
most_room (Ask asked) = 0
most_room _ = 1

-- no desk has less room than it had, but for what the line takes at its own
pub record LeavesRoom (line : Line) (old new : Workbench) : Type 0 where
  pub here : spare_at old line.desk ≤ spare_at new line.desk + most_room line.command
  pub elsewhere : (desk : ℕ) → desk ≢ line.desk → spare_at old desk ≤ spare_at new desk

-- ---- blocks that are checked

-- the block is the one of the line and is proved, but that answers and repairs may be too wide
abbrev pub IsProvedBlock : DecisionTable → Revisions → Line → Block → Type 0
IsProvedBlock = IsBlockOf proved_unless_wide

-- how many answers have a proof, and how many are too wide
abbrev pub answers_passed : List Answer → Passed
answers_passed xs = record {
  answers = count_by (λ x. beq (is_wide x.verdict) false) xs;
  wide = count_by (λ x. beq (is_wide x.verdict) true) xs;
}

-- so many of a body: a repair that is too wide counts among them, and one with a proof doesn't
abbrev pub passed_of : Body → Passed
passed_of (RepairWide number note) = record { answers = 0; wide = 1 }
passed_of body = answers_passed (answers_of body)

-- an answer of the body is too wide, or its repair
abbrev pub is_wide_body : Body → Bool
is_wide_body (RepairWide number note) = true
is_wide_body body = list_any (λ x. is_wide x.verdict) (answers_of body)

abbrev pub has_wide : Block → Bool
has_wide block = is_wide_body block.body

-- no answer of the body is too wide, and neither is its repair
abbrev pub HasNothingWide : Body → Type 0
HasNothingWide (RepairWide number note) = ⊥
HasNothingWide body = AllByRecursion (λ x. is_wide x.verdict ≡ false) (answers_of body)

-- a repair of the body drops what a repair of these statements drops
abbrev pub IsTrueRepair : DecisionTable → List Numbered → Body → Type 0
IsTrueRepair t list (Repaired kept) = IsRepair t list (numbers_of kept.dropped)
IsTrueRepair t list _ = Unit {0}

-- each answer that isn't too wide is true of all compatible value functions, and so is what a repair drops
pub record IsTrueBlock (t : DecisionTable) (r : Revisions) (block : Block) : Type 0 where
  pub answers : AllByRecursion (λ x. IsWideOrTrue t (statements_of r) x.question x.verdict)
      (answers_of block.body)
  pub repair : IsTrueRepair t (standing r) block.body
