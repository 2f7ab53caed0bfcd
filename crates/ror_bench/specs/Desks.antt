-- What a desk's blocks depend on: the desk's own lines with their blocks, and nothing of other desks.
use Rattle.std.specs.Prelude.{◌≡◌, ℕ, ◌↔◌, ◌⊎◌, ◌==◌, slice_get, if◌then◌else◌, List, [], ◌∷◌, ◌++◌, length, map, take, Option, Some, None, Ok}
use Rattle.std.specs.List.{AllByRecursion, AllZip, filter}
use Rattle.ror_statement.specs.declared.statement.Statement.{Statement}
use Rattle.ror_statement.specs.declared.statement.Numbered.{Numbered}
use Rattle.ror_statement.specs.declared.question.Question.{Question}
use Rattle.ror_statement.specs.declared.question.Conclusion.{Conclusion}
use Rattle.ror_statement.specs.declared.question.Conclusion.TheVariants as conclusions
use Rattle.ror_table.specs.Table.{DecisionTable}
use Rattle.ror_session.specs.declared.session.Line.{Line}
use Rattle.ror_session.specs.declared.session.Command.{Command}
use Rattle.ror_session.specs.declared.session.Command.TheVariants.{Repair, Ask}
use Rattle.ror_system.specs.System.{LinearSystem}
use Rattle.ror_proof.specs.declared.answer.WideText.{WideText}
use Rattle.ror_proof.specs.declared.answer.Verdict.{Verdict}
use Rattle.ror_proof.specs.declared.answer.Verdict.TheVariants as verdicts
use Rattle.ror_proof.specs.declared.answer.Answer.{Answer}
use Rattle.ror_proof.specs.declared.kept.Kept.{Kept}
use Rattle.ror_check.specs.Proof.{base_system, question_systems_of}
use Rattle.ror_check.specs.Repair.{numbers_of, kept_with, IsRepair}
use Rattle.ror_given.specs.Notes.{HasNoteAt}
use Rattle.ror_given.specs.Answers.{IsGiven}
use Rattle.ror_report.specs.declared.block.Block.{Block}
use Rattle.ror_report.specs.declared.block.Body.{Body}
use Rattle.ror_report.specs.declared.block.Body.TheVariants as bodies
use Rattle.ror_history.specs.History.{Revisions, standing, statements_of}
use Rattle.ror_bench.specs.Allowed.{Allowing, given_at, proved_unless_wide, IsRepairAt}
use Rattle.ror_bench.specs.Bench.{Workbench, revisions_at, IsLawfulThroughout}
use Rattle.ror_bench.specs.Names.{questions_of}
use Rattle.ror_bench.specs.Blocks.{IsBodyOf, IsBlockOf, IsProvedBlock}
use Rattle.ror_bench.specs.Reports.{EachHolds, at_desk, revisions_then}

-- a block for each line, in order
abbrev pub with_blocks : List Line → List Block → List (Line × Block)
with_blocks [] blocks = []
with_blocks (line ∷ lines) [] = []
with_blocks (line ∷ lines) (block ∷ blocks) = (line, block) ∷ with_blocks lines blocks

-- the commands at a desk with the bodies of their blocks, in order
abbrev pub said_at : ℕ → List Line → List Block → List (Command × Body)
said_at desk lines blocks =
    map (λ x. (x.0.command, x.1.body)) (at_desk desk (with_blocks lines blocks))

-- each turn of a desk, in order: what the desk holds then, the command, and the body of its block
abbrev pub turns_at : Workbench → ℕ → List (Line × Block) → List Line → List Block
    → List (Revisions × Command × Body)
turns_at bench desk before (line ∷ lines) (block ∷ blocks) =
    if line.desk == desk
    then (revisions_then bench before desk, line.command, block.body)
    ∷ turns_at bench desk (before ++ (line, block) ∷ []) lines blocks
    else turns_at bench desk (before ++ (line, block) ∷ []) lines blocks
turns_at bench desk before _ _ = []

-- Two sessions in which the same is said at a desk of the one and at a desk of the other, in whatever interleaving, over desks
-- that begin alike: the turns there are the same, so what is to be asked of a block there is the same.
abbrev pub DesksStandApart : Type 0
DesksStandApart = (one other : Workbench) (desk_one desk_other : ℕ)
    (lines_one lines_other : List Line) (blocks_one blocks_other : List Block)
    → one.table ≡ other.table → revisions_at one desk_one ≡ revisions_at other desk_other
    → said_at desk_one lines_one blocks_one ≡ said_at desk_other lines_other blocks_other
    → turns_at one desk_one [] lines_one blocks_one
    ≡ turns_at other desk_other [] lines_other blocks_other

-- the body at a turn is the one of its command, with answers and repairs that are allowed
abbrev pub IsTurnOf : Allowing → DecisionTable → Revisions × Command × Body → Type 0
IsTurnOf allowing t turn = IsBodyOf allowing t turn.0 turn.1 turn.2

-- blocks are those of the lines exactly where there is one for each line, with the line's number, and each turn of each desk
-- has the body of its command
abbrev pub AreDeskByDesk : Allowing → Type 0
AreDeskByDesk allowing = (bench : Workbench) (lines : List Line) (blocks : List Block)
    → EachHolds (IsBlockOf allowing bench.table) bench [] lines blocks
    ↔ (AllZip (λ line block. block.line ≡ line.number) lines blocks × ((desk : ℕ)
    → AllByRecursion (IsTurnOf allowing bench.table) (turns_at bench desk [] lines blocks)))

-- so are blocks that are proved but for what is too wide, and blocks that a replay may give at a width
abbrev pub ProvedDeskByDesk : Type 0
ProvedDeskByDesk = AreDeskByDesk proved_unless_wide

abbrev pub GivenDeskByDesk : Type 0
GivenDeskByDesk = (most : ℕ) → AreDeskByDesk (given_at most)

-- ---- what the commands alone settle

-- the commands of the lines at a desk, in order
abbrev pub commands_at : ℕ → List Line → List Command
commands_at desk lines = map (λ line. line.command) (filter (λ line. line.desk == desk) lines)

-- the bodies of the blocks of the lines at a desk, in order
abbrev pub bodies_at : ℕ → List Line → List Block → List Body
bodies_at desk lines blocks = map (λ x. x.1.body) (at_desk desk (with_blocks lines blocks))

-- what a verdict concludes: nothing if it is too wide
abbrev pub conclusion_of : Verdict → Option Conclusion
conclusion_of (verdicts.Yes proof) = Some conclusions.Yes
conclusion_of (verdicts.No proof) = Some conclusions.No
conclusion_of (verdicts.Contradiction proof) = Some conclusions.Contradiction
conclusion_of (verdicts.Wide system note) = None

-- two answers are to one question, and where neither is too wide they conclude the same; their proofs may differ
pub record ConcludesAs (x y : Answer) : Type 0 where
  pub question : x.question ≡ y.question
  pub conclusion : (c d : Conclusion) → conclusion_of x.verdict ≡ Some c
      → conclusion_of y.verdict ≡ Some d → c ≡ d

-- answers agree one by one, repairs in what they drop, two that are too wide whatever they name, and any other body only with
-- itself: the same number, or the same refusal
abbrev pub AgreesWith : Body → Body → Type 0
AgreesWith (bodies.Answers xs) (bodies.Answers ys) = AllZip ConcludesAs xs ys
AgreesWith (bodies.Repaired x) (bodies.Repaired y) = numbers_of x.dropped ≡ numbers_of y.dropped
AgreesWith (bodies.RepairWide m note) (bodies.RepairWide n other) = Unit {0}
AgreesWith body other = body ≡ other

-- one repair is too wide and the other isn't: what stands then differs
abbrev pub RepairsApart : Body → Body → Type 0
RepairsApart (bodies.Repaired x) (bodies.RepairWide n note) = Unit {0}
RepairsApart (bodies.RepairWide n note) (bodies.Repaired x) = Unit {0}
RepairsApart body other = ⊥

-- there are as many bodies in both lists, and they agree one by one, as far as the first place at which one repair is too wide
-- and the other isn't
abbrev pub AgreeInTurn : List Body → List Body → Type 0
AgreeInTurn [] [] = Unit {0}
AgreeInTurn (x ∷ xs) (y ∷ ys) = (length xs ≡ length ys)
    × (RepairsApart x y ⊎ (AgreesWith x y × AgreeInTurn xs ys))
AgreeInTurn _ _ = ⊥

-- Two sessions with the same commands at a desk of the one and at a desk of the other, in whatever interleaving, over desks
-- that begin alike and lawfully: where all blocks are proved but for what is too wide, the bodies there are as many and agree
-- in turn.
abbrev pub DesksAgree : Type 0
DesksAgree = (one other : Workbench) (desk_one desk_other : ℕ) (lines_one lines_other : List Line)
    (blocks_one blocks_other : List Block)
    → IsLawfulThroughout one.table (revisions_at one desk_one) → one.table ≡ other.table
    → revisions_at one desk_one ≡ revisions_at other desk_other
    → commands_at desk_one lines_one ≡ commands_at desk_other lines_other
    → EachHolds (IsProvedBlock one.table) one [] lines_one blocks_one
    → EachHolds (IsProvedBlock other.table) other [] lines_other blocks_other
    → AgreeInTurn (bodies_at desk_one lines_one blocks_one)
    (bodies_at desk_other lines_other blocks_other)

-- the system of the statements alone, or one of the question's
abbrev pub IsSystemFor : DecisionTable → List Statement → Question → LinearSystem → Type 0
IsSystemFor t list q s = (s ≡ base_system t list)
    ⊎ ((place : ℕ) × (slice_get (question_systems_of t list q) place ≡ Some s))

-- no number on the path of any such system passes the width
abbrev pub IsNarrowQuestion : ℕ → DecisionTable → List Statement → Question → Type 0
IsNarrowQuestion most t list q = (s : LinearSystem) (note : WideText) → IsSystemFor t list q s
    → HasNoteAt most s note → ⊥

-- and none on the path of the system of a statement and of those that a repair of the statements before it keeps
abbrev pub IsNarrowRepair : ℕ → DecisionTable → List Numbered → Type 0
IsNarrowRepair most t list = (place : ℕ) (statement : Numbered) (dropped : List ℕ) (note : WideText)
    → slice_get list place ≡ Some statement → IsRepair t (take place list) dropped
    → HasNoteAt most (base_system t (kept_with dropped list place statement)) note → ⊥

-- An answer that may be given at a width concludes something where no number on the path of a system for its question passes
-- it. So desks that agree then agree in every conclusion.
abbrev pub NarrowConcludes : Type 0
NarrowConcludes = (most : ℕ) (t : DecisionTable) (list : List Statement) (q : Question) (x : Answer)
    → IsGiven most t list q x → IsNarrowQuestion most t list q
    → (c : Conclusion) × (conclusion_of x.verdict ≡ Some c)

-- So does a repair that may be given at a width, where no number on the path of a system of a repair passes it.
abbrev pub NarrowRepairs : Type 0
NarrowRepairs = (most : ℕ) (t : DecisionTable) (list : List Numbered) (body : Body)
    → IsRepairAt most t list body → IsNarrowRepair most t list
    → (kept : Kept) × (body ≡ bodies.Repaired kept)

-- no number on the path of a system for what a command asks or repairs passes the width
abbrev pub IsNarrowCommand : ℕ → DecisionTable → Revisions → Command → Type 0
IsNarrowCommand most t r (Ask asked) = (questions : List Question)
    → questions_of t asked ≡ Ok questions
    → AllByRecursion (IsNarrowQuestion most t (statements_of r)) questions
IsNarrowCommand most t r Repair = IsNarrowRepair most t (standing r)
IsNarrowCommand most t r _ = Unit {0}

-- two answers are to one question and conclude the same; their proofs may differ
pub record ConcludesTheSame (x y : Answer) : Type 0 where
  pub question : x.question ≡ y.question
  pub conclusion : Conclusion
  pub concluded : conclusion_of x.verdict ≡ Some conclusion
  pub likewise : conclusion_of y.verdict ≡ Some conclusion

-- answers conclude the same one by one, repairs drop the same, and any other body only goes with itself: the same number, or
-- the same refusal. A repair that is too wide goes with none.
abbrev pub SaysTheSame : Body → Body → Type 0
SaysTheSame (bodies.Answers xs) (bodies.Answers ys) = AllZip ConcludesTheSame xs ys
SaysTheSame (bodies.Repaired x) (bodies.Repaired y) = numbers_of x.dropped ≡ numbers_of y.dropped
SaysTheSame (bodies.RepairWide n note) other = ⊥
SaysTheSame body other = body ≡ other

-- Two sessions with the same commands at a desk of the one and at a desk of the other, in whatever interleaving, over desks
-- that begin alike and lawfully, whose blocks may be given at a width that no number on a path at that desk passes: the bodies
-- there are as many, and have one by one the same refusals, numbers, verdicts and dropped numbers.
abbrev pub NarrowDesksAgree : Type 0
NarrowDesksAgree = (most : ℕ) (one other : Workbench) (desk_one desk_other : ℕ)
    (lines_one lines_other : List Line) (blocks_one blocks_other : List Block)
    → IsLawfulThroughout one.table (revisions_at one desk_one) → one.table ≡ other.table
    → revisions_at one desk_one ≡ revisions_at other desk_other
    → commands_at desk_one lines_one ≡ commands_at desk_other lines_other
    → EachHolds (IsBlockOf (given_at most) one.table) one [] lines_one blocks_one
    → EachHolds (IsBlockOf (given_at most) other.table) other [] lines_other blocks_other
    → AllByRecursion (λ turn. IsNarrowCommand most one.table turn.0 turn.1)
    (turns_at one desk_one [] lines_one blocks_one)
    → AllZip SaysTheSame (bodies_at desk_one lines_one blocks_one)
    (bodies_at desk_other lines_other blocks_other)
