-- That a report that is given at a width is proved but for what is too wide.
use Rattle.std.proofs.Common.{ℕ, List, [], ◌∷◌, ◌++◌}
use Rattle.std.specs.List.{AllZip}
use Rattle.ror_statement.specs.declared.statement.Statement.{Statement}
use Rattle.ror_statement.specs.declared.statement.Numbered.{Numbered}
use Rattle.ror_statement.specs.declared.question.Question.{Question}
use Rattle.ror_table.specs.Table.{DecisionTable}
use Rattle.ror_session.specs.declared.session.Line.{Line}
use Rattle.ror_session.specs.declared.session.Command.{Command}
use Rattle.ror_session.specs.declared.session.Command.TheVariants.{State, Withdraw, Replace, Repair, Undo, Ask}
use Rattle.ror_proof.specs.declared.answer.Answer.{Answer}
use Rattle.ror_proof.specs.declared.answer.Verdict.{Verdict}
use Rattle.ror_proof.specs.declared.answer.Verdict.TheVariants as verdicts
use Rattle.ror_check.specs.Proof.{IsAllowedVerdict, IsWideOrProved}
use Rattle.ror_given.specs.Notes.{HasNoteAt}
use Rattle.ror_given.specs.Answers.{IsGiven}
use Rattle.ror_report.specs.declared.block.Block.{Block}
use Rattle.ror_report.specs.declared.block.Body.{Body}
use Rattle.ror_report.specs.declared.block.Body.TheVariants as bodies
use Rattle.ror_report.specs.Text.{answers_of}
use Rattle.ror_history.specs.History.{Revisions, standing, statements_of}
use Rattle.ror_bench.specs.Allowed.{Allowing, IsProvedUnlessWide, IsRepairAt, IsRepairProvedUnlessWide, given_at, proved_unless_wide}
use Rattle.ror_bench.specs.Bench.{Workbench}
use Rattle.ror_bench.specs.Blocks.{IsBodyOf, refused, taken, IsBlockOf, IsProvedBlock}
use Rattle.ror_bench.specs.Reports.{EachHolds, revisions_then}
use Rattle.ror_bench.specs.Laws.{ReplayedIsProved}

verdict_unless_wide : (most : ℕ) (t : DecisionTable) (list : List Statement) (q : Question) (v : Verdict) → IsAllowedVerdict (HasNoteAt most) t list q v → IsWideOrProved t list q v
verdict_unless_wide most t list q (verdicts.Yes proof) h = h
verdict_unless_wide most t list q (verdicts.No proof) h = h
verdict_unless_wide most t list q (verdicts.Contradiction proof) h = h
verdict_unless_wide most t list q (verdicts.Wide system note) h = tt

pub given_unless_wide : (most : ℕ) (t : DecisionTable) (list : List Statement) (q : Question) (x : Answer) → IsGiven most t list q x → IsProvedUnlessWide t list q x
given_unless_wide most t list q x given = record { question = given.allowed.question; proof = verdict_unless_wide most t list q x.verdict given.allowed.verdict }

repair_unless_wide : (most : ℕ) (t : DecisionTable) (list : List Numbered) (body : Body) → IsRepairAt most t list body → IsRepairProvedUnlessWide t list body
repair_unless_wide most t list (bodies.Repaired kept) h = h.0.proved
repair_unless_wide most t list (bodies.RepairWide n note) h = tt
repair_unless_wide most t list (bodies.Added n) h = absurd h
repair_unless_wide most t list (bodies.Withdrawn n) h = absurd h
repair_unless_wide most t list (bodies.Replaced n) h = absurd h
repair_unless_wide most t list bodies.Undone h = absurd h
repair_unless_wide most t list (bodies.Answers xs) h = absurd h
repair_unless_wide most t list (bodies.Refused fault) h = absurd h

zip_by : (H K : DecisionTable → List Statement → Question → Answer → Type 0) (t : DecisionTable) (list : List Statement) → ((q : Question) (x : Answer) → H t list q x → K t list q x) → (qs : List Question) (xs : List Answer) → AllZip (H t list) qs xs → AllZip (K t list) qs xs
zip_by H K t list by [] [] all = tt
zip_by H K t list by [] (x ∷ xs) all = absurd all
zip_by H K t list by (q ∷ qs) [] all = absurd all
zip_by H K t list by (q ∷ qs) (x ∷ xs) all = (by q x all.0, zip_by H K t list by qs xs all.1)

-- where what is allowed in one way is allowed in the other, so is a body
pub body_by : (H K : Allowing) (t : DecisionTable) (r : Revisions) → ((q : Question) (x : Answer) → H.answer t (statements_of r) q x → K.answer t (statements_of r) q x) → ((body : Body) → H.repair t (standing r) body → K.repair t (standing r) body) → (command : Command) (body : Body) → IsBodyOf H t r command body → IsBodyOf K t r command body
body_by H K t r by repairs command body (refused fault first is) = refused fault first is
body_by H K t r by repairs (State named) body (taken passes is) = taken passes is
body_by H K t r by repairs (Withdraw n) body (taken passes is) = taken passes is
body_by H K t r by repairs (Replace n named) body (taken passes is) = taken passes is
body_by H K t r by repairs Repair body (taken passes is) = taken passes (repairs body is)
body_by H K t r by repairs Undo body (taken passes is) = taken passes is
body_by H K t r by repairs (Ask asked) body (taken passes is) = taken passes (is.0, record { asked = is.1.asked; named = is.1.named; each = zip_by H.answer K.answer t (statements_of r) by is.1.asked (answers_of body) is.1.each })

pub block_proved : (most : ℕ) (t : DecisionTable) (r : Revisions) (line : Line) (block : Block) → IsBlockOf (given_at most) t r line block → IsProvedBlock t r line block
block_proved most t r line block of = record {
  number = of.number;
  body = body_by (given_at most) proved_unless_wide t r (λ q x given. given_unless_wide most t (statements_of r) q x given) (λ body given. repair_unless_wide most t (standing r) body given) line.command block.body of.body;
}

pub each_by : (P Q : Revisions → Line → Block → Type 0) → ((r : Revisions) (line : Line) (block : Block) → P r line block → Q r line block) → (bench : Workbench) (before : List (Line × Block)) (lines : List Line) (blocks : List Block) → EachHolds P bench before lines blocks → EachHolds Q bench before lines blocks
each_by P Q by bench before [] [] h = tt
each_by P Q by bench before [] (block ∷ blocks) h = absurd h
each_by P Q by bench before (line ∷ lines) [] h = absurd h
each_by P Q by bench before (line ∷ lines) (block ∷ blocks) h = (by (revisions_then bench before line.desk) line block h.0, each_by P Q by bench (before ++ (line, block) ∷ []) lines blocks h.1)

pub replayed_proved : ReplayedIsProved
replayed_proved most bench lines bytes x report = record {
  blocks = report.blocks;
  text = report.text;
  printable = report.made.printable;
  proved = each_by (IsBlockOf (given_at most) bench.table) (IsProvedBlock bench.table) (λ r line block of. block_proved most bench.table r line block of) bench [] lines report.blocks report.made.given;
  counted = report.counted;
}
