-- That blocks which may be given at a width are proved, and accepted where nothing of them is too wide.
use Rattle.std.proofs.Common.{◌≡◌, ℕ, Bool, true, false, List, [], ◌∷◌, ◌++◌, refl, ap, subst, arith}
use Rattle.std.specs.Prelude.{cond}
use Rattle.std.specs.Bool.{beq}
use Rattle.std.specs.List.{AllByRecursion, AllZip, count_by}
use Rattle.ror_statement.specs.declared.statement.Statement.{Statement}
use Rattle.ror_statement.specs.declared.statement.Numbered.{Numbered}
use Rattle.ror_statement.specs.declared.question.Question.{Question}
use Rattle.ror_table.specs.Table.{DecisionTable}
use Rattle.ror_session.specs.declared.session.Line.{Line}
use Rattle.ror_session.specs.declared.session.Command.{Command}
use Rattle.ror_session.specs.declared.session.Command.TheVariants.{State, Withdraw, Replace, Repair, Undo, Ask}
use Rattle.ror_proof.specs.declared.answer.Answer.{Answer}
use Rattle.ror_check.specs.Proof.{IsProvedAnswer, is_wide}
use Rattle.ror_check.proofs.ManyAnswers.{proved_unless_wide as answer_unless_wide}
use Rattle.ror_report.specs.declared.block.Block.{Block}
use Rattle.ror_report.specs.declared.block.Body.{Body}
use Rattle.ror_report.specs.declared.block.Body.TheVariants as bodies
use Rattle.ror_report.specs.Text.{report_text, answers_of}
use Rattle.ror_history.specs.History.{Revisions, standing, statements_of}
use Rattle.ror_bench.specs.Allowed.{IsProvedUnlessWide, IsRepairProvedUnlessWide, IsRepairProved, given_at, proved_unless_wide, proved}
use Rattle.ror_bench.specs.Bench.{Workbench}
use Rattle.ror_bench.specs.Blocks.{IsBodyOf, refused, taken, IsBlockOf, IsProvedBlock, HasNothingWide, passed_of}
use Rattle.ror_bench.specs.Reports.{EachHolds, revisions_then, IsProvedReport, accepted_of}
use Rattle.ror_bench.specs.Laws.{GivenAreProved}
use Rattle.ror_bench.proofs.ReplayLemmas.{block_proved, each_by}
use Rattle.ror_bench.proofs.ReportProofs.{sums, rejected_not_proved}
use Rattle.ror_bench.proofs.Truth.{report_true}

-- ---- nothing that is too wide

abbrev Concludes : Answer → Type 0
Concludes x = is_wide x.verdict ≡ false

answers_whole : (t : DecisionTable) (list : List Statement) (qs : List Question) (xs : List Answer) → AllByRecursion Concludes xs → AllZip (IsProvedUnlessWide t list) qs xs → AllZip (IsProvedAnswer t list) qs xs
answers_whole t list [] [] narrow all = tt
answers_whole t list [] (x ∷ xs) narrow all = absurd all
answers_whole t list (q ∷ qs) [] narrow all = absurd all
answers_whole t list (q ∷ qs) (x ∷ xs) narrow all =
    (record { question = all.0.question; proof = answer_unless_wide t list q x.verdict narrow.0 all.0.proof }, answers_whole t list qs xs narrow.1 all.1)

repair_whole : (t : DecisionTable) (list : List Numbered) (body : Body) → HasNothingWide body → IsRepairProvedUnlessWide t list body → IsRepairProved t list body
repair_whole t list (bodies.Repaired kept) narrow h = h
repair_whole t list (bodies.RepairWide n note) narrow h = absurd narrow
repair_whole t list (bodies.Added n) narrow h = absurd h
repair_whole t list (bodies.Withdrawn n) narrow h = absurd h
repair_whole t list (bodies.Replaced n) narrow h = absurd h
repair_whole t list bodies.Undone narrow h = absurd h
repair_whole t list (bodies.Answers xs) narrow h = absurd h
repair_whole t list (bodies.Refused fault) narrow h = absurd h

body_whole : (t : DecisionTable) (r : Revisions) (command : Command) (body : Body) → HasNothingWide body → IsBodyOf proved_unless_wide t r command body → IsBodyOf proved t r command body
body_whole t r command body narrow (refused fault first is) = refused fault first is
body_whole t r (State named) body narrow (taken passes is) = taken passes is
body_whole t r (Withdraw n) body narrow (taken passes is) = taken passes is
body_whole t r (Replace n named) body narrow (taken passes is) = taken passes is
body_whole t r Repair body narrow (taken passes is) = taken passes (repair_whole t (standing r) body narrow is)
body_whole t r Undo body narrow (taken passes is) = taken passes is
body_whole t r (Ask asked) body narrow (taken passes is) =
    let concludes : AllByRecursion Concludes (answers_of body) = subst HasNothingWide is.0 narrow in
    taken passes (is.0, record { asked = is.1.asked; named = is.1.named; each = answers_whole t (statements_of r) is.1.asked (answers_of body) concludes is.1.each })

each_whole : (bench : Workbench) (before : List (Line × Block)) (lines : List Line) (blocks : List Block) → AllByRecursion (λ (block : Block). HasNothingWide block.body) blocks → EachHolds (IsProvedBlock bench.table) bench before lines blocks → EachHolds (IsBlockOf proved bench.table) bench before lines blocks
each_whole bench before [] [] narrow h = tt
each_whole bench before [] (block ∷ blocks) narrow h = absurd h
each_whole bench before (line ∷ lines) [] narrow h = absurd h
each_whole bench before (line ∷ lines) (block ∷ blocks) narrow h = (
  record { number = h.0.number; body = body_whole bench.table (revisions_then bench before line.desk) line.command block.body narrow.0 h.0.body },
  each_whole bench (before ++ (line, block) ∷ []) lines blocks narrow.1 h.1,
)

-- and nothing counts as that
none_counted : (xs : List Answer) → AllByRecursion Concludes xs → count_by (λ x. beq (is_wide x.verdict) true) xs ≡ 0
none_counted [] narrow = refl
none_counted (x ∷ xs) narrow =
    let counts : Bool → ℕ = λ b. cond (beq b true) 1 0 in
    let here : counts (is_wide x.verdict) ≡ counts false = ap counts narrow.0 in
    let rest = none_counted xs narrow.1 in
    let some = sums (λ (x : Answer). cond (beq (is_wide x.verdict) true) 1 0) x xs in
    omega (arith, some, here, rest)

body_counts_none : (body : Body) → HasNothingWide body → (passed_of body).wide ≡ 0
body_counts_none (bodies.RepairWide n note) narrow = absurd narrow
body_counts_none (bodies.Answers xs) narrow = none_counted xs narrow
body_counts_none (bodies.Repaired kept) narrow = refl
body_counts_none (bodies.Added n) narrow = refl
body_counts_none (bodies.Withdrawn n) narrow = refl
body_counts_none (bodies.Replaced n) narrow = refl
body_counts_none bodies.Undone narrow = refl
body_counts_none (bodies.Refused fault) narrow = refl

none_wide : (blocks : List Block) → AllByRecursion (λ (block : Block). HasNothingWide block.body) blocks → (accepted_of blocks).wide ≡ 0
none_wide [] narrow = refl
none_wide (b ∷ bs) narrow =
    let here = body_counts_none b.body narrow.0 in
    let rest = none_wide bs narrow.1 in
    let some = sums (λ (b : Block). (passed_of b.body).wide) b bs in
    omega (arith, some, here, rest)

-- ---- given blocks

pub given_proved : GivenAreProved
given_proved most bench lines blocks made =
    let each : EachHolds (IsProvedBlock bench.table) bench [] lines blocks =
    each_by (IsBlockOf (given_at most) bench.table) (IsProvedBlock bench.table) (λ r line block of. block_proved most bench.table r line block of) bench [] lines blocks made.given in
    let report : IsProvedReport bench lines (report_text bench.table blocks) (accepted_of blocks) = record { blocks = blocks; text = refl; printable = made.printable; proved = each; counted = refl } in (
      record { proved = each; report = report; the_same = refl },
      λ table lawful narrow. record {
        proved_whole = each_whole bench [] lines blocks narrow each;
        accepted = record { proved = report; blocks_true = report_true bench lines (report_text bench.table blocks) (accepted_of blocks) lawful report };
        nothing_wide = none_wide blocks narrow;
        not_rejected = λ short rejection rejected. rejected_not_proved bench lines (report_text bench.table blocks) rejection (accepted_of blocks) table short rejected report;
      },
    )
