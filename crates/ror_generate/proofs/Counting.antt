-- What is counted of the blocks of a report: as many answers are accepted as have a verdict.
use Rattle.std.proofs.Common.{append-nil, ◌≡◌, ◌≢◌, ℕ, ◌+◌, Bool, true, false, List, [], ◌∷◌, ◌++◌, refl, ap, ◌∙◌, arith}
use Rattle.std.specs.Prelude.{cond}
use Rattle.std.specs.Bool.{beq}
use Rattle.std.specs.List.{AllByRecursion}
use Rattle.std.proofs.lemmas.List.Sums.{sum_by-append, sum_by-cons}
use Rattle.std.proofs.lemmas.List.Concat.{flat_map-append}
use Rattle.ror_proof.specs.declared.answer.Verdict.{Verdict}
use Rattle.ror_proof.specs.declared.answer.Answer.{Answer}
use Rattle.ror_check.specs.Proof.{is_wide}
use Rattle.ror_table.specs.Table.{DecisionTable}
use Rattle.ror_session.specs.declared.session.Command.{Command}
use Rattle.ror_session.specs.declared.session.Command.TheVariants as commands
use Rattle.ror_session.specs.declared.session.Line.{Line}
use Rattle.ror_report.specs.declared.block.Block.{Block}
use Rattle.ror_report.specs.declared.block.Body.{Body}
use Rattle.ror_report.specs.declared.block.Body.TheVariants as bodies
use Rattle.ror_report.specs.Text.{answers_of}
use Rattle.ror_history.specs.History.{Revisions}
use Rattle.ror_bench.specs.Allowed.{Allowing}
use Rattle.ror_bench.specs.Bench.{Workbench, HoldTheSame}
use Rattle.ror_bench.specs.Blocks.{IsBlockOf, IsBodyOf, refused, taken, answers_passed, passed_of, with_block}
use Rattle.ror_bench.specs.Reports.{EachHolds, accepted_of}
use Rattle.ror_bench.specs.declared.report.Accepted.{Accepted}
use Rattle.ror_bench.specs.Steps.{with_passed}
use Rattle.ror_bench.specs.declared.bench.Passed.{Passed}
use Rattle.ror_bench.specs.declared.bench.BlockFault.{BlockFault}
use Rattle.ror_bench.specs.declared.bench.BlockFault.TheVariants as faults
use Rattle.ror_generate.specs.declared.summary.VerdictKind.TheVariants as kinds
use Rattle.ror_generate.specs.Generating.{is_kind, verdicts_of, answers_in, accepted_by}

same_counts : (x y : Accepted) → x.answers ≡ y.answers → x.wide ≡ y.wide → x ≡ y
same_counts x y p q = ap (λ n. record { answers = n; wide = x.wide }) p ∙ ap (λ n. record { answers = y.answers; wide = n }) q

-- ---- one block more

pub answers_more : (blocks : List Block) (block : Block) → answers_in (blocks ++ block ∷ []) ≡ answers_in blocks ++ answers_of block.body
answers_more blocks block = flat_map-append (λ (b : Block). answers_of b.body) blocks (block ∷ []) ∙ ap (λ xs. answers_in blocks ++ xs) (append-nil (answers_of block.body))

pub accepted_more : (blocks : List Block) (block : Block) → with_passed (accepted_of blocks) (passed_of block.body) ≡ accepted_of (blocks ++ block ∷ [])
accepted_more blocks block =
    same_counts (with_passed (accepted_of blocks) (passed_of block.body)) (accepted_of (blocks ++ block ∷ []))
    (omega (arith, sum_by-append (λ (b : Block). (passed_of b.body).answers) blocks (block ∷ [])))
    (omega (arith, sum_by-append (λ (b : Block). (passed_of b.body).wide) blocks (block ∷ [])))

-- a block that was made at one bench leaves another, which checked it and held the same, as that one
pub checked_alike : (bench checks moved checked : Workbench) (line : Line) (block : Block) → HoldTheSame checks bench → HoldTheSame checked (with_block checks line block) → HoldTheSame moved (with_block bench line block) → HoldTheSame checked moved
checked_alike bench checks moved checked line block same is moves = (cc, cc)

-- ---- all blocks

-- the line asks for no repair
abbrev pub IsNoRepair : Line → Type 0
IsNoRepair line = line.command ≢ commands.Repair

-- the block of a line that asks for no repair has none that is too wide
no_wide_repair : (allowing : Allowing) (t : DecisionTable) (r : Revisions) (command : Command) (body : Body) → command ≢ commands.Repair → IsBodyOf allowing t r command body → passed_of body ≡ answers_passed (answers_of body)
no_wide_repair allowing t r command (bodies.RepairWide n note) other (refused fault why body) = absurd cc
no_wide_repair allowing t r commands.Repair (bodies.RepairWide n note) other (taken may outcome) = absurd (other refl)
no_wide_repair allowing t r (commands.Ask asked) (bodies.RepairWide n note) other (taken may outcome) = absurd (let e = outcome.0 in cc)
no_wide_repair allowing t r command (bodies.RepairWide n note) other (taken may outcome) = absurd (let e = outcome in cc)
no_wide_repair allowing t r command body other is = refl

-- what is counted block by block is what is counted of all answers
of_blocks : (allowing : Allowing) (t : DecisionTable) (bench : Workbench) (before : List (Line × Block)) (lines : List Line) (blocks : List Block) → AllByRecursion IsNoRepair lines → EachHolds (IsBlockOf allowing t) bench before lines blocks
    → ((accepted_of blocks).answers ≡ (answers_passed (answers_in blocks)).answers) × ((accepted_of blocks).wide ≡ (answers_passed (answers_in blocks)).wide)
of_blocks allowing t bench before [] [] none each = (refl, refl)
of_blocks allowing t bench before [] (b ∷ bs) none each = absurd each
of_blocks allowing t bench before (line ∷ lines) [] none each = absurd each
of_blocks allowing t bench before (line ∷ lines) (b ∷ bs) none each =
    let here = no_wide_repair allowing t _ line.command b.body none.0 each.0.body in
    let rest = of_blocks allowing t bench (before ++ (line, b) ∷ []) lines bs none.1 each.1 in
    let both = λ (k : Bool). sum_by-append (λ (x : Answer). cond (beq (is_wide x.verdict) k) 1 0) (answers_of b.body) (answers_in bs) in
    let answers = ap (λ (p : Passed). p.answers) here in
    let wide = ap (λ (p : Passed). p.wide) here in
    (omega (arith, sum_by-cons (λ (b : Block). (passed_of b.body).answers) b bs, both false, rest.0), omega (arith, sum_by-cons (λ (b : Block). (passed_of b.body).wide) b bs, both true, rest.1))

-- each answer has one verdict
one_kind : (v : Verdict) → (cond {A = ℕ} (beq (is_wide v) false) 1 0 ≡ cond (is_kind kinds.Yes v) 1 0 + cond (is_kind kinds.No v) 1 0 + cond (is_kind kinds.Contradiction v) 1 0) × (cond {A = ℕ} (beq (is_wide v) true) 1 0 ≡ cond (is_kind kinds.Wide v) 1 0)
one_kind v = (grind arith, grind arith)

kinds_are : (xs : List Answer) → ((answers_passed xs).answers ≡ (accepted_by (verdicts_of xs)).answers) × ((answers_passed xs).wide ≡ (verdicts_of xs).wide)
kinds_are [] = (refl, refl)
kinds_are (x ∷ xs) =
    let of = λ (p : Verdict → Bool). sum_by-cons (λ (x : Answer). cond (p x.verdict) 1 0) x xs in
    let one = one_kind x.verdict in
    let rest = kinds_are xs in
    (omega (arith, of (λ v. beq (is_wide v) false), of (is_kind kinds.Yes), of (is_kind kinds.No), of (is_kind kinds.Contradiction)), omega (arith, of (λ v. beq (is_wide v) true), of (is_kind kinds.Wide)))

-- as many answers are accepted as have a verdict
pub accepted_are : (allowing : Allowing) (t : DecisionTable) (bench : Workbench) (lines : List Line) (blocks : List Block) → AllByRecursion IsNoRepair lines → EachHolds (IsBlockOf allowing t) bench [] lines blocks → accepted_of blocks ≡ accepted_by (verdicts_of (answers_in blocks))
accepted_are allowing t bench lines blocks none each =
    let sums = of_blocks allowing t bench [] lines blocks none each in
    let kinds = kinds_are (answers_in blocks) in
    same_counts _ (accepted_by (verdicts_of (answers_in blocks))) (sums.0 ∙ kinds.0) (sums.1 ∙ kinds.1)

-- ---- no other fault than want of memory comes where the second bench is as the first

pub only_memory : (e : BlockFault) → (e ≢ faults.Memory → ⊥) → e ≡ faults.Memory
only_memory faults.Memory other = refl
only_memory e other = absurd (other (λ is. cc))
