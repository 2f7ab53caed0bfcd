-- That what is proved is true: of a report, since what stands stays lawful.
use Rattle.std.proofs.Common.{◌≡◌, ◌≢◌, ◌⊎◌, inl, inr, ℕ, zero, suc, List, [], ◌∷◌, ◌++◌, Result, Ok, Err, sym, subst}
use Rattle.std.specs.Prelude.{slice_index_or, IfOk}
use Rattle.std.specs.List.{AllByRecursion}
use Rattle.ror_session.specs.declared.session.Line.{Line}
use Rattle.ror_report.specs.declared.block.Block.{Block}
use Rattle.ror_history.specs.History.{Revisions}
use Rattle.ror_bench.specs.declared.report.Accepted.{Accepted}
use Rattle.ror_bench.specs.declared.report.ReportError.{ReportError}
use Rattle.ror_bench.specs.Bench.{Workbench, IsLawfulBench, IsLawfulThroughout}
use Rattle.ror_bench.specs.Allowed.{proved_unless_wide}
use Rattle.ror_bench.specs.Blocks.{IsProvedBlock, IsBodyOf, IsTrueBlock}
use Rattle.ror_bench.specs.declared.kept.Keep.{Keep}
use Rattle.ror_bench.specs.declared.kept.KeptLine.{KeptLine}
use Rattle.ror_bench.specs.Kept.{IsProvedKeeping, IsAcceptedKeeping}
use Rattle.ror_bench.specs.Reports.{EachHolds, revisions_then}
use Rattle.ror_bench.specs.Laws.{ProvedBlocksAreTrue, ProvedReportsAreTrue}
use Rattle.ror_bench.proofs.AnswerLemmas.{block_true}
use Rattle.ror_bench.proofs.LawfulLemmas.{lawful_now, moved_lawful}
use Rattle.ror_bench.proofs.DeskLemmas.{nothing_lawful}
use Rattle.ror_bench.proofs.ReportProofs.{number_cases, then_at_own, then_at_other}

pub blocks_true : ProvedBlocksAreTrue
blocks_true t r line block lawful proved = block_true t r line block lawful proved

pub lawful_at : (P : Revisions → Type 0) (rs : List Revisions) (desk : ℕ) (none : Revisions) → P none → AllByRecursion P rs → P (slice_index_or rs desk none)
lawful_at P [] desk none h all = h
lawful_at P (r ∷ rs) zero none h all = all.0
lawful_at P (r ∷ rs) (suc desk) none h all = lawful_at P rs desk none h all.1

-- ---- a report

pub true_after : (bench : Workbench) (before : List (Line × Block)) (lines : List Line) (blocks : List Block) → ((desk : ℕ) → IsLawfulThroughout bench.table (revisions_then bench before desk))
    → EachHolds (IsProvedBlock bench.table) bench before lines blocks → EachHolds (λ r line block. IsTrueBlock bench.table r block) bench before lines blocks
true_after bench before [] [] lawful h = tt
true_after bench before [] (block ∷ blocks) lawful h = absurd h
true_after bench before (line ∷ lines) [] lawful h = absurd h
true_after bench before (line ∷ lines) (block ∷ blocks) lawful h =
    (block_true bench.table (revisions_then bench before line.desk) line block (lawful_now bench.table (revisions_then bench before line.desk) (lawful line.desk)) h.0, true_after bench (before ++ (line, block) ∷ []) lines blocks (λ desk. then desk (number_cases line.desk desk)) h.1)
  where
    then : (desk : ℕ) → (line.desk ≡ desk) ⊎ (line.desk ≢ desk) → IsLawfulThroughout bench.table (revisions_then bench (before ++ (line, block) ∷ []) desk)
    then desk (inl own) =
        let of = subst (λ (d : ℕ). IsBodyOf proved_unless_wide bench.table (revisions_then bench before d) line.command block.body) own h.0.body in
        subst (IsLawfulThroughout bench.table) (sym (then_at_own bench before line block desk own)) (moved_lawful proved_unless_wide bench.table (revisions_then bench before desk) line.command block.body (lawful desk) of)
    then desk (inr other) = subst (IsLawfulThroughout bench.table) (sym (then_at_other bench before line block desk other)) (lawful desk)

pub report_true : ProvedReportsAreTrue
report_true bench lines bytes x lawful report =
    true_after bench [] lines report.blocks (λ desk. lawful_at (IsLawfulThroughout bench.table) bench.state desk (record { opening = []; surviving = [] }) (nothing_lawful bench.table) lawful) report.proved

pub keeping_accepted : (bench : Workbench) (lines : List Line) (bytes : List ℕ) (keep : List Keep) {V : Type 0} (items : V → List KeptLine) (result : Result (Accepted × V) ReportError) → IsLawfulBench bench → IfOk result (λ x. IsProvedKeeping bench lines bytes keep x.0 (items x.1)) → IfOk result (λ x. IsAcceptedKeeping bench lines bytes keep x.0 (items x.1))
keeping_accepted bench lines bytes keep items (Ok x) lawful proved = record { report = record { proved = proved.report; blocks_true = report_true bench lines bytes x.0 lawful proved.report }; chosen = proved.chosen }
keeping_accepted bench lines bytes keep items (Err e) lawful proved = tt
