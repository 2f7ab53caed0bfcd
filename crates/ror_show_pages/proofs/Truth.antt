-- That what is shown of a line is true of what stood there.
use Rattle.std.proofs.Common.{◌≡◌, ℕ, List, [], ◌∷◌, ◌++◌, length, Some, ap, subst}
use Rattle.std.specs.List.{AllByRecursion}
use Rattle.ror_text.proofs.Everywhere.{all-append, all-by}
use Rattle.ror_statement.specs.declared.statement.Numbered.{Numbered}
use Rattle.ror_statement.specs.Statements.{statements_in}
use Rattle.ror_table.specs.Table.{DecisionTable}
use Rattle.ror_value.specs.declared.input.Input.{Input}
use Rattle.ror_value.specs.Over.{IsLawfulIn}
use Rattle.ror_session.specs.declared.session.Session.{Session}
use Rattle.ror_session.specs.declared.session.Line.{Line}
use Rattle.ror_report.specs.declared.block.Block.{Block}
use Rattle.ror_report.specs.Text.{answers_of}
use Rattle.ror_history.specs.History.{Revisions, standing}
use Rattle.ror_bench.specs.declared.kept.Keep.{Keep}
use Rattle.ror_bench.specs.declared.kept.Keep.TheVariants as keeping
use Rattle.ror_bench.specs.Bench.{Workbench}
use Rattle.ror_bench.specs.Blocks.{IsTrueBlock}
use Rattle.ror_bench.specs.Kept.{keep_at, standing_for, kept_of, kept_from}
use Rattle.ror_bench.specs.declared.kept.KeptLine.{KeptLine}
use Rattle.ror_bench.specs.declared.report.Accepted.{Accepted}
use Rattle.ror_bench.specs.Reports.{EachHolds, revisions_then, IsProvedReport}
use Rattle.ror_bench.proofs.Truth.{report_true}
use Rattle.ror_show_find_relation.specs.CellLaws.{AreTrueAnswers}
use Rattle.ror_show_find_relation.proofs.CellLemmas.{cells-true}
use Rattle.ror_frame.specs.Inputs.{bench_for}
use Rattle.ror_frame.proofs.Desks.{lawful_desks}
use Rattle.ror_show_pages.specs.PageLaws.{AreTrueOfWhatStood, ShownIsTrue}

-- the answers that are kept with what stood are true of it
abbrev pub HasTrueAnswers : DecisionTable → KeptLine → Type 0
HasTrueAnswers t x = (list : List Numbered) → x.standing ≡ Some list → AreTrueAnswers t (statements_in list) (answers_of x.block.body)

-- what is kept of one line
line_true : (t : DecisionTable) (place : ℕ) (keep : Keep) (r : Revisions) (block : Block) → IsTrueBlock t r block → AllByRecursion (HasTrueAnswers t) (kept_of place keep (standing_for keep r) block)
line_true t place keeping.Nothing r block holds = tt
line_true t place keeping.Block r block holds = ((λ list stood. absurd cc), tt)
line_true t place keeping.Standing r block holds = (
  (λ list stood.
      let same : standing r ≡ list = cc in
      subst (λ (l : List Numbered). AreTrueAnswers t (statements_in l) (answers_of block.body)) same holds.answers),
  tt,
)

each_true : (bench : Workbench) (keep : List Keep) (before : List (Line × Block)) (lines : List Line) (blocks : List Block) → EachHolds (λ r line block. IsTrueBlock bench.table r block) bench before lines blocks → AllByRecursion (HasTrueAnswers bench.table) (kept_from bench keep before lines blocks)
each_true bench keep before [] [] h = tt
each_true bench keep before [] (block ∷ blocks) h = absurd h
each_true bench keep before (line ∷ lines) [] h = absurd h
each_true bench keep before (line ∷ lines) (block ∷ blocks) h =
    all-append (HasTrueAnswers bench.table) _ _ (line_true bench.table (length before) (keep_at keep (length before)) (revisions_then bench before line.desk) block h.0) (each_true bench keep (before ++ (line, block) ∷ []) lines blocks h.1)

pub answers_true : (i : Input) (s : Session) (bytes : List ℕ) (accepted : Accepted) (keep : List Keep) → IsLawfulIn i.table i.opening → (report : IsProvedReport (bench_for i s) s.lines bytes accepted) → AllByRecursion (HasTrueAnswers i.table) (kept_from (bench_for i s) keep [] s.lines report.blocks)
answers_true i s bytes accepted keep lawful report =
    each_true (bench_for i s) keep [] s.lines report.blocks (report_true (bench_for i s) s.lines bytes accepted (lawful_desks i (length s.desks) lawful) report)

cells_of_line : (t : DecisionTable) (x : KeptLine) → HasTrueAnswers t x → AreTrueOfWhatStood t x
cells_of_line t x holds list xs n a b stood is =
    cells-true t (statements_in list) xs n a b (subst (AreTrueAnswers t (statements_in list)) (ap answers_of is) (holds list stood))

pub shown_is_true : ShownIsTrue
shown_is_true i s bytes accepted keep lawful report =
    all-by (HasTrueAnswers i.table) (AreTrueOfWhatStood i.table) (kept_from (bench_for i s) keep [] s.lines report.blocks) (cells_of_line i.table) (answers_true i s bytes accepted keep lawful report)
