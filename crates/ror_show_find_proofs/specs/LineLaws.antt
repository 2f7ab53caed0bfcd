-- What holds of the functions that are shown of kept lines.
use Rattle.std.specs.Prelude.{◌≡◌, ℕ, List, [], Option, Some, slice_get, ℤ}
use Rattle.std.specs.List.{AllByRecursion}
use Rattle.ror_statement.specs.declared.statement.Numbered.{Numbered}
use Rattle.ror_statement.specs.Statements.{statements_in}
use Rattle.ror_table.specs.Table.{DecisionTable}
use Rattle.ror_session.specs.declared.session.Line.{Line}
use Rattle.ror_proof.specs.declared.answer.Answer.{Answer}
use Rattle.ror_report.specs.declared.block.Body.TheVariants as bodies
use Rattle.ror_bench.specs.Bench.{Workbench, IsLawfulBench}
use Rattle.ror_bench.specs.declared.kept.Keep.{Keep}
use Rattle.ror_bench.specs.declared.kept.KeptLine.{KeptLine}
use Rattle.ror_bench.specs.declared.report.Accepted.{Accepted}
use Rattle.ror_bench.specs.Kept.{kept_from}
use Rattle.ror_bench.specs.Reports.{IsProvedReport}
use Rattle.ror_show_find_proofs.specs.FunctionLaws.{IsMeant}
use Rattle.ror_show_find_proofs.specs.Places.{steps_for}

-- where a line's answers are kept with what stood, each function in them agrees with that, and that of a part decides its question besides
abbrev pub AreMeantOfWhatStood : DecisionTable → KeptLine → Type 0
AreMeantOfWhatStood t x = (list : List Numbered) (xs : List Answer) (k : ℕ) (part : Option ℕ) (answer : Answer) (w : List ℤ)
    → x.standing ≡ Some list → x.block.body ≡ bodies.Answers xs → slice_get xs k ≡ Some answer → steps_for xs k part ≡ Some w
    → IsMeant t (statements_in list) answer w part

-- and so it is in a report that is proved
abbrev pub FunctionsAreTrue : Type 0
FunctionsAreTrue = (bench : Workbench) (lines : List Line) (bytes : List ℕ) (accepted : Accepted) (keep : List Keep)
    → IsLawfulBench bench → (report : IsProvedReport bench lines bytes accepted)
    → AllByRecursion (AreMeantOfWhatStood bench.table) (kept_from bench keep [] lines report.blocks)
