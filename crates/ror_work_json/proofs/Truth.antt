-- That a report as JSON which is proved is true, since what stands stays lawful.
use Rattle.std.proofs.Common.{ℕ, List, []}
use Rattle.ror_session.specs.declared.session.Line.{Line}
use Rattle.ror_bench.specs.declared.report.Accepted.{Accepted}
use Rattle.ror_bench.specs.Bench.{Workbench, IsLawfulBench, IsLawfulThroughout}
use Rattle.ror_bench.proofs.DeskLemmas.{nothing_lawful}
use Rattle.ror_bench.proofs.Truth.{lawful_at, true_after}
use Rattle.ror_work_json.specs.Laws.{ProvedJsonIsTrue}
use Rattle.ror_work_json.specs.Json.{IsProvedJson, IsAcceptedJson}

pub json_true : ProvedJsonIsTrue
json_true bench lines bytes x lawful report =
    true_after bench [] lines report.blocks (λ desk. lawful_at (IsLawfulThroughout bench.table) bench.state desk (record { opening = []; surviving = [] }) (nothing_lawful bench.table) lawful) report.proved

pub json_accepted : (bench : Workbench) (lines : List Line) (bytes : List ℕ) (x : Accepted) → IsLawfulBench bench → IsProvedJson bench lines bytes x → IsAcceptedJson bench lines bytes x
json_accepted bench lines bytes x lawful report = record { proved = report; blocks_true = json_true bench lines bytes x lawful report }
