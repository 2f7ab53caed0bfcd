-- Laws of reports as JSON: what is written is proved, what is proved is true, and what is rejected is not proved.
use Rattle.std.specs.Prelude.{◌≡◌, ℕ, ◌≤◌, List, length}
use Rattle.ror_table.specs.Table.{IsTable}
use Rattle.ror_session.specs.declared.session.Line.{Line}
use Rattle.ror_json.specs.Texts.{json_line}
use Rattle.ror_bench.specs.declared.report.Accepted.{Accepted}
use Rattle.ror_bench.specs.declared.report.Rejection.{Rejection}
use Rattle.ror_bench.specs.declared.report.TheConstants.{MOST_REPORT_BYTES}
use Rattle.ror_bench.specs.Bench.{Workbench, IsLawfulBench}
use Rattle.ror_bench.specs.Reports.{IsProvedReport, AreTrueBlocks}
use Rattle.ror_work_json.specs.Json.{IsProvedJson, IsReplayedJson, IsJsonRejection}

-- what a replay writes at a width is JSON of a report that is proved but for what is too wide, with the same counts
abbrev pub WrittenJsonIsProved : Type 0
WrittenJsonIsProved = (most : ℕ) (bench : Workbench) (lines : List Line) (bytes : List ℕ) (accepted : Accepted)
    → IsTable bench.table → IsReplayedJson most bench lines bytes accepted
    → IsProvedJson bench lines bytes accepted

-- and of at most 268,435,456 bytes it is rejected for nothing
abbrev pub WrittenJsonIsNotRejected : Type 0
WrittenJsonIsNotRejected = (most : ℕ) (bench : Workbench) (lines : List Line) (bytes : List ℕ) (accepted : Accepted)
    (rejection : Rejection) → IsTable bench.table → length bytes ≤ MOST_REPORT_BYTES
    → IsReplayedJson most bench lines bytes accepted → IsJsonRejection bench lines bytes rejection → ⊥

-- the blocks of a report's text that is proved are those of a line that is
abbrev pub ReportsHaveJson : Type 0
ReportsHaveJson = (bench : Workbench) (lines : List Line) (bytes : List ℕ) (accepted : Accepted)
    → IsTable bench.table → (report : IsProvedReport bench lines bytes accepted)
    → IsProvedJson bench lines (json_line bench.table report.blocks) accepted

-- where each desk begins with lawful statements, the blocks of a proved report are true
abbrev pub ProvedJsonIsTrue : Type 0
ProvedJsonIsTrue = (bench : Workbench) (lines : List Line) (bytes : List ℕ) (accepted : Accepted)
    → IsLawfulBench bench → (report : IsProvedJson bench lines bytes accepted)
    → AreTrueBlocks bench lines report.blocks

-- what is rejected is not proved
abbrev pub RejectedJsonIsNotProved : Type 0
RejectedJsonIsNotProved = (bench : Workbench) (lines : List Line) (bytes : List ℕ) (rejection : Rejection)
    (accepted : Accepted) → IsTable bench.table → length bytes ≤ MOST_REPORT_BYTES
    → IsJsonRejection bench lines bytes rejection → IsProvedJson bench lines bytes accepted → ⊥

-- bytes are rejected for one thing, and a proved report has one count
abbrev pub OneJsonRejection : Type 0
OneJsonRejection = (bench : Workbench) (lines : List Line) (bytes : List ℕ) (first second : Rejection)
    → IsTable bench.table → IsJsonRejection bench lines bytes first → IsJsonRejection bench lines bytes second
    → first ≡ second

abbrev pub OneJsonCount : Type 0
OneJsonCount = (bench : Workbench) (lines : List Line) (bytes : List ℕ) (x y : Accepted)
    → IsTable bench.table → IsProvedJson bench lines bytes x → IsProvedJson bench lines bytes y → x ≡ y
