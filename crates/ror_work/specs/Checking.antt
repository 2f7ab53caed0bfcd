-- What a check does: it accepts a report that is proved for a session over a table, and rejects any other.
use Rattle.std.specs.Prelude.{◌≡◌, ℕ, ◌<◌, ◌≤◌, List, length}
use Rattle.ror_value.specs.declared.input.Input.{Input}
use Rattle.ror_session.specs.declared.session.Session.{Session}
use Rattle.ror_session.specs.declared.session.Line.{Line}
use Rattle.ror_bench.specs.declared.report.Accepted.{Accepted}
use Rattle.ror_bench.specs.declared.report.Rejection.{Rejection}
use Rattle.ror_bench.specs.declared.report.Reason.TheVariants.{TooLong}
use Rattle.ror_bench.specs.declared.report.TheConstants.{MOST_REPORT_BYTES}
use Rattle.ror_bench.specs.Bench.{Workbench}
use Rattle.ror_bench.specs.Reports.{IsProvedReport, IsAcceptedReport, IsRejectedFor}
use Rattle.ror_words.specs.Words.{InputNames}
use Rattle.ror_frame.specs.declared.stop.Refusal.{Refusal}
use Rattle.ror_frame.specs.declared.stop.Refusal.TheVariants as refusals
use Rattle.ror_frame.specs.Courses.{Output, Chore}
use Rattle.ror_frame.specs.Inputs.{bench_for, accepted_output, judging_chore}

-- the report's bytes, of which there are at most 268,435,456, are the text of a report that is proved for table and session but
-- for what is too wide: so many answers have a proof, and so many answers and repairs are too wide
abbrev pub ProvesReport : Input → Session → List ℕ → Accepted → Type 0
ProvesReport i s bytes accepted = (length bytes ≤ MOST_REPORT_BYTES)
    × IsProvedReport (bench_for i s) s.lines bytes accepted

-- why the bytes are rejected as a report on the lines: they are too many, or else for what is at fault first
pub data IsRejectionOf (bench : Workbench) (lines : List Line) (bytes : List ℕ)
    (rejection : Rejection) : Type 0 where
  too_long : MOST_REPORT_BYTES < length bytes → rejection ≡ record { block = 0; reason = TooLong }
      → IsRejectionOf bench lines bytes rejection
  at_fault : length bytes ≤ MOST_REPORT_BYTES → IsRejectedFor bench lines bytes rejection
      → IsRejectionOf bench lines bytes rejection

abbrev pub RejectsReport : Input → Session → List ℕ → Rejection → Type 0
RejectsReport i s bytes rejection = IsRejectionOf (bench_for i s) s.lines bytes rejection

-- as a step of the work
abbrev pub RefusesReport : Input → Session → List ℕ → Refusal → Type 0
RefusesReport i s bytes r = (rejection : Rejection) × (r ≡ refusals.Rejected rejection)
    × RejectsReport i s bytes rejection

-- The line of the accepted report. Every answer of it that isn't too wide is true of all compatible value functions, and so is
-- what its repairs drop.
abbrev pub proved_output : Input → Session → List ℕ → Accepted → Output
proved_output i s bytes accepted = accepted_output accepted (IsAcceptedReport (bench_for i s) s.lines bytes accepted)

abbrev pub check_chore : InputNames → List ℕ → Chore
check_chore names report = judging_chore names report ProvesReport RejectsReport proved_output
