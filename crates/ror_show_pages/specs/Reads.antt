-- What a check of a report keeps.
use Rattle.std.specs.Prelude.{◌≡◌, ℕ, ◌≤◌, List, [], length}
use Rattle.ror_value.specs.declared.input.Input.{Input}
use Rattle.ror_session.specs.declared.session.Session.{Session}
use Rattle.ror_bench.specs.declared.kept.Keep.{Keep}
use Rattle.ror_bench.specs.declared.kept.KeptLine.{KeptLine}
use Rattle.ror_bench.specs.declared.report.Accepted.{Accepted}
use Rattle.ror_bench.specs.declared.report.TheConstants.{MOST_REPORT_BYTES}
use Rattle.ror_bench.specs.Kept.{kept_from}
use Rattle.ror_bench.specs.Reports.{IsProvedReport}
use Rattle.ror_frame.specs.Inputs.{bench_for}

-- the bytes are the text of a report that is proved for table and session, and these are its lines of which something is kept
pub record ReadsKept (keep : List Keep) (i : Input) (s : Session) (bytes : List ℕ) (kept : List KeptLine) : Type 0 where
  pub within : length bytes ≤ MOST_REPORT_BYTES
  pub accepted : Accepted
  pub report : IsProvedReport (bench_for i s) s.lines bytes accepted
  pub chosen : kept ≡ kept_from (bench_for i s) keep [] s.lines report.blocks
