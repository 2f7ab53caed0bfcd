use Rattle.ror_bench.proofs.Truth.{report_true}
use Rattle.ror_bench.proofs.laws.proved_reports_are_true.Goals as goal

pub returns : goal.returns
returns c = report_true
