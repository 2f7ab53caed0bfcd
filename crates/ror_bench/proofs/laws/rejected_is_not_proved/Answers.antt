use Rattle.ror_bench.proofs.ReportProofs.{rejected_not_proved}
use Rattle.ror_bench.proofs.laws.rejected_is_not_proved.Goals as goal

pub returns : goal.returns
returns c = rejected_not_proved
