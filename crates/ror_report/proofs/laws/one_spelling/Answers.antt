use Rattle.ror_report.proofs.ReportLemmas.{one_spelling}
use Rattle.ror_report.proofs.laws.one_spelling.Goals as goal

pub returns : goal.returns
returns c = one_spelling
