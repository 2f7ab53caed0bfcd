use Rattle.ror_json.proofs.ReportLaws.{one_report}
use Rattle.ror_json.proofs.laws.one_value.Goals as goal

pub returns : goal.returns
returns c = one_report
