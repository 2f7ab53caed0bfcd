use Rattle.ror_report.proofs.Utf8Lemmas.{report_text_is_utf8}
use Rattle.ror_report.proofs.laws.reports_are_utf8.Goals as goal

pub returns : goal.returns
returns c = report_text_is_utf8
