use Rattle.ror_report.proofs.ReportLemmas.{end_is_read_iff_text}
use Rattle.ror_report.proofs.laws.end_reads_back.Goals as goal

pub returns : goal.returns
returns c = end_is_read_iff_text
