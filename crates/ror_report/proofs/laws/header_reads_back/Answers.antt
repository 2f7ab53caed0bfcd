use Rattle.ror_report.proofs.ReportLemmas.{header_is_read_iff_text}
use Rattle.ror_report.proofs.laws.header_reads_back.Goals as goal

pub returns : goal.returns
returns c = header_is_read_iff_text
