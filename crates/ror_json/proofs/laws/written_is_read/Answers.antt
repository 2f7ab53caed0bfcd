use Rattle.ror_json.proofs.JsonTexts.{written_is_report, line_is_report}
use Rattle.ror_json.proofs.laws.written_is_read.Goals as goal

pub returns : goal.returns
returns c = λ t blocks table formed. (written_is_report t blocks table formed, line_is_report t blocks table formed)
