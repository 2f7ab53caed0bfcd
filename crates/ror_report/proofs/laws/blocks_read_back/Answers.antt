use Rattle.ror_report.proofs.BlockLemmas.{is_read_iff_text}
use Rattle.ror_report.proofs.laws.blocks_read_back.Goals as goal

pub returns : goal.returns
returns c = is_read_iff_text
