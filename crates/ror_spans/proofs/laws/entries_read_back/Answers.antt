use Rattle.ror_spans.proofs.EntryTexts.{entry_iff_text}
use Rattle.ror_spans.proofs.laws.entries_read_back.Goals as goal

pub returns : goal.returns
returns c = entry_iff_text
