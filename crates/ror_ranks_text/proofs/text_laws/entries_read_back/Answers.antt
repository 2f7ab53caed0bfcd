use Rattle.ror_ranks_text.proofs.EntryLemmas.{is_read_iff_text}
use Rattle.ror_ranks_text.proofs.text_laws.entries_read_back.Goals as goal

pub returns : goal.returns
returns c = is_read_iff_text
