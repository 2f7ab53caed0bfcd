use Rattle.ror_ranks_text.proofs.EntryLemmas.{one_text}
use Rattle.ror_ranks_text.proofs.text_laws.one_spelling.Goals as goal

pub returns : goal.returns
returns c = one_text
