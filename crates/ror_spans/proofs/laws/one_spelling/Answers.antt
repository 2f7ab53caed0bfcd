use Rattle.ror_spans.proofs.EntryLemmas.{one_text}
use Rattle.ror_spans.proofs.laws.one_spelling.Goals as goal

pub returns : goal.returns
returns c = one_text
