use Rattle.ror_show_find_proofs.proofs.SpanLemmas.{spans_are_used}
use Rattle.ror_show_find_proofs.proofs.laws.spans_are_used.Goals as goal

pub returns : goal.returns
returns c = spans_are_used
