use Rattle.ror_ranks_text.proofs.RankErrors.{entry_err, entry_fails}
use Rattle.ror_ranks_text.proofs.text_laws.the_first_fault_is_given.Goals as goal

pub returns : goal.returns
returns c = λ t from fault table. (entry_err t from fault, entry_fails t from fault)
