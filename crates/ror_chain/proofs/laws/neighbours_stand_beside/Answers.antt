use Rattle.ror_chain.proofs.OrderLemmas.{Apart-from_distinct, neighbours_in-cut}
use Rattle.ror_chain.proofs.laws.neighbours_stand_beside.Goals as goal

pub returns : goal.returns
returns c = λ front n back h. neighbours_in-cut front n back (Apart-from_distinct _ h)
