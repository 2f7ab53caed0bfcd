use Rattle.ror_group.proofs.Pairs.{proved_are_true}
use Rattle.ror_group.proofs.laws.proved_pairs_are_true.Goals as goal

pub returns : goal.returns
returns c = λ t lists a b xs q lawful first second proved. proved_are_true t lists a b xs q lawful (first, second) (first, second) proved
