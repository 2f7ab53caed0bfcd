use Rattle.ror_history.proofs.TurnLemmas.{numbers_rise}
use Rattle.ror_history.proofs.laws.numbers_rise.Goals as goal

pub returns : goal.returns
returns c = record { rising = λ r turn. (numbers_rise r turn).rising; below_next = λ r turn. (numbers_rise r turn).below }
