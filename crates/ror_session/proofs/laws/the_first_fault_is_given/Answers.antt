use Rattle.ror_session.proofs.TextLemmas.{fault-sound, fault-again}
use Rattle.ror_session.proofs.laws.the_first_fault_is_given.Goals as goal

pub returns : goal.returns
returns c = λ bytes fault. (fault-sound bytes fault, fault-again bytes fault)
