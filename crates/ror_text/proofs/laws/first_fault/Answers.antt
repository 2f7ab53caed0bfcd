use Rattle.ror_text.proofs.ReadingLemmas.{first_fault_iff}
use Rattle.ror_text.proofs.laws.first_fault.Goals as goal

pub returns : goal.returns
returns g c = λ step state lines fault. first_fault_iff step state lines fault
