use Rattle.ror_elements.proofs.FaultLemmas.{faults_are_what_they_say}
use Rattle.ror_elements.proofs.laws.faults_are_what_they_say.Goals as goal

pub returns : goal.returns
returns c = faults_are_what_they_say
