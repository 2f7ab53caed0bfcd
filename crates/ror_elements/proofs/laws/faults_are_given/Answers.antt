use Rattle.ror_elements.proofs.GivenLaw.{faults_are_given}
use Rattle.ror_elements.proofs.laws.faults_are_given.Goals as goal

pub returns : goal.returns
returns c = faults_are_given
