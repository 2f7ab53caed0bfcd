use Rattle.ror_xmcda.proofs.AgreeWhole.{first_given, none_read, first_of_file}
use Rattle.ror_xmcda.proofs.laws.first_faults_are_given.Goals as goal

pub returns-clause-content : goal.returns-clause-content
returns-clause-content c = first_given

pub returns-clause-none : goal.returns-clause-none
returns-clause-none c = none_read

pub returns-clause-file : goal.returns-clause-file
returns-clause-file c = first_of_file
