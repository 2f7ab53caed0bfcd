use Rattle.ror_xmcda.proofs.LawLemmas.{classes_turned, tables_same}
use Rattle.ror_xmcda.proofs.OpeningLemmas.{input_turned}
use Rattle.ror_xmcda.proofs.FaultLemmas.{faults_same}
use Rattle.ror_xmcda.proofs.laws.best_first_changes_classes.Goals as goal

pub returns-clause-classes : goal.returns-clause-classes
returns-clause-classes c = classes_turned

pub returns-clause-table : goal.returns-clause-table
returns-clause-table c = tables_same

pub returns-clause-opening : goal.returns-clause-opening
returns-clause-opening c = input_turned

pub returns-clause-faults : goal.returns-clause-faults
returns-clause-faults c = faults_same
