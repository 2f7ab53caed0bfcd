use Rattle.ror_table.proofs.FaultLemmas.{plain_fault, fault_read}
use Rattle.ror_table.proofs.laws.the_first_fault_is_given.Goals as goal

pub returns : goal.returns
returns c = λ bytes e. (plain_fault bytes e, fault_read bytes e)
