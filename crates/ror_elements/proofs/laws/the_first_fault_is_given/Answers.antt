use Rattle.ror_elements.proofs.LawLemmas.{gives_the_first_fault}
use Rattle.ror_elements.proofs.laws.the_first_fault_is_given.Goals as goal

pub returns : goal.returns
returns c = gives_the_first_fault
