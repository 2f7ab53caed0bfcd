use Rattle.ror_show_forms.proofs.FaultLemmas.{certificate_err, certificate_fails}
use Rattle.ror_show_forms.proofs.laws.the_first_fault_is_given.Goals as goal

pub returns : goal.returns
returns c = λ t from fault table. (certificate_err t from fault, certificate_fails t from fault table)
