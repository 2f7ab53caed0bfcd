use Rattle.ror_show_forms.proofs.OneFault.{one_first_unproved, proved_not_rejected}
use Rattle.ror_show_forms.proofs.laws.one_rejection.Goals as goal

pub returns-clause-one : goal.returns-clause-one
returns-clause-one c = one_first_unproved

pub returns-clause-none : goal.returns-clause-none
returns-clause-none c = proved_not_rejected
