use Rattle.ror_show_find_reasons.specs.Carrying.{IsReasonFor}
use Rattle.ror_show_find_reasons.proofs.carrying.reason_over.Goals as goal

pub returns-clause-reason : goal.returns-clause-reason
unfolding IsReasonFor
returns-clause-reason c = c.reduct_of.ensures.reason
