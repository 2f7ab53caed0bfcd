use Rattle.std.proofs.Common.{refl}
use Rattle.ror_show_find_reasons.proofs.carrying.told_by.Goals as goal

pub returns : goal.returns
returns c = (c.in_ok-reason.reason, c.in_ok-reason.ensures.reason, c.in_ok-reason.ensures.narrow, refl)
