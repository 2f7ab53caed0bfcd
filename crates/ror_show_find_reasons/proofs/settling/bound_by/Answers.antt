use Rattle.std.proofs.Common.{refl}
use Rattle.ror_show_find_reasons.proofs.settling.bound_by.Goals as goal

pub returns : goal.returns
returns c =
    let found = c.in_ok-reason in
    (found.reason, (found.reason, found.ensures.reason, found.ensures.narrow, refl), refl)
