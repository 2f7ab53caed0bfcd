use Rattle.ror_show_find_reasons.specs.Lines.{IsConflict}
use Rattle.ror_show_find_reasons.proofs.drops.conflict_in.Goals as goal

pub returns : goal.returns
unfolding IsConflict
returns c = c.reduct.ensures.reason
