use Rattle.ror_show_find_reasons.proofs.Brought.{brought_is_carried}
use Rattle.ror_show_find_reasons.proofs.laws.brought_is_carried.Goals as goal

pub returns : goal.returns
returns c = brought_is_carried
