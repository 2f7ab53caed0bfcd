use Rattle.ror_show_ground.proofs.ReadyProofs.{desks_begin_numbered}
use Rattle.ror_show_ground.proofs.laws.desks_begin_numbered.Goals as goal

pub returns : goal.returns
returns c = desks_begin_numbered
