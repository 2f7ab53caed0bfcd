use Rattle.ror_show_ground.proofs.ReadyProofs.{kept_lines_are_ready}
use Rattle.ror_show_ground.proofs.laws.kept_lines_are_ready.Goals as goal

pub returns : goal.returns
returns c = kept_lines_are_ready
