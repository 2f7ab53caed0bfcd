use Rattle.ror_show_find_proofs.proofs.LevelProofs.{each_level_stands}
use Rattle.ror_show_find_proofs.proofs.laws.each_level_stands.Goals as goal

pub returns : goal.returns
returns c = each_level_stands
