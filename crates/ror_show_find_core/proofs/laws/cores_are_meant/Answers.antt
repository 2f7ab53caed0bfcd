use Rattle.ror_show_find_core.proofs.CoreMeaning.{cores_are_meant}
use Rattle.ror_show_find_core.proofs.laws.cores_are_meant.Goals as goal

pub returns : goal.returns
returns c = cores_are_meant
