use Rattle.ror_show_find_proofs.proofs.SideProofs.{sides_are_meant}
use Rattle.ror_show_find_proofs.proofs.laws.sides_are_meant.Goals as goal

pub returns : goal.returns
returns c = sides_are_meant
