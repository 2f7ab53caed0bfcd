use Rattle.ror_show_find_whatif.proofs.Meant.{whatifs_are_meant}
use Rattle.ror_show_find_whatif.proofs.laws.whatifs_are_meant.Goals as goal

pub returns : goal.returns
returns c = whatifs_are_meant
