use Rattle.ror_show_find_whatif.proofs.ClassShifting.{listed_classes_are_so}
use Rattle.ror_show_find_whatif.proofs.laws.listed_classes_are_so.Goals as goal

pub returns : goal.returns
returns c = listed_classes_are_so
