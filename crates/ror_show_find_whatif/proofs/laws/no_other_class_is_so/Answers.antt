use Rattle.ror_show_find_whatif.proofs.ClassShifting.{no_other_class_is_so}
use Rattle.ror_show_find_whatif.proofs.laws.no_other_class_is_so.Goals as goal

pub returns : goal.returns
returns c = no_other_class_is_so
