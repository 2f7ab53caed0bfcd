use Rattle.ror_show_pages.proofs.ClassTruth.{classes_are_true}
use Rattle.ror_show_pages.proofs.laws.classes_are_true.Goals as goal

pub returns : goal.returns
returns c = classes_are_true
