use Rattle.ror_value.proofs.Classes.{class_by_each}
use Rattle.ror_value.proofs.laws.class_by_each_assignment.Goals as goal

pub returns : goal.returns
returns c = class_by_each
