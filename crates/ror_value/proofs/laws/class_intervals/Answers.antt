use Rattle.ror_value.proofs.Classes.{class_intervals}
use Rattle.ror_value.proofs.laws.class_intervals.Goals as goal

pub returns : goal.returns
returns c = class_intervals
