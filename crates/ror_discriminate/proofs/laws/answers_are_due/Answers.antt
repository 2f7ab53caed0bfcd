use Rattle.ror_discriminate.proofs.Dues.{nothing_strict, contradictory, consistent}
use Rattle.ror_discriminate.proofs.laws.answers_are_due.Goals as goal

pub returns : goal.returns
returns c = record { nothing_strict = nothing_strict; contradictory = contradictory; consistent = consistent }
