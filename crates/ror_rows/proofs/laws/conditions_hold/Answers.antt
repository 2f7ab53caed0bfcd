use Rattle.ror_statement.specs.Questions.{property_of}
use Rattle.ror_rows.proofs.Deciding.{has_conditions}
use Rattle.ror_rows.proofs.laws.conditions_hold.Goals as goal

pub returns : goal.returns
returns c = λ t list w q lawful asked. has_conditions t list w (property_of q) lawful asked
