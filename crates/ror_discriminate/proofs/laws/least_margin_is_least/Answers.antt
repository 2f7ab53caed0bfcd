use Rattle.ror_discriminate.specs.Margin.{margins}
use Rattle.ror_discriminate.proofs.Leasts.{least-of_some}
use Rattle.ror_discriminate.proofs.Margins.{some_margins}
use Rattle.ror_discriminate.proofs.laws.least_margin_is_least.Goals as goal

pub returns : goal.returns
returns c = λ t list w some. least-of_some (margins t list w) (some_margins t list w some)
