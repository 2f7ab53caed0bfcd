use Rattle.ror_discriminate.proofs.Margins.{tops_are, most_discriminating}
use Rattle.ror_discriminate.proofs.laws.proved_optima_are_best.Goals as goal

pub returns : goal.returns
returns c = λ t list x table lawful best. most_discriminating t list x.solution.steps x.multipliers.weak x.multipliers.strict (tops_are t table) lawful best
