use Rattle.std.proofs.Common.{◌∙◌}
use Rattle.ror_xmcda.specs.Performances.{is_at}
use Rattle.ror_xmcda.proofs.PerformanceLemmas.{found_amount}
use Rattle.ror_xmcda.proofs.performances.Given.at.Goals as goal

pub returns-clause-amount : goal.returns-clause-amount
returns-clause-amount c = found_amount c.copied.result (is_at c.args.place) c.self.inside.entries.entries (c.copied.ensures ∙ c.get.ensures.value) c.self.invariant
