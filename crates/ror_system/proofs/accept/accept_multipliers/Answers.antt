use Rattle.std.proofs.lemmas.Result.{MatchResult-weaker}
use Rattle.ror_system.proofs.Motzkin.{not_both}
use Rattle.ror_system.proofs.accept.accept_multipliers.Goals as goal

pub returns-clause-not_solvable : goal.returns-clause-not_solvable
returns-clause-not_solvable c = MatchResult-weaker c.check_weights.result c.check_weights.ensures (λ x a. not_both c.args.s.now c.args.m.now.weak c.args.m.now.strict a.refute) (λ y f. tt)
