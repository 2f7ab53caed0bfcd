use Rattle.std.proofs.Common.{rules, FitsSigned}
use Rattle.std.specs.Int.{w128}
use Rattle.std.proofs.lemmas.Int.{to_z-of_z}
use Rattle.ror_discriminate.proofs.NoGreater.{NoneNegative-tops}
use Rattle.ror_discriminate.proofs.Columns.{margin_at, narrow_terms}
use Rattle.ror_discriminate.proofs.decide.best_of.Goals as goal

pub value_at-requires-clause-within : goal.value_at-requires-clause-within
value_at-requires-clause-within c =
    let best = c.requires.accepted in
    narrow_terms c.args.top.now c.args.optimum.solution.steps (NoneNegative-tops c.args.top.now c.requires.tops.at_least_one) best.solution.solves.rows.none_negative best.total_within

pub returns-clause-margin : goal.returns-clause-margin
returns-clause-margin c =
    let f : FitsSigned w128 c.least_value.result = search rules in
    let g : FitsSigned w128 c.value_at.result = search rules in
    rw (to_z-of_z w128 _ f, to_z-of_z w128 _ g) (margin_at c.args.s.now c.args.top.now c.args.optimum.solution.steps _ _ c.requires.tops c.requires.accepted.solution c.least_value.ensures.value c.least_value.ensures.narrow c.value_at.ensures.value c.value_at.ensures.narrow)
