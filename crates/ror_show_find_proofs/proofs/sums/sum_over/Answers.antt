use Rattle.std.proofs.Common.{◌<◌, length, sym, subst}
use Rattle.std.specs.List.{AllByRecursion}
use Rattle.ror_show_find_proofs.specs.Linear.{forms_of}
use Rattle.ror_show_find_proofs.proofs.LinearLemmas.{linear_there}
use Rattle.ror_show_find_proofs.proofs.sums.sum_over.Goals as goal

pub returns-clause-there : goal.returns-clause-there
returns-clause-there c = record {
  linear = subst (AllByRecursion (λ i. i < length c.args.table.now.criteria)) (sym c.in_ok-linear.ensures)
      (linear_there c.args.table.now (forms_of c.args.comparisons.now) c.args.multipliers.now);
  spans = c.in_ok-spans.ensures.there;
}
