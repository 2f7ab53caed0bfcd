use Rattle.ror_show_find_proofs.proofs.LinearLemmas.{narrow_at}
use Rattle.ror_show_find_proofs.proofs.linear.narrow_sum.Goals as goal

pub returns-clause-narrow : goal.returns-clause-narrow
returns-clause-narrow c = narrow_at c.row_at_steps.result c.in_ok-row.row c.args.multipliers.now c.row_at_steps.ensures
