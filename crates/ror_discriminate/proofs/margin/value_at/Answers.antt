use Rattle.std.proofs.Common.{FitsSigned, rules}
use Rattle.std.specs.Int.{w128}
use Rattle.std.proofs.lemmas.Int.{to_z-of_z}
use Rattle.ror_discriminate.proofs.Columns.{row_value}
use Rattle.ror_discriminate.proofs.margin.value_at.Goals as goal

pub returns-clause-narrow : goal.returns-clause-narrow
returns-clause-narrow c =
    let f : FitsSigned w128 c.unwrap.result = search rules in
    rw (to_z-of_z w128 _ f) (row_value c.row_at_steps.result c.unwrap.result c.args.row.now c.args.steps.now c.unwrap.ensures c.row_at_steps.ensures).1
