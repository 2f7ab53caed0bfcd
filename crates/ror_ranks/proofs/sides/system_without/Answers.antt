use Rattle.std.proofs.Common.{◌∙◌}
use Rattle.ror_ranks.proofs.StepLemmas.{rows_few, rows_name}
use Rattle.ror_ranks.proofs.sides.system_without.Goals as goal

pub with_extras-requires-clause-few : goal.with_extras-requires-clause-few
with_extras-requires-clause-few c =
    rows_few c.args.asked.now c.args.members.now c.as_slice.result.now c.requires.asked c.requires.others (c.as_slice.ensures.value ∙ c.in_ok-rows.ensures)

pub with_extras-requires-clause-named : goal.with_extras-requires-clause-named
with_extras-requires-clause-named c =
    rows_name c.args.asked.now c.args.members.now c.as_slice.result.now c.requires.asked c.requires.others (c.as_slice.ensures.value ∙ c.in_ok-rows.ensures)
