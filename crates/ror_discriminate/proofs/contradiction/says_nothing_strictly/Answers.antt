use Rattle.ror_discriminate.proofs.Margins.{nothing_where_one}
use Rattle.ror_discriminate.proofs.contradiction.says_nothing_strictly.Goals as goal

pub returns : goal.returns
returns c = nothing_where_one c.args.table.now c.args.list.now c.in_ok-system.system _ c.in_ok-system.ensures.system c.strict.ensures.value c.strict.ensures.form
