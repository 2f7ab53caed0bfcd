use Rattle.ror_show_find_proofs.proofs.Accepted.{is_same_numbers}
use Rattle.ror_show_find_proofs.proofs.functions.is_same.Goals as goal

pub returns : goal.returns
returns c = is_same_numbers c.args.numbers.now c.args.steps.now c.is_same.result c.is_same.ensures
