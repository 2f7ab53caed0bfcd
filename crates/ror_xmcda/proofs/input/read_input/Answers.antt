use Rattle.ror_xmcda.proofs.InputLemmas.{input_lawful}
use Rattle.ror_xmcda.proofs.input.read_input.Goals as goal

pub returns-clause-lawful : goal.returns-clause-lawful
returns-clause-lawful c = input_lawful c.args.bytes.now c.args.best_first c.in_ok-input.input c.in_ok-input.ensures.exact
