use Rattle.ror_xmcda.proofs.InputLemmas.{input_lawful}
use Rattle.ror_xmcda.proofs.laws.inputs_are_lawful.Goals as goal

pub returns : goal.returns
returns c = input_lawful
