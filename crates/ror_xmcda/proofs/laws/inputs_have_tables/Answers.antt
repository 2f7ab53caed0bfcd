use Rattle.ror_xmcda.proofs.TableLemmas.{input_table}
use Rattle.ror_xmcda.proofs.laws.inputs_have_tables.Goals as goal

pub returns : goal.returns
returns c = input_table
