use Rattle.std.proofs.lemmas.Bool.{ne_eqb}
use Rattle.ror_show_text_functions.proofs.rises.write_linear_by.Goals as goal

pub returns : goal.returns
returns c = rw (ne_eqb c.args.gain 0 c.if-gain-eq0.false) c.write_linear_risen.ensures
