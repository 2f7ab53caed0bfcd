use Rattle.ror_show_cells.proofs.Meaning.{numbers_have_one_meaning}
use Rattle.ror_show_cells.proofs.laws.numbers_have_one_meaning.Goals as goal

pub returns : goal.returns
returns c = numbers_have_one_meaning
