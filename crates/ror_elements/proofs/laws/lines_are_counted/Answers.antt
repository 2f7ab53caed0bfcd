use Rattle.ror_elements.proofs.LawLemmas.{lines_are_counted}
use Rattle.ror_elements.proofs.laws.lines_are_counted.Goals as goal

pub returns : goal.returns
returns c = lines_are_counted
