use Rattle.ror_confidence.proofs.LevelsTexts.{text_is_read}
use Rattle.ror_confidence.proofs.laws.levels_are_the_grammar.Goals as goal

pub returns : goal.returns
returns c = text_is_read
