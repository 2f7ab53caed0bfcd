use Rattle.ror_group.proofs.WideWords.{words_are_wide, no_wide_words}
use Rattle.ror_group.proofs.laws.words_are_wide_by_answers.Goals as goal

pub returns : goal.returns
returns c = record { wide = words_are_wide; none = no_wide_words }
