use Rattle.ror_text.proofs.SpacedLemmas.{split_line-join_words, split_line-sound}
use Rattle.ror_text.proofs.laws.lines_read_back.Goals as goal

pub returns-clause-ended : goal.returns-clause-ended
returns-clause-ended c = split_line-join_words

pub returns-clause-cut : goal.returns-clause-cut
returns-clause-cut c = λ bytes line rest e. (split_line-sound bytes line rest e).0
