use Rattle.ror_text.proofs.SpacedLemmas.{spaced_words-join_words, join_words-spaced_words}
use Rattle.ror_text.proofs.laws.words_read_back.Goals as goal

pub returns-clause-joined : goal.returns-clause-joined
returns-clause-joined c = spaced_words-join_words

pub returns-clause-cut : goal.returns-clause-cut
returns-clause-cut c = join_words-spaced_words
