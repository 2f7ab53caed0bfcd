use Rattle.ror_proof.proofs.AnswerLemmas.{is_read_iff_text}
use Rattle.ror_proof.proofs.laws.answers_read_back.Goals as goal

pub returns : goal.returns
returns c = is_read_iff_text
