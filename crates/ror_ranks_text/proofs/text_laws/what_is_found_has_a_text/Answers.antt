use Rattle.ror_ranks_text.proofs.GivenTexts.{given_have_texts}
use Rattle.ror_ranks_text.proofs.text_laws.what_is_found_has_a_text.Goals as goal

pub returns : goal.returns
returns c = given_have_texts
