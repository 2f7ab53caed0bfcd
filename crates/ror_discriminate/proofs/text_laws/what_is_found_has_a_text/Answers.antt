use Rattle.ror_discriminate.proofs.FoundBodies.{found_have_texts}
use Rattle.ror_discriminate.proofs.text_laws.what_is_found_has_a_text.Goals as goal

pub returns : goal.returns
returns c = found_have_texts
