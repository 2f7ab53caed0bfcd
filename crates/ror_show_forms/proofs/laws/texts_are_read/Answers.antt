use Rattle.ror_show_forms.proofs.ListTexts.{texts_are_read}
use Rattle.ror_show_forms.proofs.laws.texts_are_read.Goals as goal

pub returns : goal.returns
returns c = texts_are_read
