use Rattle.ror_show_pages.proofs.Truth.{shown_is_true}
use Rattle.ror_show_pages.proofs.laws.shown_is_true.Goals as goal

pub returns : goal.returns
returns c = shown_is_true
