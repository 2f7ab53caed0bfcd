use Rattle.ror_show_pages.proofs.Stands.{standing_is_shown}
use Rattle.ror_show_pages.proofs.laws.standing_is_shown.Goals as goal

pub returns : goal.returns
returns c = standing_is_shown
