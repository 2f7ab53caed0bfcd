use Rattle.ror_show_pages.proofs.Said.{said_is_what_stood}
use Rattle.ror_show_pages.proofs.laws.said_is_what_stood.Goals as goal

pub returns : goal.returns
returns c = said_is_what_stood
