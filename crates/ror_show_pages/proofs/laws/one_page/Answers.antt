use Rattle.ror_show_pages.proofs.OnePage.{one_page}
use Rattle.ror_show_pages.proofs.laws.one_page.Goals as goal

pub returns : goal.returns
returns c = one_page
