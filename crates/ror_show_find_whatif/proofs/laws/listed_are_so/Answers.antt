use Rattle.ror_show_find_whatif.proofs.Listing.{listed_are_so}
use Rattle.ror_show_find_whatif.proofs.laws.listed_are_so.Goals as goal

pub returns : goal.returns
returns c = listed_are_so
