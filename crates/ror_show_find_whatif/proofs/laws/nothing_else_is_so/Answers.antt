use Rattle.ror_show_find_whatif.proofs.Listing.{nothing_else_is_so}
use Rattle.ror_show_find_whatif.proofs.laws.nothing_else_is_so.Goals as goal

pub returns : goal.returns
returns c = nothing_else_is_so
