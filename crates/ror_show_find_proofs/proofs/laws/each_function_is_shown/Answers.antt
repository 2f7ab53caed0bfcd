use Rattle.ror_show_find_proofs.proofs.PlaceProofs.{each_function_is_shown}
use Rattle.ror_show_find_proofs.proofs.laws.each_function_is_shown.Goals as goal

pub returns : goal.returns
returns c = each_function_is_shown
