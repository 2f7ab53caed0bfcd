use Rattle.ror_show_find_roll.proofs.LawProofs.{keeps_all_turns}
use Rattle.ror_show_find_roll.proofs.laws.keeps_all_turns.Goals as goal

pub returns : goal.returns
returns c = keeps_all_turns
