use Rattle.ror_history.proofs.TurnLemmas.{next_number-first, first_turn, turn_kept, one_more, withdrawn_stays, replaced_stays}
use Rattle.ror_history.proofs.laws.next_number_rises.Goals as goal

pub returns : goal.returns
returns c = record {
  first = next_number-first;
  at_first = first_turn;
  kept = turn_kept;
  one_more = one_more;
  withdrawn = withdrawn_stays;
  replaced = replaced_stays;
}
