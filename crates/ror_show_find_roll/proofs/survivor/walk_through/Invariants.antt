use Rattle.std.proofs.Common.{◌≡◌, [], ◌++◌, drop}
use Rattle.std.specs.List.{fold}
use Rattle.ror_show_find_roll.specs.Roll.{survivors_with, survivors, taken_back, asked_of_nothing}
use Rattle.ror_show_find_roll.proofs.survivor.walk_through.Given as goal

abbrev pub invariant-steps : goal.invariant-steps
invariant-steps l = record {
  surviving : fold (survivors_with l.opening) l.survivors.items (drop l.step-index l.steps) ≡ survivors l.opening l.steps;
  taken : l.taken_back.items ++ taken_back l.opening l.survivors.items (drop l.step-index l.steps) ≡ taken_back l.opening [] l.steps;
  asked : l.asked_of_nothing.items ++ asked_of_nothing l.opening l.survivors.items (drop l.step-index l.steps) ≡ asked_of_nothing l.opening [] l.steps;
}
