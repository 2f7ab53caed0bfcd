use Rattle.std.proofs.Common.{◌≡◌, drop}
use Rattle.std.specs.List.{fold}
use Rattle.ror_show_find_roll.specs.Roll.{tally_with, tally_of}
use Rattle.ror_show_find_roll.proofs.entries.tally_of.Given as goal

abbrev pub invariant-survivors : goal.invariant-survivors
invariant-survivors l = fold tally_with (record { entries = l.entries.items; gone = l.gone.items }) (drop l.survivor-index l.survivors) ≡ tally_of l.fn.opening l.survivors
