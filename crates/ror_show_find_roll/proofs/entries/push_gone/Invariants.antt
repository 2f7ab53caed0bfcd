use Rattle.std.proofs.Common.{◌≡◌, ◌++◌, drop}
use Rattle.ror_show_find_roll.specs.Roll.{taken_away}
use Rattle.ror_show_find_roll.proofs.entries.push_gone.Given as goal

abbrev pub invariant-entries : goal.invariant-entries
invariant-entries l = l.gone.items ++ taken_away l.step (drop l.entry-index l.entries) ≡ l.initial.gone.items ++ taken_away l.step l.entries
