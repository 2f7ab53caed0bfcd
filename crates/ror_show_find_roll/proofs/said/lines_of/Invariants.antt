use Rattle.std.proofs.Common.{◌≡◌, map, take}
use Rattle.ror_show_find_roll.specs.Said.{said_by}
use Rattle.ror_show_find_roll.proofs.said.lines_of.Given as goal

abbrev pub invariant-loop-entry : goal.invariant-loop-entry
invariant-loop-entry l = l.said.items ≡ map (λ e. said_by l.lines e.said) (take l.entry-index l.entries)
