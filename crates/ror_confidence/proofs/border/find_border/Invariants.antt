use Rattle.std.proofs.Common.{◌-◌}
use Rattle.ror_pivot.specs.Answers.{most_of}
use Rattle.ror_confidence.specs.Searching.{HasSearched}
use Rattle.ror_confidence.proofs.border.find_border.Given as goal

abbrev pub invariant-levels : goal.invariant-levels
invariant-levels g l = HasSearched (most_of l.bits) l.table l.lists l.q l.fn.sought.end l.low l.high l.below.items l.from.items

abbrev pub decreases-levels : goal.decreases-levels
decreases-levels g l = l.high - l.low
