use Rattle.std.proofs.Common.{◌≤◌, ◌-◌, length}
use Rattle.ror_reason.specs.SearchSteps.{IsPart}
use Rattle.ror_reason.proofs.search.without_idle.Given as goal

abbrev pub invariant-places : goal.invariant-places
invariant-places l = IsPart l.sought l.part × (l.fn.engine.pivots ≤ l.engine.pivots)

abbrev pub decreases-places : goal.decreases-places
decreases-places l = length l.part.numbers.items - l.place
