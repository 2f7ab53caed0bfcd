use Rattle.std.proofs.Common.{◌≤◌}
use Rattle.ror_reason.specs.SearchSteps.{AreOthersBefore}
use Rattle.ror_reason.proofs.search.try_each.Given as goal

abbrev pub invariant-loop-number : goal.invariant-loop-number
invariant-loop-number l =
    AreOthersBefore l.sought l.part.numbers.items l.others.items l.number-index × (l.fn.engine.pivots ≤ l.engine.pivots)
