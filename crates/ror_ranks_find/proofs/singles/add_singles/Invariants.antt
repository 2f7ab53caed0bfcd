use Rattle.std.proofs.Common.{◌≤◌, drop}
use Rattle.std.specs.List.{AllByRecursion}
use Rattle.ror_ranks_find.specs.Search.{IsFoundFor, IsOther}
use Rattle.ror_ranks_find.proofs.singles.add_singles.Given as goal

abbrev pub invariant-loop-other : goal.invariant-loop-other
invariant-loop-other l = record {
  found : IsFoundFor l.sought l.found;
  others : AllByRecursion (IsOther l.sought.asked) (drop l.other-index l.other-items);
  counted : l.fn.engine.pivots ≤ l.engine.pivots;
}
