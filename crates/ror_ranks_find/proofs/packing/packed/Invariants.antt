use Rattle.std.proofs.Common.{◌≤◌, length}
use Rattle.ror_ranks_find.specs.Search.{HasMore, IsFoundFor, IsPacking}
use Rattle.ror_ranks_find.proofs.packing.packed.Given as goal

-- each turn took a conflict, so that after as many as are to be shown none is wanting
abbrev pub invariant-loop-taken : goal.invariant-loop-taken
invariant-loop-taken l = record {
  packing : IsPacking l.found.conflicts.items l.set l.goal l.packing;
  many : l._taken ≤ length l.packing.places.items;
  found : IsFoundFor l.sought l.found;
  more : HasMore l.fn.found l.found;
  counted : l.fn.engine.pivots ≤ l.engine.pivots;
}
