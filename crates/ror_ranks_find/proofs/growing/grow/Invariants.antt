use Rattle.std.proofs.Common.{◌≡◌, ◌≤◌}
use Rattle.ror_ranks_find.specs.Search.{HasMore, IsFoundFor, IsGrownTo}
use Rattle.ror_ranks_find.proofs.growing.grow.Given as goal

abbrev pub invariant-loop-node : goal.invariant-loop-node
invariant-loop-node l = record {
  grown : IsGrownTo l._node l.found l.tree;
  goal : l.tree.goal ≡ l.goal;
  found : IsFoundFor l.sought l.found;
  more : HasMore l.fn.found l.found;
  counted : l.fn.engine.pivots ≤ l.engine.pivots;
}
