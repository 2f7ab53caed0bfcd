use Rattle.std.proofs.Common.{◌≡◌, ◌≤◌, length}
use Rattle.ror_ranks_find.specs.Search.{AreCopiedFrom}
use Rattle.ror_ranks_find.proofs.shown.named_by.Given as goal

abbrev pub invariant-loop-node : goal.invariant-loop-node
invariant-loop-node l = record {
  copied : AreCopiedFrom l.conflicts l.shown.conflicts.items;
  no_more : length l.shown.conflicts.items ≤ length l.conflicts;
  nodes : length l.shown.nodes.items ≡ l.node-index;
}
