use Rattle.std.proofs.Common.{◌≡◌, ◌≤◌, length}
use Rattle.ror_ranks_find.specs.Search.{AreCopiedFrom}
use Rattle.ror_ranks_find.proofs.shown.Shown.push.Given as goal

abbrev pub invariant-loop-place : goal.invariant-loop-place
invariant-loop-place l = record {
  copied : AreCopiedFrom l.conflicts l.self.conflicts.items;
  no_more : length l.self.conflicts.items ≤ length l.conflicts;
  nodes : l.self.nodes ≡ l.initial.self.nodes;
}
