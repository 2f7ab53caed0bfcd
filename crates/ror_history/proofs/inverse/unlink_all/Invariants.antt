use Rattle.std.proofs.Common.{◌≡◌, ◌≤◌, drop}
use Rattle.ror_chain.specs.Chain.{CanUnlinkAll, all_unlinked}
use Rattle.ror_history.proofs.inverse.unlink_all.Given as goal

abbrev pub invariant-loop-node : goal.invariant-loop-node
invariant-loop-node l = record {
  can : CanUnlinkAll l.chain.state (drop l.node-index l.nodes);
  same : all_unlinked l.chain.state (drop l.node-index l.nodes) ≡ all_unlinked l.initial.chain.state l.nodes;
  room : l.initial.chain.spare ≤ l.chain.spare;
}
