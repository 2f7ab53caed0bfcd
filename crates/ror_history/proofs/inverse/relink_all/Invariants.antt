use Rattle.std.proofs.Common.{◌≡◌, ◌≤◌, reverse, vec_len}
use Rattle.ror_chain.specs.Chain.{CanRelinkAll, all_relinked}
use Rattle.ror_history.proofs.inverse.relink_all.Given as goal

abbrev pub invariant-nodes : goal.invariant-nodes
invariant-nodes l = record {
  can : CanRelinkAll l.chain.state (reverse l.nodes.items);
  same : all_relinked l.chain.state (reverse l.nodes.items) ≡ all_relinked l.initial.chain.state (reverse l.initial.nodes.items);
  room : l.initial.chain.spare ≤ l.chain.spare;
}

abbrev pub decreases-nodes : goal.decreases-nodes
decreases-nodes l = vec_len l.nodes
