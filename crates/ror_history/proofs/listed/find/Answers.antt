use Rattle.std.proofs.Common.{arith}
use Rattle.std.proofs.lemmas.Bool.{both_ways}
use Rattle.ror_history.proofs.ListedLemmas.{zero_not_found, not_found, past_not_linked}
use Rattle.ror_history.proofs.listed.find.Goals as goal
use Rattle.ror_history.proofs.listed.find.Goals.{else-node-nodes-via-then-node-nodes+else-linked, else-node-nodes-via-else-node-nodes}

pub returns-in_err-node : goal.returns-in_err-node
returns-in_err-node c = rw c.from_residual.ensures (zero_not_found c.args.chain.now.state c.args.number c.requires c.in_err-node.ensures)

pub returns-else-node-nodes : goal.returns-else-node-nodes
returns-else-node-nodes c = elim c.else-node-nodes.branch [
  | else-node-nodes-via-then-node-nodes+else-linked w ↦ not_found c.args.chain.now.state c.args.number c.in_ok-node.node c.requires c.in_ok-node.ensures.0 c.in_ok-node.ensures.1 (λ k. both_ways w.linked.result w.if-linked.false (w.linked.ensures.1 k))
  | else-node-nodes-via-else-node-nodes w ↦ not_found c.args.chain.now.state c.args.number c.in_ok-node.node c.requires c.in_ok-node.ensures.0 c.in_ok-node.ensures.1 (past_not_linked c.args.chain.now.state c.in_ok-node.node c.requires (omega (arith, c.nodes.ensures.counted, w.if-node-nodes.false)))
]
