use Rattle.std.proofs.Common.{◌-◌, ◌≤◌, length, vec_len, vec_capacity}
use Rattle.ror_history.proofs.WalkLemmas.{IsTelling}
use Rattle.ror_history.proofs.listed.list_statements.Given as goal

abbrev pub invariant-nodes : goal.invariant-nodes
invariant-nodes l = record {
  told : IsTelling l.chain.state l.at l.list.items;
  room : length l.chain.state.order ≤ vec_capacity l.list;
  kept : vec_capacity l.fn.list ≤ vec_capacity l.list;
}

abbrev pub decreases-nodes : goal.decreases-nodes
decreases-nodes l = length l.chain.state.order - vec_len l.list
