use Rattle.std.proofs.Common.{◌-◌, length, vec_len}
use Rattle.ror_history.proofs.WalkLemmas.{IsWalk}
use Rattle.ror_history.proofs.listed.listed.Given as goal

abbrev pub invariant-nodes : goal.invariant-nodes
invariant-nodes l = IsWalk l.chain.state l.at l.list.items

abbrev pub decreases-nodes : goal.decreases-nodes
decreases-nodes l = length l.chain.state.order - vec_len l.list
