use Rattle.ror_history.proofs.ListedLemmas.{AreFound}
use Rattle.ror_history.proofs.listed.find_all.Given as goal

abbrev pub invariant-loop-number : goal.invariant-loop-number
invariant-loop-number l = AreFound l.chain.state l.nodes.items l.list l.number-index
