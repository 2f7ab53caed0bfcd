use Rattle.ror_history.proofs.ListedLemmas.{AreOpened}
use Rattle.ror_history.proofs.history.opened.Given as goal

abbrev pub invariant-loop-statement : goal.invariant-loop-statement
invariant-loop-statement l = AreOpened l.chain.state l.opening l.number l.statement-index
