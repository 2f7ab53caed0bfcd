use Rattle.std.proofs.Common.{sym, subst, refl}
use Rattle.ror_statement.specs.declared.statement.Statement.TheVariants.{Prefer}
use Rattle.ror_statement.specs.declared.statement.Numbered.{Numbered}
use Rattle.ror_chain.specs.Chain.{ChainState}
use Rattle.ror_chain.proofs.ChainLemmas.{IsChain-empty}
use Rattle.ror_history.proofs.ListedLemmas.{AreOpened, opened_more, opened_all}
use Rattle.ror_history.proofs.history.opened.Goals as goal

pub loop-statement-init : goal.loop-statement-init
loop-statement-init c = subst (λ (s : ChainState Numbered). AreOpened s c.args.opening.now 1 0) (sym c.new-chain.ensures) (record { chain = IsChain-empty; items = refl; linked = refl; counted = refl })

pub loop-statement-preserved : goal.loop-statement-preserved
loop-statement-preserved c = opened_more c.loop-statement.chain.state c.push.new.self.state c.args.opening.now c.loop-statement.number c.loop-statement.statement-index (Prefer 0 0) c.loop-statement.invariant c.loop-statement-test.true c.in_ok-push.ensures.pushed

pub returns : goal.returns
returns c = opened_all c.loop-statement.chain.state c.args.opening.now c.loop-statement.number c.loop-statement.statement-index c.loop-statement.invariant c.loop-statement-test.false
