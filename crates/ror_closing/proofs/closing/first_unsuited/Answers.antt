use Rattle.std.proofs.Common.{arith, subst}
use Rattle.std.proofs.lemmas.List.{take_all}
use Rattle.ror_bench.proofs.UniqueLemmas.{true_not_false}
use Rattle.ror_closing.specs.Closing.{AreSuited}
use Rattle.ror_closing.proofs.ClosingLemmas.{suited_more, first_here}
use Rattle.ror_closing.proofs.closing.first_unsuited.Goals as goal

pub loop-line-init : goal.loop-line-init
loop-line-init c = tt

pub loop-line-preserved : goal.loop-line-preserved
loop-line-preserved c = suited_more c.args.lines.now c.loop-line.line-index c.line-item.result c.loop-line-test.true c.line-item.is c.loop-line.invariant (λ is. true_not_false _ (c.is_unsuited.ensures.1 is) c.if-is_unsuited.false)

pub returns : goal.returns
returns c = subst AreSuited (take_all c.loop-line.line-index c.args.lines.now (omega arith)) c.loop-line.invariant

pub returns-then-is_unsuited : goal.returns-then-is_unsuited
returns-then-is_unsuited c = first_here c.args.lines.now c.loop-line.line-index c.line-item.result c.loop-line-test.true c.line-item.is c.loop-line.invariant (c.is_unsuited.ensures.0 c.if-is_unsuited.true)
