-- The pairs of one alternative more.
use Rattle.ror_relation.specs.Pairs.{pair_of_different}
use Rattle.ror_relation.proofs.PairLemmas.{questions_more}
use Rattle.ror_relation.proofs.pairs.push_pairs.Goals as goal

pub loop-b-preserved : goal.loop-b-preserved
loop-b-preserved c = questions_more (pair_of_different c.args.a) c.loop-b.b c.args.made.now.items c.loop-b.made.items c.push_different.new.made.items c.loop-b.invariant c.in_ok-push_different.ensures
