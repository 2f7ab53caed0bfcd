-- The pairs from one alternative more.
use Rattle.std.proofs.Common.{[], ◌≡◌, ◌*◌, ◌-◌, length, sym, subst, rules}
use Rattle.std.specs.List.{AllByRecursion}
use Rattle.ror_relation.specs.Pairs.{AreDifferentOf, ordered_pairs, pairs_from}
use Rattle.ror_relation.proofs.PairLemmas.{questions_more, ordered_pairs-different, ordered_pairs-count}
use Rattle.ror_relation.proofs.pairs.ordered_pairs.Goals as goal

pub loop-a-preserved : goal.loop-a-preserved
loop-a-preserved c = questions_more (pairs_from c.args.alternatives) c.loop-a.a [] c.loop-a.made.items c.push_pairs.new.made.items c.loop-a.invariant c.in_ok-push_pairs.ensures

pub returns-clause-different : goal.returns-clause-different
returns-clause-different c =
    let n = c.args.alternatives in
    let made : c.loop-a.made.items ≡ ordered_pairs n = search rules in
    subst (λ ps. AllByRecursion (AreDifferentOf n) ps) (sym made) (ordered_pairs-different n)

pub returns-clause-count : goal.returns-clause-count
returns-clause-count c =
    let n = c.args.alternatives in
    let made : c.loop-a.made.items ≡ ordered_pairs n = search rules in
    subst (λ ps. length ps ≡ n * (n - 1)) (sym made) (ordered_pairs-count n)
