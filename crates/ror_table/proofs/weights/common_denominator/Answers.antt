use Rattle.std.proofs.Common.{◌<◌, ◌*◌, sym, subst, arith, get_or}
use Rattle.ror_integers.proofs.Gcd.{gcd_positive_left, multiple_positive}
use Rattle.ror_table.specs.Amounts.{IsAmount}
use Rattle.ror_table.proofs.WeightLemmas.{nothing, next_is, passes_limit, fold_next, denominator_positive}
use Rattle.ror_table.proofs.weights.common_denominator.Goals as goal

pub nonzero_div-common : goal.nonzero_div-common
nonzero_div-common c = subst (λ g. 0 < g) (sym c.greatest_divisor.ensures) (gcd_positive_left c.loop-performance.common c.unsigned_abs-den.result c.loop-performance.invariant.positive)

pub returns-then-next-from : goal.returns-then-next-from
returns-then-next-from c =
    let l = c.loop-performance in
    let ps = c.args.performances.now in
    let k = l.performance-index in
    let p = get_or ps k nothing in
    let amount : IsAmount p = c.requires k nothing c.loop-performance-test.true in
    let is = next_is l.common c.greatest_divisor.result c.unsigned_abs-den.result c.from.result c.from-in-loop-performance.result p amount c.unsigned_abs-den.ensures.value c.greatest_divisor.ensures c.from.ensures c.from-in-loop-performance.ensures in
    passes_limit l.common (c.from.result * c.from-in-loop-performance.result) k ps nothing c.loop-performance-test.true l.invariant.positive c.requires l.invariant.all is (omega (arith, c.if-next-from.true, c.from-in-loop-performance-2.ensures))

pub loop-performance-preserved : goal.loop-performance-preserved
loop-performance-preserved c =
    let l = c.loop-performance in
    let ps = c.args.performances.now in
    let k = l.performance-index in
    let p = get_or ps k nothing in
    let amount : IsAmount p = c.requires k nothing c.loop-performance-test.true in
    let is = next_is l.common c.greatest_divisor.result c.unsigned_abs-den.result c.from.result c.from-in-loop-performance.result p amount c.unsigned_abs-den.ensures.value c.greatest_divisor.ensures c.from.ensures c.from-in-loop-performance.ensures in
    record {
      all = fold_next l.common (c.from.result * c.from-in-loop-performance.result) k ps nothing c.loop-performance-test.true l.invariant.all is;
      positive = subst (λ n. 0 < n) (sym is) (multiple_positive l.common _ l.invariant.positive (denominator_positive p amount));
      small = omega (arith, c.if-next-from.false, c.from-in-loop-performance-2.ensures);
    }
