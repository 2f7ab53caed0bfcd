use Rattle.std.proofs.Common.{◌≡◌, ◌<◌, drop, fold}
use Rattle.ror_table.specs.declared.limits.TheConstants.{AMOUNT_LIMIT}
use Rattle.ror_table.specs.Table.{common_denominator}
use Rattle.ror_table.proofs.WeightLemmas.{with_denominator}
use Rattle.ror_table.proofs.weights.common_denominator.Given as goal

abbrev pub invariant-loop-performance : goal.invariant-loop-performance
invariant-loop-performance l = record {
  all : fold with_denominator l.common (drop l.performance-index l.performances) ≡ common_denominator l.performances;
  positive : 0 < l.common;
  small : l.common < AMOUNT_LIMIT;
}
