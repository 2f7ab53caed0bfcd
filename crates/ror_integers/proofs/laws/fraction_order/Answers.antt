use Rattle.ror_integers.proofs.Comparisons.{fraction_cmp_reflexive, fraction_cmp_reversed, fraction_cmp_less, fraction_cmp_equal, fraction_cmp_transitive, fraction_cmp_congruent, fraction_cmp_of_scaled, fraction_cmp_of_integers, fraction_cmp_of_inverses, fraction_cmp_by_whole_parts, fraction_cmp_by_rests}
use Rattle.ror_integers.proofs.laws.fraction_order.Goals as goal

pub returns : goal.returns
returns c = record {
  reflexive = fraction_cmp_reflexive;
  reversed = fraction_cmp_reversed;
  less = fraction_cmp_less;
  equal = fraction_cmp_equal;
  transitive = fraction_cmp_transitive;
  congruent = fraction_cmp_congruent;
  of_scaled = fraction_cmp_of_scaled;
  of_integers = fraction_cmp_of_integers;
  of_inverses = fraction_cmp_of_inverses;
  by_whole_parts = fraction_cmp_by_whole_parts;
  by_rests = fraction_cmp_by_rests;
}
