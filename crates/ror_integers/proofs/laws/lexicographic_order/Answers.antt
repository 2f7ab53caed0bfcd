use Rattle.ror_integers.proofs.Lexicographic.{lexicographic_total, lexicographic_equal, lexicographic_less, lexicographic_of_scaled_rows, scaled_lexicographic_is, scaled_lexicographic_reflexive, scaled_lexicographic_reversed, scaled_lexicographic_transitive, scaled_lexicographic_congruent, scaled_lexicographic_by_factor}
use Rattle.ror_integers.proofs.laws.lexicographic_order.Goals as goal

pub returns : goal.returns
returns c = record {
  total_order = lexicographic_total;
  equal_only_itself = lexicographic_equal;
  less = lexicographic_less;
  of_scaled_rows = lexicographic_of_scaled_rows;
  scaled_is = scaled_lexicographic_is;
  scaled_reflexive = scaled_lexicographic_reflexive;
  scaled_reversed = scaled_lexicographic_reversed;
  scaled_transitive = scaled_lexicographic_transitive;
  scaled_congruent = scaled_lexicographic_congruent;
  scaled_by_factor = scaled_lexicographic_by_factor;
}
