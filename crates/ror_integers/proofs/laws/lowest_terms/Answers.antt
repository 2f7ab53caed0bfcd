use Rattle.ror_integers.proofs.Gcd.{divided_coprime}
use Rattle.ror_integers.proofs.LowestTerms.{lowest_terms_exist, lowest_terms_unique, same_from_same_value, reduced-scaled_row, proportional_same}
use Rattle.ror_integers.proofs.laws.lowest_terms.Goals as goal

pub returns : goal.returns
returns c = record {
  exist = lowest_terms_exist;
  unique = lowest_terms_unique;
  same_from_same_value = same_from_same_value;
  reduced_coprime = divided_coprime;
  reduced_of_scaled = reduced-scaled_row;
  proportional_same = proportional_same;
}
