use Rattle.ror_integers.proofs.Gcd.{gcd_is_greatest, gcd-zero_right, multiple_of_first, multiple_of_second, multiple_positive, least_of_multiples, gcd_of-divides, dvd-gcd_of, gcd_of-scaled_row, gauss, exact_quotient_times, divided_times, divided_coprime, int_gcd_of_quotients}
use Rattle.ror_integers.proofs.laws.gcd_laws.Goals as goal

pub returns : goal.returns
returns c = record {
  greatest_of_two = gcd_is_greatest;
  of_zeros = gcd-zero_right 0;
  multiple_of_first = multiple_of_first;
  multiple_of_second = multiple_of_second;
  multiple_positive = multiple_positive;
  least_of_multiples = least_of_multiples;
  divides_each = gcd_of-divides;
  greatest = dvd-gcd_of;
  scales = gcd_of-scaled_row;
  gauss = gauss;
  quotient_is_exact = exact_quotient_times;
  divided_times = divided_times;
  divided_coprime = divided_coprime;
  quotients_coprime = int_gcd_of_quotients;
}
