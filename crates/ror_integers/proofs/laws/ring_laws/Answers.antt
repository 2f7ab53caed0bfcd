use Rattle.std.proofs.Common.{arith, refl}
use Rattle.std.proofs.lemmas.Int.{ints}
use Rattle.ror_integers.proofs.Ring.{product_comm, product-sum, product_assoc}
use Rattle.ror_integers.proofs.laws.ring_laws.Goals as goal

pub returns : goal.returns
returns c = record {
  sum_commutes = λ a b. omega (arith, ints);
  sum_associates = λ a b c. omega (arith, ints);
  sum_with_zero = λ a. omega (arith, ints);
  sum_with_negation = λ a. omega (arith, ints);
  difference_is_sum = λ a b. refl;
  product_commutes = product_comm;
  product_associates = product_assoc;
  product_with_one = λ a. omega (arith, ints);
  product_of_sum = product-sum;
}
