use Rattle.std.proofs.Common.{inl, inr, arith, pos}
use Rattle.std.proofs.lemmas.Int.{ints}
use Rattle.ror_integers.proofs.Order.{mul_le, mul_lt, cancel_le, cancel_lt, zero_factor, absolute-product, le_cases, le_of_lt}
use Rattle.ror_integers.proofs.laws.order_laws.Goals as goal

pub returns : goal.returns
returns c = record {
  total = λ a b. le_cases a b inl inr;
  antisymmetric = λ a b p q. omega (arith, ints);
  transitive = λ a b d p q. omega (arith, ints);
  strict = λ a b p q. absurd (omega (arith, ints));
  sum_keeps = λ a b d p. omega (arith, ints);
  product_keeps = mul_le;
  product_keeps_strict = mul_lt;
  factor_cancels = cancel_le;
  factor_cancels_strict = λ k a b p. cancel_lt k a b (le_of_lt (pos 0) k p);
  no_zero_divisors = zero_factor;
  absolute_product = absolute-product;
}
