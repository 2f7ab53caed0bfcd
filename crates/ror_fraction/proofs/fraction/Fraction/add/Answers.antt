-- The steps are those of a sum.
use Rattle.std.proofs.Common.{unsigned_abs, ap₂, ◌∙◌}
use Rattle.std.proofs.Math.Nat.{dvd_trans}
use Rattle.ror_fraction.specs.declared.fault.FractionFault.TheVariants as faults
use Rattle.ror_fraction.specs.Ratios.{Ratio, sum_of, sum_numbers}
use Rattle.ror_fraction.specs.Wide.{unless_wide}
use Rattle.ror_fraction.proofs.MadeLemmas.{sum_made}
use Rattle.ror_fraction.proofs.WideLemmas.{from_ok_or, value_given}
use Rattle.ror_fraction.proofs.fraction.Fraction.add.Goals as goal

pub div_exact-rest-requires-clause-divides : goal.div_exact-rest-requires-clause-divides
div_exact-rest-requires-clause-divides g c =
    dvd_trans (unsigned_abs (g.W.Word.value c.common_divisor-shared.result)) c.common_divisor-shared.ensures.divides_positive c.common_divisor-common.ensures.divides_positive

pub invariant_of-result : goal.invariant_of-result
invariant_of-result g c =
    let value = g.W.Word.value in
    let x : Ratio = record { numerator = value c.self.inside.num; denominator = value c.self.inside.den } in
    let y : Ratio = record { numerator = value c.o.inside.num; denominator = value c.o.inside.den } in
    let left = from_ok_or value g.W.Word.most _ _ _ _ c.in_ok-left.ensures.value c.mul.ensures in
    let right = from_ok_or value g.W.Word.most _ _ _ _ c.in_ok-right.ensures.value c.mul-2.ensures in
    let sum = from_ok_or value g.W.Word.most _ _ _ _ c.in_ok-sum.ensures.value c.add.ensures in
    let den = from_ok_or value g.W.Word.most _ _ _ _ c.in_ok-den.ensures.value c.mul-3.ensures in
    let made = sum_made x y _ _ _ _ _ _ _ _ _ _ c.self.invariant.0 c.o.invariant.0 (record {
      common_is = c.common_divisor-common.ensures.greatest;
      own_is = c.div_exact-own.ensures.quotient;
      other_is = c.div_exact-other.ensures.quotient;
      left_is = left.0;
      right_is = right.0;
      sum_is = sum.0;
      shared_is = c.common_divisor-shared.ensures.greatest;
      rest_is = c.div_exact-rest.ensures.quotient;
      den_is = den.0;
      num_is = c.div_exact.ensures.quotient;
    }) in
    (made.0, c.div_exact.ensures.within, den.1)

pub returns : goal.returns
returns g c =
    let value = g.W.Word.value in
    let x : Ratio = record { numerator = value c.self.inside.num; denominator = value c.self.inside.den } in
    let y : Ratio = record { numerator = value c.o.inside.num; denominator = value c.o.inside.den } in
    let left = from_ok_or value g.W.Word.most _ _ _ _ c.in_ok-left.ensures.value c.mul.ensures in
    let right = from_ok_or value g.W.Word.most _ _ _ _ c.in_ok-right.ensures.value c.mul-2.ensures in
    let sum = from_ok_or value g.W.Word.most _ _ _ _ c.in_ok-sum.ensures.value c.add.ensures in
    let den = from_ok_or value g.W.Word.most _ _ _ _ c.in_ok-den.ensures.value c.mul-3.ensures in
    let made = sum_made x y _ _ _ _ _ _ _ _ _ _ c.self.invariant.0 c.o.invariant.0 (record {
      common_is = c.common_divisor-common.ensures.greatest;
      own_is = c.div_exact-own.ensures.quotient;
      other_is = c.div_exact-other.ensures.quotient;
      left_is = left.0;
      right_is = right.0;
      sum_is = sum.0;
      shared_is = c.common_divisor-shared.ensures.greatest;
      rest_is = c.div_exact-rest.ensures.quotient;
      den_is = den.0;
      num_is = c.div_exact.ensures.quotient;
    }) in
    record {
      exact = value_given faults.Wide g.W.Word.most (sum_numbers x y) _ (sum_of x y) made.1 (made.2 g.W.Word.most left.1 right.1 sum.1 den.1)
          ∙ ap₂ (λ (u v : Ratio). unless_wide faults.Wide g.W.Word.most (sum_numbers u v) (sum_of u v)) c.self.view_is c.o.view_is;
      lowest = made.0;
    }
