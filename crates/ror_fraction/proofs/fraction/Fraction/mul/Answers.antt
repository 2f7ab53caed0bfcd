-- The steps are those of a product.
use Rattle.std.proofs.Common.{ap₂, ◌∙◌}
use Rattle.ror_fraction.specs.declared.fault.FractionFault.TheVariants as faults
use Rattle.ror_fraction.specs.Ratios.{Ratio, product_of, product_numbers}
use Rattle.ror_fraction.specs.Wide.{unless_wide}
use Rattle.ror_fraction.proofs.MadeLemmas.{product_made}
use Rattle.ror_fraction.proofs.WideLemmas.{from_ok_or, value_given}
use Rattle.ror_fraction.proofs.fraction.Fraction.mul.Goals as goal

pub invariant_of-result : goal.invariant_of-result
invariant_of-result g c =
    let value = g.W.Word.value in
    let x : Ratio = record { numerator = value c.self.inside.num; denominator = value c.self.inside.den } in
    let y : Ratio = record { numerator = value c.o.inside.num; denominator = value c.o.inside.den } in
    let num = from_ok_or value g.W.Word.most _ _ _ _ c.in_ok-num.ensures.value c.mul.ensures in
    let den = from_ok_or value g.W.Word.most _ _ _ _ c.in_ok-den.ensures.value c.mul-2.ensures in
    let made = product_made x y _ _ _ _ _ _ _ _ c.self.invariant.0 c.o.invariant.0 (record {
      across_is = c.common_divisor-across.ensures.greatest;
      back_is = c.common_divisor-back.ensures.greatest;
      own_num_is = c.div_exact-own_num.ensures.quotient;
      other_num_is = c.div_exact-other_num.ensures.quotient;
      own_den_is = c.div_exact-own_den.ensures.quotient;
      other_den_is = c.div_exact-other_den.ensures.quotient;
      num_is = num.0;
      den_is = den.0;
    }) in
    (made.0, num.1, den.1)

pub returns : goal.returns
returns g c =
    let value = g.W.Word.value in
    let x : Ratio = record { numerator = value c.self.inside.num; denominator = value c.self.inside.den } in
    let y : Ratio = record { numerator = value c.o.inside.num; denominator = value c.o.inside.den } in
    let num = from_ok_or value g.W.Word.most _ _ _ _ c.in_ok-num.ensures.value c.mul.ensures in
    let den = from_ok_or value g.W.Word.most _ _ _ _ c.in_ok-den.ensures.value c.mul-2.ensures in
    let made = product_made x y _ _ _ _ _ _ _ _ c.self.invariant.0 c.o.invariant.0 (record {
      across_is = c.common_divisor-across.ensures.greatest;
      back_is = c.common_divisor-back.ensures.greatest;
      own_num_is = c.div_exact-own_num.ensures.quotient;
      other_num_is = c.div_exact-other_num.ensures.quotient;
      own_den_is = c.div_exact-own_den.ensures.quotient;
      other_den_is = c.div_exact-other_den.ensures.quotient;
      num_is = num.0;
      den_is = den.0;
    }) in
    record {
      exact = value_given faults.Wide g.W.Word.most (product_numbers x y) _ (product_of x y) made.1 (made.2 g.W.Word.most num.1 den.1)
          ∙ ap₂ (λ (u v : Ratio). unless_wide faults.Wide g.W.Word.most (product_numbers u v) (product_of u v)) c.self.view_is c.o.view_is;
      lowest = made.0;
    }
