-- The parts are exchanged, each with the numerator's sign.
use Rattle.std.proofs.Common.{◌≢◌, pos, ◌<ℤ◌, ap, sym, ◌∙◌, subst}
use Rattle.ror_fraction.specs.Ratios.{Ratio, reciprocal}
use Rattle.ror_fraction.proofs.MadeLemmas.{inverse_made, signed_by-negative, signed_by-not_negative}
use Rattle.ror_fraction.proofs.fraction.Fraction.inverse.Goals as goal

pub invariant_of-result : goal.invariant_of-result
invariant_of-result g c =
    let value = g.W.Word.value in
    let x : Ratio = record { numerator = value c.self.inside.num; denominator = value c.self.inside.den } in
    let below = c.is_negative.ensures.0 c.if-is_negative.true in
    let nonzero = subst (λ (y : Ratio). y.numerator ≢ pos 0) (sym c.self.view_is) c.requires in
    let made = inverse_made x _ _ c.self.invariant.0 nonzero
    (c.neg.ensures.exact ∙ signed_by-negative x.numerator x.denominator below)
    (c.neg-then-is_negative.ensures.exact ∙ signed_by-negative x.numerator x.numerator below) in
    (made.0, c.neg.ensures.within, c.neg-then-is_negative.ensures.within)

pub returns-then-is_negative : goal.returns-then-is_negative
returns-then-is_negative g c =
    let value = g.W.Word.value in
    let x : Ratio = record { numerator = value c.self.inside.num; denominator = value c.self.inside.den } in
    let below = c.is_negative.ensures.0 c.if-is_negative.true in
    let nonzero = subst (λ (y : Ratio). y.numerator ≢ pos 0) (sym c.self.view_is) c.requires in
    let made = inverse_made x _ _ c.self.invariant.0 nonzero
    (c.neg.ensures.exact ∙ signed_by-negative x.numerator x.denominator below)
    (c.neg-then-is_negative.ensures.exact ∙ signed_by-negative x.numerator x.numerator below) in
    made.1 ∙ ap reciprocal c.self.view_is

pub invariant_of-result-2 : goal.invariant_of-result-2
invariant_of-result-2 g c =
    let value = g.W.Word.value in
    let x : Ratio = record { numerator = value c.self.inside.num; denominator = value c.self.inside.den } in
    let not_below : ¬ (x.numerator <ℤ pos 0) = λ h. (let t = c.is_negative.ensures.1 h in let f = c.if-is_negative.false in cc) in
    let nonzero = subst (λ (y : Ratio). y.numerator ≢ pos 0) (sym c.self.view_is) c.requires in
    let made = inverse_made x _ _ c.self.invariant.0 nonzero
    (signed_by-not_negative x.numerator x.denominator not_below)
    (signed_by-not_negative x.numerator x.numerator not_below) in
    (made.0, c.self.invariant.2, c.self.invariant.1)

pub returns : goal.returns
returns g c =
    let value = g.W.Word.value in
    let x : Ratio = record { numerator = value c.self.inside.num; denominator = value c.self.inside.den } in
    let not_below : ¬ (x.numerator <ℤ pos 0) = λ h. (let t = c.is_negative.ensures.1 h in let f = c.if-is_negative.false in cc) in
    let nonzero = subst (λ (y : Ratio). y.numerator ≢ pos 0) (sym c.self.view_is) c.requires in
    let made = inverse_made x _ _ c.self.invariant.0 nonzero
    (signed_by-not_negative x.numerator x.denominator not_below)
    (signed_by-not_negative x.numerator x.numerator not_below) in
    made.1 ∙ ap reciprocal c.self.view_is
