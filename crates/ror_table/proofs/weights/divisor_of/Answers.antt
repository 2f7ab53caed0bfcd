use Rattle.std.proofs.Common.{◌≡◌, ◌+◌, ℕ, pos, ap, subst, sym, ◌∙◌, arith, drop, unsigned_abs, ◌<◌}
use Rattle.std.specs.Int.{w64}
use mir.Val.{SFits}
use Rattle.std.proofs.lemmas.Int.{ints, to_z-of_z}
use Rattle.std.proofs.lemmas.List.{at_drop_all}
use Rattle.ror_integers.specs.Gcd.{gcd, gcd_of}
use Rattle.ror_integers.specs.Vectors.{entry}
use Rattle.ror_integers.proofs.Gcd.{gcd-zero_left, gcd-zero_right, gcd_of_more}
use Rattle.ror_table.proofs.WeightLemmas.{gcd_below}
use Rattle.ror_table.specs.declared.limits.TheConstants.{AMOUNT_LIMIT}
use Rattle.ror_table.proofs.weights.divisor_of.Goals as goal

pub loop-number-init : goal.loop-number-init
loop-number-init c = record { all = gcd-zero_left (gcd_of c.args.numbers.now); small = omega arith }

pub loop-number-preserved : goal.loop-number-preserved
loop-number-preserved c =
    let l = c.loop-number in
    let xs = c.args.numbers.now in
    let k = l.number-index in
    let x = entry xs k in
    let small : unsigned_abs x < AMOUNT_LIMIT = c.requires k (pos 0) c.loop-number-test.true in
    let fits : SFits w64 x = omega (arith, ints) in
    let e : c.unsigned_abs.result ≡ unsigned_abs x = c.unsigned_abs.ensures.value ∙ ap unsigned_abs (to_z-of_z w64 x fits) in
    let g : c.greatest_divisor-divisor.result ≡ gcd l.divisor (unsigned_abs x) = c.greatest_divisor-divisor.ensures ∙ ap (gcd l.divisor) e in
    record {
      all = ap (λ (d : ℕ). gcd d (gcd_of (drop (k + 1) xs))) g ∙ sym (gcd_of_more l.divisor xs k c.loop-number-test.true) ∙ l.invariant.all;
      small = subst (λ (d : ℕ). d < AMOUNT_LIMIT) (sym g) (gcd_below l.divisor (unsigned_abs x) AMOUNT_LIMIT l.invariant.small small);
    }

pub returns-clause-value : goal.returns-clause-value
returns-clause-value c =
    let l = c.loop-number in
    sym (gcd-zero_right l.divisor) ∙ sym (at_drop_all (λ xs. gcd l.divisor (gcd_of xs)) c.args.numbers.now l.number-index c.loop-number-test.false) ∙ l.invariant.all
