-- Both parts divided by their greatest common divisor are the lowest terms.
use Rattle.std.proofs.Common.{sym, subst}
use Rattle.ror_fraction.specs.Ratios.{IsLowest}
use Rattle.ror_fraction.proofs.MadeLemmas.{reduced_made}
use Rattle.ror_fraction.proofs.RatioLemmas.{is_lowest, nonzero}
use Rattle.ror_fraction.proofs.fraction.Fraction.reduced.Goals as goal

pub invariant_of-result : goal.invariant_of-result
invariant_of-result g c =
    let value = g.W.Word.value in
    let made = reduced_made (value c.args.n) (value c.args.d) _ _ _ c.requires.positive c.common_divisor-common.ensures.greatest c.div_exact.ensures.quotient c.div_exact-2.ensures.quotient in
    (subst IsLowest (sym made) (is_lowest (value c.args.n) (value c.args.d) (nonzero (value c.args.d) c.requires.positive)), c.div_exact.ensures.within, c.div_exact-2.ensures.within)
