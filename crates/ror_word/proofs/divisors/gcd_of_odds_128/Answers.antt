use Rattle.std.proofs.Common.{◌∙◌, ap, sym}
use Rattle.ror_integers.specs.Gcd.{gcd}
use Rattle.ror_word.proofs.CommonDivisors.{gcd-itself, odds_step}
use Rattle.ror_word.proofs.divisors.gcd_of_odds_128.Goals as goal

pub loop-left-preserved : goal.loop-left-preserved
loop-left-preserved c =
    let before = c.loop-left.invariant in
    let part = c.without_twos_128-right.ensures.part in
    let step = odds_step _ _ _ _ _ _ c.max.ensures c.min-less.ensures before.odd_left before.odd_right part in
    record { odd_left = step.0; odd_right = part.is_odd; same = step.1 ∙ before.same }

pub returns : goal.returns
returns c = sym (gcd-itself c.loop-left.left) ∙ ap (gcd c.loop-left.left) c.loop-left-test.false ∙ c.loop-left.invariant.same
