use Rattle.std.proofs.Common.{◌<◌, arith}
use Rattle.ror_word.proofs.CommonDivisors.{gcd_where_zero, gcd_where_divides, gcd_by_parts}
use Rattle.ror_word.proofs.divisors.gcd_128.Goals as goal

pub returns-then-less-eq0 : goal.returns-then-less-eq0
returns-then-less-eq0 c = gcd_where_zero _ _ _ _ c.max-greater.ensures c.min-less.ensures c.if-less-eq0.true

pub returns-then-rest-eq0 : goal.returns-then-rest-eq0
returns-then-rest-eq0 c = gcd_where_divides _ _ _ _ c.max-greater.ensures c.min-less.ensures c.if-rest-eq0.true

pub returns : goal.returns
returns c =
    let above : 0 < c.min-less.result = omega arith in
    gcd_by_parts 128 _ _ _ _ _ _ _ _ _ _ c.max-greater.ensures c.min-less.ensures above c.min-less.type_inv
    c.without_twos_128-odd_less.ensures.part c.without_twos_128-odd_rest.ensures.part c.min.ensures c.gcd_of_odds_128.ensures
