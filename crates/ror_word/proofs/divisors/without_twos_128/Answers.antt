use mir.Syntax.{w128}
use Rattle.ror_word.proofs.CommonDivisors.{odd_part_is}
use Rattle.ror_word.proofs.divisors.without_twos_128.Goals as goal

pub returns-clause-part : goal.returns-clause-part
returns-clause-part c = odd_part_is w128 c.args.number c.requires c.ranges.number.fits
