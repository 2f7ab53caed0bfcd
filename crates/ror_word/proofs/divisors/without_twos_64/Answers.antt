use mir.Syntax.{w64}
use Rattle.ror_word.proofs.CommonDivisors.{odd_part_is}
use Rattle.ror_word.proofs.divisors.without_twos_64.Goals as goal

pub returns-clause-part : goal.returns-clause-part
returns-clause-part c = odd_part_is w64 c.args.number c.requires c.ranges.number.fits
