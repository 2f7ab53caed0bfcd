use Rattle.std.proofs.Common.{rules}
use mir.Syntax.{w128}
use Rattle.ror_word.proofs.Quotients.{quotient_times}
use Rattle.ror_word.proofs.word_128.I128Word.div_exact.Goals as goal

pub returns-clause-exact : goal.returns-clause-exact
returns-clause-exact c = quotient_times w128 c.args.self c.args.by c.ranges.self c.ranges.by (search rules) c.requires.divides
