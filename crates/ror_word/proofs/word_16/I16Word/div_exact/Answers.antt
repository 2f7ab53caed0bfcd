use Rattle.std.proofs.Common.{rules}
use mir.Syntax.{w16}
use Rattle.ror_word.proofs.Quotients.{quotient_times}
use Rattle.ror_word.proofs.word_16.I16Word.div_exact.Goals as goal

pub returns-clause-exact : goal.returns-clause-exact
returns-clause-exact c = quotient_times w16 c.args.self c.args.by c.ranges.self c.ranges.by (search rules) c.requires.divides
