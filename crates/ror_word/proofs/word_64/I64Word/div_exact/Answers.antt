use Rattle.std.proofs.Common.{rules}
use mir.Syntax.{w64}
use Rattle.ror_word.proofs.Quotients.{quotient_times}
use Rattle.ror_word.proofs.word_64.I64Word.div_exact.Goals as goal

pub returns-clause-exact : goal.returns-clause-exact
returns-clause-exact c = quotient_times w64 c.args.self c.args.by c.ranges.self c.ranges.by (search rules) c.requires.divides
