use Rattle.std.proofs.Common.{map, arith}
use Rattle.std.proofs.lemmas.Grind.{common_steps}
use Rattle.ror_text.proofs.LineLemmas.{utf8_word}
use Rattle.ror_text.proofs.lines.word_at.Goals as goal

pub returns-in-Some-clause-utf8 : goal.returns-in-Some-clause-utf8
returns-in-Some-clause-utf8 c = λ utf8. utf8_word (map (λ word. word.now) c.args.words.now) c.args.i _ utf8 (grind (arith, common_steps))
