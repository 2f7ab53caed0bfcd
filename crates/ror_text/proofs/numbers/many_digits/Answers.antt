use Rattle.std.proofs.Common.{sym}
use Rattle.ror_text.proofs.LineLemmas.{positive}
use Rattle.ror_text.proofs.Digits.{parsed, digits_are_text}
use Rattle.ror_text.proofs.numbers.many_digits.Goals as goal

pub returns-in-Ok : goal.returns-in-Ok
returns-in-Ok c = parsed c.args.word.now c.in-Ok.text.now c.parse.result c.ok.result c.in-Ok.ensures.cases.0 (positive _ c.if-is_empty.ensures) (sym c.if-not-all_digits.ensures) c.parse.ensures.value.0 c.ok.ensures.value

pub returns-in-Err : goal.returns-in-Err
returns-in-Err c = λ _. absurd (c.in-Err.ensures.cases.0 (digits_are_text c.args.word.now (sym c.if-not-all_digits.ensures)))
