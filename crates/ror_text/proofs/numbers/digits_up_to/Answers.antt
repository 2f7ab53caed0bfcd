use Rattle.std.proofs.Common.{◌<◌, ◌^◌, rules, ◌∙◌, sym, arith}
use Rattle.ror_text.proofs.Digits.{none_up_to, up_to_small}
use Rattle.ror_text.proofs.numbers.digits_up_to.Goals as goal

pub returns-in_err-number-clause-value : goal.returns-in_err-number-clause-value
returns-in_err-number-clause-value c = c.from_residual.ensures ∙ sym (none_up_to c.args.most c.args.word.now (omega arith) (omega arith) c.in_err-number.ensures)

pub overflow_cast-result : goal.overflow_cast-result
overflow_cast-result c =
    let small : c.in_ok-number.number < 10 ^ 18 = rw c.in_ok-number.ensures.1 (up_to_small 18 c.args.word.now (omega arith) c.in_ok-number.ensures.0) in
    search rules

pub returns-clause-small : goal.returns-clause-small
returns-clause-small c = rw c.in_ok-number.ensures.1 (up_to_small c.args.most c.args.word.now (omega arith) c.in_ok-number.ensures.0)
