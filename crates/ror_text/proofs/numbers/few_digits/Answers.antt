use Rattle.std.proofs.Common.{rules, ◌<◌, ◌^◌, arith, sym}
use Rattle.ror_text.proofs.Digits.{one_digit_more, first_digits_small}
use Rattle.ror_text.proofs.numbers.few_digits.Goals as goal

pub overflow_mul-number : goal.overflow_mul-number
overflow_mul-number c =
    let small : c.loop-byte.number < 10 ^ 18 = first_digits_small c.args.word.now c.loop-byte.byte-index c.loop-byte.number c.loop-byte-test.true (omega arith) c.loop-byte.invariant.digits c.loop-byte.invariant.is in
    search rules

pub overflow_add-number : goal.overflow_add-number
overflow_add-number c =
    let small : c.loop-byte.number < 10 ^ 18 = first_digits_small c.args.word.now c.loop-byte.byte-index c.loop-byte.number c.loop-byte-test.true (omega arith) c.loop-byte.invariant.digits c.loop-byte.invariant.is in
    search rules

pub loop-byte-preserved : goal.loop-byte-preserved
loop-byte-preserved c =
    let more = one_digit_more c.args.word.now c.loop-byte.byte-index c.loop-byte.number c.loop-byte-test.true (sym c.if-not-is_ascii_digit.ensures.value) c.loop-byte.invariant.digits c.loop-byte.invariant.is in
    record { digits = more.0; is = rw c.from.ensures more.1 }
