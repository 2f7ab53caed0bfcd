use mir.Syntax.{w128}
use Rattle.std.proofs.Common.{◌-◌, ◌^◌, lit<}
use Rattle.ror_word.proofs.CommonDivisors.{IsGcdOfWords, gcd_of_words}
use Rattle.ror_word.proofs.word_128.I128Word.gcd.Goals as goal

given_back : (c : goal.After-gcd_128) → IsGcdOfWords w128 (2 ^ 127 - 1) c.args.self c.args.other c.gcd_128.result
given_back c =
    gcd_of_words w128 (2 ^ 127 - 1) _ _ _ _ _ (lit< tt) c.ranges.self c.ranges.other c.requires.self_value c.requires.other_value
    c.unsigned_abs.ensures.value c.unsigned_abs-2.ensures.value c.gcd_128.ensures

pub overflow_cast-result : goal.overflow_cast-result
overflow_cast-result c = (given_back c).fits

pub returns-clause-greatest : goal.returns-clause-greatest
returns-clause-greatest c = (given_back c).greatest

pub returns-clause-within : goal.returns-clause-within
returns-clause-within c = (given_back c).within
