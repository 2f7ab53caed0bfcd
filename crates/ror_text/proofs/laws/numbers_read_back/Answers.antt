use Rattle.std.proofs.Common.{arith, ap, ◌∙◌, ◌<◌, ◌^◌}
use Rattle.std.specs.Prelude.{unsigned_abs}
use Rattle.ror_text.specs.Numbers.{number_of, small_number_of}
use Rattle.ror_text.proofs.NumberLemmas.{number_of-signed_decimal, number_of-sound, small_number_of-decimal, small_number_of-sound, is_word-signed_decimal}
use Rattle.ror_text.proofs.laws.numbers_read_back.Goals as goal

pub returns-clause-numbers : goal.returns-clause-numbers
returns-clause-numbers c = λ word z. (number_of-sound word z, λ h. ap number_of h.0 ∙ number_of-signed_decimal z h.1)

pub returns-clause-small : goal.returns-clause-small
returns-clause-small c = λ word n. (small_number_of-sound word n, λ h. ap small_number_of h.0 ∙ small_number_of-decimal n h.1)

pub returns-clause-words : goal.returns-clause-words
returns-clause-words c = λ z h. let small : unsigned_abs z < 10 ^ 64 = omega arith in is_word-signed_decimal z small
