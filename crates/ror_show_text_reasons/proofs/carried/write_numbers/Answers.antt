-- One element more.
use Rattle.std.proofs.Common.{◌≡◌, ◌++◌, get_or, rules}
use Rattle.ror_show_kit.specs.Words.{number}
use Rattle.ror_show_kit.proofs.ElementLemmas.{one_more}
use Rattle.ror_show_text_reasons.proofs.carried.write_numbers.Goals as goal

pub numbers-preserved : goal.numbers-preserved
numbers-preserved c =
    let pushed : c.write_number.new.text.items ≡ c.numbers.text.items ++ number (get_or c.args.numbers.now c.numbers.number-index 0) = search rules in
    one_more number c.args.numbers.now c.numbers.number-index 0 c.args.text.now.items c.numbers.text.items c.write_number.new.text.items c.numbers-test.true c.numbers.invariant pushed
