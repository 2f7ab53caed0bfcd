use Rattle.std.proofs.lemmas.Result.{err_from_is_err_and}
use Rattle.ror_text.specs.Numbers.{small_number_of}
use Rattle.ror_proof.specs.Words.{number_in}
use Rattle.ror_proof.proofs.Loops.{all_go_on, all_exit, all_end}
use Rattle.ror_show_forms.specs.Reading.{small_numbers_at}
use Rattle.ror_show_forms.proofs.read.numbers_at.Goals as goal

pub returns-in_err-number-clause-exact : goal.returns-in_err-number-clause-exact
returns-in_err-number-clause-exact c =
    let p = err_from_is_err_and c.from_residual.result c.from_residual.ensures.1 in
    rw (p.1, p.2) (all_exit (number_in small_number_of c.args.place) c.numbers.numbers.items c.numbers.left c.in-Some.word.now c.in-Some.rest c.in_err-number.field-0.0 (small_numbers_at c.args.place c.args.words) c.in-Some.ensures c.in_err-number.ensures.exact c.numbers.invariant)

pub numbers-preserved : goal.numbers-preserved
numbers-preserved c =
    rw c.in_ok-push.ensures.items (all_go_on (number_in small_number_of c.args.place) c.numbers.numbers.items c.numbers.left c.in-Some.word.now c.in-Some.rest c.in_ok-number.number (small_numbers_at c.args.place c.args.words) c.in-Some.ensures c.in_ok-number.ensures.exact c.numbers.invariant)

pub returns-clause-exact : goal.returns-clause-exact
returns-clause-exact c = all_end (number_in small_number_of c.args.place) c.numbers.numbers.items c.numbers.left (small_numbers_at c.args.place c.args.words) c.in_default.ensures c.numbers.invariant
