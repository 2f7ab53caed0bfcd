use Rattle.std.proofs.lemmas.Result.{err_from_is_err_and}
use Rattle.ror_text.specs.Numbers.{small_number_of}
use Rattle.ror_proof.specs.Words.{number_in}
use Rattle.ror_proof.proofs.Loops.{all_go_on, all_exit, all_end}
use Rattle.ror_ranks_text.specs.Reading.{places_at}
use Rattle.ror_ranks_text.proofs.words.places_at.Goals as goal

pub returns-in_err-number-clause-exact : goal.returns-in_err-number-clause-exact
returns-in_err-number-clause-exact c =
    let p = err_from_is_err_and c.from_residual.result c.from_residual.ensures.1 in
    rw (p.1, p.2) (all_exit (number_in small_number_of c.args.place) c.places.places.items c.places.left c.in-Some.word.now c.in-Some.rest c.in_err-number.field-0.0 (places_at c.args.place c.args.words) c.in-Some.ensures c.in_err-number.ensures.exact c.places.invariant)

pub places-preserved : goal.places-preserved
places-preserved c =
    rw c.in_ok-push.ensures.items (all_go_on (number_in small_number_of c.args.place) c.places.places.items c.places.left c.in-Some.word.now c.in-Some.rest c.in_ok-number.number (places_at c.args.place c.args.words) c.in-Some.ensures c.in_ok-number.ensures.exact c.places.invariant)

pub returns-clause-exact : goal.returns-clause-exact
returns-clause-exact c = all_end (number_in small_number_of c.args.place) c.places.places.items c.places.left (places_at c.args.place c.args.words) c.in_default.ensures c.places.invariant
