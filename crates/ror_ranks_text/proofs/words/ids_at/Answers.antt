use Rattle.std.proofs.lemmas.Result.{err_from_is_err_and}
use Rattle.ror_proof.specs.Words.{all_at}
use Rattle.ror_proof.proofs.Loops.{all_go_on, all_exit, all_end}
use Rattle.ror_ranks_text.specs.Reading.{alternative_in}
use Rattle.ror_ranks_text.proofs.words.ids_at.Goals as goal

pub returns-in_err-alternative-clause-exact : goal.returns-in_err-alternative-clause-exact
returns-in_err-alternative-clause-exact c =
    let read = alternative_in c.args.table.now c.args.place in
    let p = err_from_is_err_and c.from_residual.result c.from_residual.ensures.1 in
    rw (p.1, p.2) (all_exit read c.ids.ids.items c.ids.left c.in-Some.id.now c.in-Some.rest c.in_err-alternative.field-0.0 (all_at read c.args.words) c.in-Some.ensures c.in_err-alternative.ensures.exact c.ids.invariant)

pub ids-preserved : goal.ids-preserved
ids-preserved c =
    let read = alternative_in c.args.table.now c.args.place in
    rw c.in_ok-push.ensures.items (all_go_on read c.ids.ids.items c.ids.left c.in-Some.id.now c.in-Some.rest c.in_ok-alternative.alternative (all_at read c.args.words) c.in-Some.ensures c.in_ok-alternative.ensures.exact c.ids.invariant)

pub returns-clause-exact : goal.returns-clause-exact
returns-clause-exact c =
    let read = alternative_in c.args.table.now c.args.place in
    all_end read c.ids.ids.items c.ids.left (all_at read c.args.words) c.in_default.ensures c.ids.invariant
