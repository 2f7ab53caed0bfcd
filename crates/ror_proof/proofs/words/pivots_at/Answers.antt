use Rattle.std.proofs.lemmas.Result.{err_from_is_err_and}
use Rattle.ror_proof.specs.Words.{pivot_in, pivots_at}
use Rattle.ror_proof.proofs.Loops.{all_go_on, all_exit, all_end}
use Rattle.ror_proof.proofs.words.pivots_at.Goals as goal

pub returns-in_err-pivot-clause-exact : goal.returns-in_err-pivot-clause-exact
returns-in_err-pivot-clause-exact c =
    let p = err_from_is_err_and c.from_residual.result c.from_residual.ensures.1 in
    rw (p.1, p.2) (all_exit (pivot_in c.args.place) c.pivots.pivots.items c.pivots.left c.in-Some.word.now c.in-Some.rest c.in_err-pivot.field-0.0 (pivots_at c.args.place c.args.words) c.in-Some.ensures c.in_err-pivot.ensures.exact c.pivots.invariant)

pub pivots-preserved : goal.pivots-preserved
pivots-preserved c =
    rw c.in_ok-push.ensures.items (all_go_on (pivot_in c.args.place) c.pivots.pivots.items c.pivots.left c.in-Some.word.now c.in-Some.rest c.in_ok-pivot.pivot (pivots_at c.args.place c.args.words) c.in-Some.ensures c.in_ok-pivot.ensures.exact c.pivots.invariant)

pub returns-clause-exact : goal.returns-clause-exact
returns-clause-exact c = all_end (pivot_in c.args.place) c.pivots.pivots.items c.pivots.left (pivots_at c.args.place c.args.words) c.in_default.ensures c.pivots.invariant
