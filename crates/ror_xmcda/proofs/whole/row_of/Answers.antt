use Rattle.std.proofs.lemmas.Result.{err_from_is_err_and}
use Rattle.ror_xmcda.specs.Whole.{next_performance, row_of}
use Rattle.ror_xmcda.proofs.WholeLemmas.{row_exit}
use Rattle.ror_xmcda.proofs.whole.row_of.Goals as goal

pub returns-in_err-next_performance-clause-exact : goal.returns-in_err-next_performance-clause-exact
unfolding row_of
returns-in_err-next_performance-clause-exact c =
    let p = err_from_is_err_and c.from_residual.result c.from_residual.ensures.1 in
    rw (p.1, p.2) (row_exit (next_performance c.args.given.now c.args.a) c.loop-i.row.items c.loop-i.i c.args.criteria _ _ c.loop-i-test.true c.loop-i.invariant.same c.in_err-next_performance.ensures.exact)
