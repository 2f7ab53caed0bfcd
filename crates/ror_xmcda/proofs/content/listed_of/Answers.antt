use Rattle.std.proofs.lemmas.Result.{err_from_is_err_and}
use Rattle.ror_elements.specs.Tree.{tree_of}
use Rattle.ror_xmcda.proofs.ContentLemmas.{criteria_exit}
use Rattle.ror_xmcda.proofs.content.listed_of.Goals as goal

pub returns-in_err-criteria : goal.returns-in_err-criteria
returns-in_err-criteria c =
    let p = err_from_is_err_and c.from_residual-in_err-criteria.result c.from_residual-in_err-criteria.ensures.1 in
    rw (p.1, p.2) (criteria_exit (tree_of c.args.root.now) _ _ _ c.in_ok-categories.ensures c.in_ok-alternatives.ensures c.in_err-criteria.ensures)
