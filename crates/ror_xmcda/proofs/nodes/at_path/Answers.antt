use Rattle.std.proofs.Common.{refl}
use Rattle.ror_xmcda.proofs.TreeLemmas.{path_step, path_end, seen}
use Rattle.ror_xmcda.proofs.nodes.at_path.Goals as goal

pub loop-name-preserved : goal.loop-name-preserved
loop-name-preserved c =
    path_step c.args.path.now c.loop-name.name-index (seen c.loop-name.found.items) (seen c.in_ok-found-2.found.items) _ _ _ c.loop-name-test.true refl (rw c.deref.ensures.value at c.in_ok-found-2.ensures) c.loop-name.invariant

pub returns : goal.returns
returns c = path_end c.args.path.now c.loop-name.name-index (seen c.loop-name.found.items) _ c.loop-name-test.false c.loop-name.invariant
