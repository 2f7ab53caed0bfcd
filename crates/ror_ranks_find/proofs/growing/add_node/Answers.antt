use Rattle.std.proofs.Common.{ℕ, List, refl, subst}
use Rattle.ror_proof.proofs.PrintLemmas.{on_ok}
use Rattle.ror_ranks_find.specs.declared.growing.Tree.{Tree}
use Rattle.ror_ranks_find.specs.Search.{IsPut}
use Rattle.ror_ranks_find.proofs.GrowLemmas.{next_size}
use Rattle.ror_ranks_find.proofs.TreeSteps.{added_node}
use Rattle.ror_ranks_find.proofs.growing.add_node.Goals as goal

pub packed-requires-clause-size : goal.packed-requires-clause-size
packed-requires-clause-size c = rw c.as_slice.ensures (next_size c.args.found.now c.args.tree.now c.pop.new.self.items c.in-Some.set c.requires.growing c.in-Some.ensures.items)

pub returns-clause-added : goal.returns-clause-added
returns-clause-added c =
    let held = c.args.tree.now in
    let opened : Tree = record held { sets = c.pop.new.self } in
    let found = c.packed.new.found in
    let now = c.put_node.new.tree in
    on_ok c.put_node.result c.put_node.ensures (λ put.
    added_node c.args.found.now found held opened now c.in-Some.set c.in_ok-packing.ensures.more c.requires.growing c.in-Some.ensures.items refl refl refl
    (subst (λ (set : List ℕ). IsPut found set opened now) c.as_slice-2.ensures put))
