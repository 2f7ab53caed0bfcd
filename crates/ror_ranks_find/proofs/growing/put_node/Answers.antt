use Rattle.std.proofs.Common.{rules, ◌≤◌, length, refl, sym}
use Rattle.ror_proof.proofs.PrintLemmas.{on_ok}
use Rattle.ror_ranks_find.proofs.PackingLemmas.{put_by}
use Rattle.ror_ranks_find.proofs.growing.put_node.Goals as goal

pub returns : goal.returns
returns c =
    let x = c.args.packing in
    let low : c.args.tree.now.goal ≤ length c.args.found.now.except = search rules in
    on_ok c.put_packed.result c.put_packed.ensures (λ put.
    put_by c.args.found.now c.args.set.now x c.args.tree.now c.put_packed.new.tree x.places.items c.is_short-wanting.result c.requires.packed low refl (sym c.is_short-wanting.ensures) put)
