use Rattle.std.proofs.Common.{◌++◌, refl}
use Rattle.std.specs.List.{flat_map}
use Rattle.ror_proof.proofs.PrintLemmas.{one_more, all_printed, front_then}
use Rattle.ror_ranks_text.specs.Text.{node_text}
use Rattle.ror_ranks_text.proofs.print.write_nodes.Goals as goal

pub nodes-preserved : goal.nodes-preserved
nodes-preserved c =
    let xs = c.args.nodes.now in
    let i = c.nodes.node-index in
    let x = c.node-item.result in
    let text = c.nodes.text.items in
    record {
      printed = one_more (flat_map node_text) node_text (λ y ys. refl) xs i x text c.write_node.new.text.items (c.args.text.now.items ++ flat_map node_text xs) c.nodes-test.true c.node-item.is c.in_ok-write_node.ensures.ok c.nodes.invariant.printed;
      front = front_then c.args.text.now.items text c.write_node.new.text.items c.nodes.invariant.front c.in_ok-write_node.ensures.front;
    }

pub returns-clause-ok : goal.returns-clause-ok
returns-clause-ok c =
    all_printed (flat_map node_text) refl c.args.nodes.now c.nodes.node-index c.nodes.text.items (c.args.text.now.items ++ flat_map node_text c.args.nodes.now) c.nodes-test.false c.nodes.invariant.printed
