use Rattle.std.proofs.Common.{◌≡◌, ◌++◌, drop}
use Rattle.std.specs.List.{flat_map}
use Rattle.ror_proof.specs.Printing.{StandsInFront}
use Rattle.ror_ranks_text.specs.Text.{node_text}
use Rattle.ror_ranks_text.proofs.print.write_nodes.Given as goal

abbrev pub invariant-nodes : goal.invariant-nodes
invariant-nodes l = record {
  printed : l.text.items ++ flat_map node_text (drop l.node-index l.nodes) ≡ l.initial.text.items ++ flat_map node_text l.nodes;
  front : StandsInFront l.initial.text.items l.text.items;
}
