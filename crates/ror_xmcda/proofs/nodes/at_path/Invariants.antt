use Rattle.std.proofs.Common.{◌≡◌, drop, map}
use Rattle.std.specs.List.{flat_map}
use Rattle.ror_elements.specs.Tree.{tree_of}
use Rattle.ror_xmcda.specs.Nodes.{at_path}
use Rattle.ror_xmcda.proofs.TreeLemmas.{seen}
use Rattle.ror_xmcda.proofs.nodes.at_path.Given as goal

abbrev pub invariant-loop-name : goal.invariant-loop-name
invariant-loop-name l = flat_map (at_path (map (λ name. name.now) (drop l.name-index l.path))) (seen l.found.items) ≡ at_path (map (λ name. name.now) l.path) (tree_of l.element)
