use Rattle.std.proofs.Common.{◌≡◌, ◌++◌, drop}
use Rattle.std.specs.List.{flat_map}
use Rattle.ror_xmcda.specs.Nodes.{named}
use Rattle.ror_xmcda.proofs.TreeLemmas.{seen}
use Rattle.ror_xmcda.proofs.nodes.all_named.Given as goal

abbrev pub invariant-loop-element : goal.invariant-loop-element
invariant-loop-element l = seen l.found.items ++ flat_map (named l.name) (seen (drop l.element-index l.elements)) ≡ flat_map (named l.name) (seen l.elements)
