use Rattle.std.proofs.Common.{◌≡◌, drop, map}
use Rattle.ror_text.specs.Reading.{read_all}
use Rattle.ror_elements.specs.Tree.{tree_of}
use Rattle.ror_xmcda.specs.Comparisons.{member}
use Rattle.ror_xmcda.proofs.comparisons.side.Given as goal

abbrev pub invariant-loop-child : goal.invariant-loop-child
invariant-loop-child l = read_all (member l.alternatives) l.found (map tree_of (drop l.child-index l.child-items)) ≡ read_all (member l.alternatives) l.initial.found (map tree_of l.child-items)
