use Rattle.std.proofs.Common.{◌≡◌, drop, map}
use Rattle.ror_text.specs.Reading.{read_all}
use Rattle.ror_elements.specs.Tree.{tree_of}
use Rattle.ror_xmcda.specs.Affectations.{part}
use Rattle.ror_xmcda.proofs.affectations.assigned_in.Given as goal

abbrev pub invariant-loop-child : goal.invariant-loop-child
invariant-loop-child l = read_all (part l.best_first l.alternatives l.categories) l.assigned (map tree_of (drop l.child-index l.child-items)) ≡ read_all (part l.best_first l.alternatives l.categories) l.initial.assigned (map tree_of l.child-items)
