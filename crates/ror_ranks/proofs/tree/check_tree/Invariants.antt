use Rattle.std.proofs.Common.{◌≡◌, Some, reverse, take}
use Rattle.ror_ranks.specs.Trees.{sets_left, root_sets}
use Rattle.ror_ranks.proofs.tree.check_tree.Given as goal

-- the nodes so far may stand, and these sets are left, the next one last
abbrev pub invariant-loop-place : goal.invariant-loop-place
invariant-loop-place l = sets_left l.conflicts l.goal root_sets (take l.place l.nodes) ≡ Some (reverse l.sets.items)
