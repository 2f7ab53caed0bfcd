use Rattle.std.proofs.Common.{rules, length}
use Rattle.ror_ranks.specs.Trees.{IsTree}
use Rattle.ror_ranks_find.proofs.TreeSteps.{one_node, no_conflict}
use Rattle.ror_ranks_find.proofs.growing.first_tree.Goals as goal

pub returns-then-is_ok : goal.returns-then-is_ok
returns-then-is_ok c =
    let tree : IsTree c.args.conflicts.now (length c.args.conflicts.now) c.in_ok-nodes.nodes.items = search rules in
    search (rules, one_node, tree)

pub returns : goal.returns
returns c = search (rules, one_node, no_conflict)
