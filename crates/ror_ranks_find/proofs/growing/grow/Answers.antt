use Rattle.std.proofs.Common.{rules, ◌≡◌, ◌≢◌, ◌⊎◌, ◌≤◌, [], ◌∙◌, arith}
use Rattle.ror_ranks.specs.declared.limits.TheConstants.{MOST_NODES}
use Rattle.ror_ranks_find.specs.declared.growing.State.TheVariants as states
use Rattle.ror_ranks_find.proofs.GrowLemmas.{has_same, has_both}
use Rattle.ror_ranks_find.proofs.TreeSteps.{grown_none, grown_early, grows_on, nodes_so_far, grown_more}
use Rattle.ror_ranks_find.proofs.growing.grow.Goals as goal

pub loop-node-init : goal.loop-node-init
loop-node-init c = record {
  grown = grown_none c.args.found.now c.in_ok-tree.tree c.in_ok-tree.ensures.state c.in_ok-tree.ensures.nodes c.in_ok-tree.ensures.sets;
  goal = c.in_ok-tree.ensures.goal;
  found = c.requires.found;
  more = has_same c.args.found.now;
  counted = omega arith;
}

pub add_node-requires-clause-growing : goal.add_node-requires-clause-growing
add_node-requires-clause-growing c =
    let open_ : (c.loop-node.tree.state ≢ states.Growing) ⊎ (c.loop-node.tree.sets.items ≡ []) → ⊥ = search rules in
    grows_on c.loop-node._node c.loop-node.found c.loop-node.tree c.loop-node.invariant.grown open_

pub loop-node-preserved : goal.loop-node-preserved
loop-node-preserved c =
    let open_ : (c.loop-node.tree.state ≢ states.Growing) ⊎ (c.loop-node.tree.sets.items ≡ []) → ⊥ = search rules in
    let n = c.loop-node._node in
    let before = c.loop-node.invariant.counted in
    let after = c.add_node.ensures.counted in record {
      grown = grown_more n c.add_node.new.found c.loop-node.tree c.add_node.new.tree (nodes_so_far n c.loop-node.found c.loop-node.tree c.loop-node.invariant.grown open_) c.in_ok-add_node.ensures.added;
      goal = c.in_ok-add_node.ensures.added.0 ∙ c.loop-node.invariant.goal;
      found = c.in_ok-add_node.ensures.found;
      more = has_both c.args.found.now c.loop-node.found c.add_node.new.found c.loop-node.invariant.more c.in_ok-add_node.ensures.more;
      counted = omega (arith, before, after);
    }

pub returns-then-is_over-clause-grown : goal.returns-then-is_over-clause-grown
returns-then-is_over-clause-grown c =
    let over : (c.loop-node.tree.state ≢ states.Growing) ⊎ (c.loop-node.tree.sets.items ≡ []) = search rules in
    let most : c.loop-node._node ≤ MOST_NODES = search rules in
    grown_early c.loop-node._node c.loop-node.found c.loop-node.tree most c.loop-node.invariant.grown over
