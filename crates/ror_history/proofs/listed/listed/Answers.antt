use Rattle.std.proofs.Common.{subst}
use Rattle.ror_history.proofs.WalkLemmas.{IsWalk, walk_step, walk_goes_on, walk_ends}
use Rattle.ror_history.proofs.listed.listed.Goals as goal

pub item-requires : goal.item-requires
item-requires c = (walk_step c.args.chain.now.state c.in-Some.node c.nodes.list.items c.requires.chain (subst (λ at. IsWalk c.args.chain.now.state at c.nodes.list.items) c.in-Some.is c.nodes.invariant)).there

pub next-at-requires : goal.next-at-requires
next-at-requires c = (walk_step c.args.chain.now.state c.in-Some.node c.nodes.list.items c.requires.chain (subst (λ at. IsWalk c.args.chain.now.state at c.nodes.list.items) c.in-Some.is c.nodes.invariant)).there

pub nodes-preserved : goal.nodes-preserved
nodes-preserved c =
    let s = c.args.chain.now.state in
    walk_goes_on s c.in-Some.node c.next-at.result c.nodes.list.items c.push.new.self.items c.item.result c.requires.chain (subst (λ at. IsWalk s at c.nodes.list.items) c.in-Some.is c.nodes.invariant) c.item.ensures c.next-at.ensures c.in_ok-push.ensures.items

pub returns : goal.returns
returns c = walk_ends c.args.chain.now.state c.nodes.list.items c.requires.chain (subst (λ at. IsWalk c.args.chain.now.state at c.nodes.list.items) c.in_default.is c.nodes.invariant)
