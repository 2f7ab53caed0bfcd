use Rattle.std.proofs.Common.{subst, arith}
use Rattle.ror_chain.proofs.CallLemmas.{at_success}
use Rattle.ror_history.proofs.WalkLemmas.{IsTelling, telling_step, telling_goes_on, telling_ends}
use Rattle.ror_history.proofs.listed.list_statements.Goals as goal

pub item-requires : goal.item-requires
item-requires c = (telling_step c.args.chain.now.state c.in-Some.node c.nodes.list.items c.requires.chain (subst (λ at. IsTelling c.args.chain.now.state at c.nodes.list.items) c.in-Some.is c.nodes.invariant.told)).0

pub next-at-requires : goal.next-at-requires
next-at-requires c = (telling_step c.args.chain.now.state c.in-Some.node c.nodes.list.items c.requires.chain (subst (λ at. IsTelling c.args.chain.now.state at c.nodes.list.items) c.in-Some.is c.nodes.invariant.told)).0

pub unwrap-requires : goal.unwrap-requires
unwrap-requires c =
    let s = c.args.chain.now.state in
    let fewer = (telling_step s c.in-Some.node c.nodes.list.items c.requires.chain (subst (λ at. IsTelling s at c.nodes.list.items) c.in-Some.is c.nodes.invariant.told)).1 in
    c.push.ensures.succeeds (omega (arith, fewer, c.nodes.invariant.room, c.nodes.list.ok.0))

pub nodes-preserved : goal.nodes-preserved
nodes-preserved c =
    let s = c.args.chain.now.state in
    let told = subst (λ at. IsTelling s at c.nodes.list.items) c.in-Some.is c.nodes.invariant.told in
    let fewer = (telling_step s c.in-Some.node c.nodes.list.items c.requires.chain told).1 in
    let more = at_success c.push.result _ _ _ (c.push.ensures.succeeds (omega (arith, fewer, c.nodes.invariant.room, c.nodes.list.ok.0))) c.push.ensures.items in
    record {
      told = telling_goes_on s c.in-Some.node c.next-at.result c.nodes.list.items c.push.new.self.items c.item.result c.requires.chain told c.item.ensures c.next-at.ensures more;
      room = omega (arith, c.nodes.invariant.room, c.push.ensures.capacity);
      kept = omega (arith, c.nodes.invariant.kept, c.push.ensures.capacity);
    }

pub returns-clause-listed : goal.returns-clause-listed
returns-clause-listed c = telling_ends c.args.chain.now.state c.nodes.list.items c.requires.chain (subst (λ at. IsTelling c.args.chain.now.state at c.nodes.list.items) c.in_default.is c.nodes.invariant.told)
