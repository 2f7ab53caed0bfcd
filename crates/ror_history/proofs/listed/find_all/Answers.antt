use Rattle.std.proofs.Common.{refl}
use Rattle.ror_history.proofs.ListedLemmas.{found_none, found_more, found_all, found_twice}
use Rattle.ror_history.proofs.listed.find_all.Goals as goal

pub loop-number-init : goal.loop-number-init
loop-number-init c = found_none c.args.chain.now.state c.new-nodes.result.items c.args.list.now c.new-nodes.ensures.items

pub returns-then-contains-clause-refused : goal.returns-then-contains-clause-refused
returns-then-contains-clause-refused c = λ _. (refl, found_twice _ c.loop-number.nodes.items c.deref.result.now c.args.list.now c.loop-number.number-index c.in-Some.node c.contains.result c.loop-number.invariant.found c.loop-number-test.true c.in-Some.ensures.0 c.deref.ensures.value c.contains.ensures.cases c.if-contains.true)

pub loop-number-preserved : goal.loop-number-preserved
loop-number-preserved c = found_more c.args.chain.now.state c.loop-number.nodes.items c.deref.result.now c.push.new.self.items c.args.list.now c.loop-number.number-index c.in-Some.node c.contains.result c.loop-number.invariant c.loop-number-test.true c.in-Some.ensures.0 c.in-Some.ensures.1 c.deref.ensures.value c.contains.ensures.cases c.if-contains.false c.in_ok-push.ensures.items

pub returns : goal.returns
returns c = record {
  found = found_all c.args.chain.now.state c.loop-number.nodes.items c.args.list.now c.loop-number.number-index c.loop-number.invariant c.loop-number-test.false;
  linked = c.loop-number.invariant.linked;
  once = c.loop-number.invariant.once;
  refused = tt;
}
