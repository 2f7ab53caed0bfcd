use Rattle.ror_chain.proofs.CallLemmas.{held, set_gives, item_read, linked_there}
use Rattle.ror_chain.proofs.chain.Chain.set.Goals as goal

pub invariant_of-self : goal.invariant_of-self
invariant_of-self g c =
    let h = held c.self.inside.links c.args.self.now c.self.invariant c.self.view_is in
    (set_gives c.self.inside.links c.args.self.now.state c.args.node c.index_mut.result.now c.args.item h c.requires c.index_mut.ensures.value).whole

pub returns-clause-given : goal.returns-clause-given
returns-clause-given g c =
    let h = held c.self.inside.links c.args.self.now c.self.invariant c.self.view_is in
    item_read c.self.inside.links c.args.self.now.state c.args.node c.index.result.now h (linked_there c.self.inside.links c.args.self.now.state c.args.node h c.requires) c.index.ensures

pub returns-clause-set : goal.returns-clause-set
returns-clause-set g c =
    let h = held c.self.inside.links c.args.self.now c.self.invariant c.self.view_is in
    (set_gives c.self.inside.links c.args.self.now.state c.args.node c.index_mut.result.now c.args.item h c.requires c.index_mut.ensures.value).is
