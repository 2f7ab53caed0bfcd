use Rattle.ror_chain.proofs.CallLemmas.{held, neighbours_read}
use Rattle.ror_chain.proofs.chain.Chain.next.Goals as goal

pub returns : goal.returns
returns g c =
    let h = held c.self.inside.links c.args.self.now c.self.invariant c.self.view_is in
    (neighbours_read c.self.inside.links c.args.self.now.state c.args.node c.index.result.now h c.requires c.index.ensures).1
