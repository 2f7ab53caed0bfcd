use Rattle.std.proofs.Common.{subst, sym}
use Rattle.ror_chain.specs.Cells.{Cells, IsLinkedNode}
use Rattle.ror_chain.proofs.CallLemmas.{held, reads_linked, unlink_gives}
use Rattle.ror_chain.proofs.chain.Chain.unlink.Goals as goal

pub set_next-requires : goal.set_next-requires
set_next-requires g c =
    let h = held c.self.inside.links c.args.self.now c.self.invariant c.self.view_is in
    (reads_linked c.self.inside.links c.args.self.now.state c.args.node c.index.result.now h c.requires c.index.ensures).previous

pub set_previous-requires : goal.set_previous-requires
set_previous-requires g c =
    let h = held c.self.inside.links c.args.self.now c.self.invariant c.self.view_is in
    let r = reads_linked c.self.inside.links c.args.self.now.state c.args.node c.index.result.now h c.requires c.index.ensures in
    subst (λ (d : Cells g.row.T.Denot). IsLinkedNode d c.index.result.now.next) (sym c.set_next.ensures.led) r.next

pub invariant_of-self : goal.invariant_of-self
invariant_of-self g c =
    let h = held c.self.inside.links c.args.self.now c.self.invariant c.self.view_is in
    (unlink_gives c.self.inside.links c.set_next.new.self c.set_previous.new.self c.args.self.now.state c.args.node c.index.result.now c.index_mut.result.now h c.requires c.index.ensures c.set_next.ensures.led c.set_previous.ensures.led c.index_mut.ensures.value).whole

pub returns-clause-unlinked : goal.returns-clause-unlinked
returns-clause-unlinked g c =
    let h = held c.self.inside.links c.args.self.now c.self.invariant c.self.view_is in
    (unlink_gives c.self.inside.links c.set_next.new.self c.set_previous.new.self c.args.self.now.state c.args.node c.index.result.now c.index_mut.result.now h c.requires c.index.ensures c.set_next.ensures.led c.set_previous.ensures.led c.index_mut.ensures.value).is
