use Rattle.std.proofs.Common.{subst, sym}
use Rattle.ror_chain.specs.Cells.{Cells, IsLinkedNode}
use Rattle.ror_chain.proofs.NodeLemmas.{linked_written}
use Rattle.ror_chain.proofs.CallLemmas.{held, reads_unlinked, relink_gives}
use Rattle.ror_chain.proofs.chain.Chain.relink.Goals as goal

pub set_next-requires : goal.set_next-requires
set_next-requires g c =
    let h = held c.self.inside.links c.args.self.now c.self.invariant c.self.view_is in
    let r = reads_unlinked c.self.inside.links c.args.self.now.state c.args.node c.index.result.now h c.requires c.index.ensures in
    let marks = linked_written c.self.inside.links.nodes.items c.self.inside.links.first c.self.inside.links.last c.args.node c.index_mut.result.now r.within c.index_mut.ensures.value in
    subst (λ (d : Cells g.row.T.Denot). IsLinkedNode d c.index.result.now.previous) (sym marks) r.previous

pub set_previous-requires : goal.set_previous-requires
set_previous-requires g c =
    let h = held c.self.inside.links c.args.self.now c.self.invariant c.self.view_is in
    let r = reads_unlinked c.self.inside.links c.args.self.now.state c.args.node c.index.result.now h c.requires c.index.ensures in
    let marks = linked_written c.self.inside.links.nodes.items c.self.inside.links.first c.self.inside.links.last c.args.node c.index_mut.result.now r.within c.index_mut.ensures.value in
    subst (λ (d : Cells g.row.T.Denot). IsLinkedNode d c.index.result.now.next) (sym c.set_next.ensures.led) (subst (λ (d : Cells g.row.T.Denot). IsLinkedNode d c.index.result.now.next) (sym marks) r.next)

pub invariant_of-self : goal.invariant_of-self
invariant_of-self g c =
    let h = held c.self.inside.links c.args.self.now c.self.invariant c.self.view_is in
    let r = reads_unlinked c.self.inside.links c.args.self.now.state c.args.node c.index.result.now h c.requires c.index.ensures in
    let marks = linked_written c.self.inside.links.nodes.items c.self.inside.links.first c.self.inside.links.last c.args.node c.index_mut.result.now r.within c.index_mut.ensures.value in
    (relink_gives c.self.inside.links c.set_next.new.self c.set_previous.new.self _ c.args.self.now.state c.args.node c.index.result.now h c.requires c.index.ensures marks c.set_next.ensures.led c.set_previous.ensures.led).whole

pub returns-clause-relinked : goal.returns-clause-relinked
returns-clause-relinked g c =
    let h = held c.self.inside.links c.args.self.now c.self.invariant c.self.view_is in
    let r = reads_unlinked c.self.inside.links c.args.self.now.state c.args.node c.index.result.now h c.requires c.index.ensures in
    let marks = linked_written c.self.inside.links.nodes.items c.self.inside.links.first c.self.inside.links.last c.args.node c.index_mut.result.now r.within c.index_mut.ensures.value in
    (relink_gives c.self.inside.links c.set_next.new.self c.set_previous.new.self _ c.args.self.now.state c.args.node c.index.result.now h c.requires c.index.ensures marks c.set_next.ensures.led c.set_previous.ensures.led).is
