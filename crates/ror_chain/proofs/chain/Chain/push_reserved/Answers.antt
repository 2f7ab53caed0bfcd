use Rattle.std.proofs.Common.{◌≡◌, ◌++◌, ◌∷◌, [], None, true, length, arith}
use Rattle.ror_chain.specs.declared.links.Node.{Node}
use Rattle.ror_chain.proofs.CallLemmas.{at_success, has_room, held, push_last, push_gives}
use Rattle.ror_chain.proofs.chain.Chain.push_reserved.Goals as goal

pub set_next-requires : goal.set_next-requires
set_next-requires g c =
    let h = held c.self.inside.links c.args.self.now c.self.invariant c.self.view_is in
    let node : Node g.row.T.Denot = record { item = c.args.item; previous = c.self.inside.links.last; next = None; linked = true } in
    let pushed = at_success c.push.result c.push.new.self.items (c.self.inside.links.nodes.items ++ node ∷ []) c.self.inside.links.nodes.items (c.push.ensures.succeeds (has_room c.self.inside.links c.args.self.now c.self.view_is c.requires)) c.push.ensures.items in
    push_last c.self.inside.links c.push.new.self.items c.args.item c.args.self.now.state h pushed

pub unwrap-requires : goal.unwrap-requires
unwrap-requires g c = c.push.ensures.succeeds (has_room c.self.inside.links c.args.self.now c.self.view_is c.requires)

pub invariant_of-self : goal.invariant_of-self
invariant_of-self g c =
    let h = held c.self.inside.links c.args.self.now c.self.invariant c.self.view_is in
    let node : Node g.row.T.Denot = record { item = c.args.item; previous = c.self.inside.links.last; next = None; linked = true } in
    let pushed = at_success c.push.result c.push.new.self.items (c.self.inside.links.nodes.items ++ node ∷ []) c.self.inside.links.nodes.items (c.push.ensures.succeeds (has_room c.self.inside.links c.args.self.now c.self.view_is c.requires)) c.push.ensures.items in
    let count : c.len-node.result ≡ length c.self.inside.links.nodes.items = omega (arith, c.len-node.ensures, c.self.inside.links.nodes.ok.0) in
    (push_gives c.self.inside.links c.set_next.new.self c.push.new.self.items c.args.item c.len-node.result c.args.self.now.state h pushed count c.set_next.ensures.led).whole

pub returns-clause-pushed : goal.returns-clause-pushed
returns-clause-pushed g c =
    let h = held c.self.inside.links c.args.self.now c.self.invariant c.self.view_is in
    let node : Node g.row.T.Denot = record { item = c.args.item; previous = c.self.inside.links.last; next = None; linked = true } in
    let pushed = at_success c.push.result c.push.new.self.items (c.self.inside.links.nodes.items ++ node ∷ []) c.self.inside.links.nodes.items (c.push.ensures.succeeds (has_room c.self.inside.links c.args.self.now c.self.view_is c.requires)) c.push.ensures.items in
    let count : c.len-node.result ≡ length c.self.inside.links.nodes.items = omega (arith, c.len-node.ensures, c.self.inside.links.nodes.ok.0) in
    (push_gives c.self.inside.links c.set_next.new.self c.push.new.self.items c.args.item c.len-node.result c.args.self.now.state h pushed count c.set_next.ensures.led).is
