use Rattle.std.proofs.Common.{◌≡◌, [], ◌∷◌, ◌++◌, ap, ◌∙◌}
use Rattle.std.specs.Option.{option_to_list}
use Rattle.ror_chain.proofs.CallLemmas.{held, pop_previous, pop_gives}
use Rattle.ror_chain.proofs.chain.Chain.pop.Goals as goal

pub set_next-requires : goal.set_next-requires
set_next-requires g c =
    let h = held c.self.inside.links c.args.self.now c.self.invariant c.self.view_is in
    let items : c.self.inside.links.nodes.items ≡ c.pop.new.self.items ++ c.unwrap-last.result ∷ [] = c.pop.ensures.items ∙ ap (λ o. c.pop.new.self.items ++ option_to_list o) c.unwrap-last.ensures in
    pop_previous c.self.inside.links c.pop.new.self.items c.unwrap-last.result c.args.self.now.state h c.requires items

pub invariant_of-self : goal.invariant_of-self
invariant_of-self g c =
    let h = held c.self.inside.links c.args.self.now c.self.invariant c.self.view_is in
    let items : c.self.inside.links.nodes.items ≡ c.pop.new.self.items ++ c.unwrap-last.result ∷ [] = c.pop.ensures.items ∙ ap (λ o. c.pop.new.self.items ++ option_to_list o) c.unwrap-last.ensures in
    (pop_gives c.self.inside.links c.set_next.new.self c.pop.new.self.items c.unwrap-last.result c.args.self.now.state h c.requires items c.set_next.ensures.led).0

pub returns-clause-popped : goal.returns-clause-popped
returns-clause-popped g c =
    let h = held c.self.inside.links c.args.self.now c.self.invariant c.self.view_is in
    let items : c.self.inside.links.nodes.items ≡ c.pop.new.self.items ++ c.unwrap-last.result ∷ [] = c.pop.ensures.items ∙ ap (λ o. c.pop.new.self.items ++ option_to_list o) c.unwrap-last.ensures in
    (pop_gives c.self.inside.links c.set_next.new.self c.pop.new.self.items c.unwrap-last.result c.args.self.now.state h c.requires items c.set_next.ensures.led).1
