use Rattle.std.proofs.Common.{ℕ, ◌<◌, length, Option, ap, sym, ◌∙◌, arith}
use Rattle.std.proofs.lemmas.List.{length-map}
use Rattle.ror_chain.specs.Cells.{cells, with_previous}
use Rattle.ror_chain.proofs.NodeLemmas.{previous_written}
use Rattle.ror_chain.proofs.links.Links.set_previous.Goals as goal

pub index_mut-requires : goal.index_mut-requires
index_mut-requires g c = let n = (c.requires c.in-Some.node c.in-Some.is).0 in let e = length-map c.args.self.now.nodes.items (λ x. x.item) in omega (arith, c.args.self.now.nodes.ok.0)

pub returns-in-Some-clause-led : goal.returns-in-Some-clause-led
returns-in-Some-clause-led g c =
    let s = c.args.self.now in
    let linked = c.requires c.in-Some.node c.in-Some.is in
    let there : c.in-Some.node < length s.nodes.items = let e = length-map s.nodes.items (λ x. x.item) in omega (arith, linked.0) in
    previous_written s.nodes.items s.first s.last c.in-Some.node c.index_mut.result.now c.args.previous there c.index_mut.ensures.value linked.1 ∙ ap (λ (n : Option ℕ). with_previous (cells s) n c.args.previous) (sym c.in-Some.is)
