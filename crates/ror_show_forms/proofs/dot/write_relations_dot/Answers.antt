-- The graph of one relation more.
use Rattle.std.proofs.Common.{◌≡◌, ◌++◌, get_or, ap, ◌∙◌}
use Rattle.ror_show_ground.specs.Grounds.{ground_of}
use Rattle.ror_show_kit.proofs.Pieces.{element_more}
use Rattle.ror_show_find_reasons.specs.declared.pairs.RelationFound.{RelationFound}
use Rattle.ror_show_forms.specs.Dot.{relation_graph}
use Rattle.ror_show_forms.proofs.dot.write_relations_dot.Goals as goal

pub lines-preserved : goal.lines-preserved
lines-preserved c =
    let g = ground_of c.args.ground.now in
    let found = c.relation-item.result in
    let pushed : c.write_graph.new.text.items ≡ c.lines.text.items ++ relation_graph (ground_of c.args.ground.now) (get_or c.args.found.now c.lines.relation-index c.relation-item.result) =
    c.in_ok-write_graph.ensures ∙ ap (λ (x : RelationFound). c.lines.text.items ++ relation_graph (ground_of c.args.ground.now) x) c.relation-item.is in
    element_more (relation_graph g) c.args.found.now c.lines.relation-index found c.args.text.now.items c.lines.text.items c.write_graph.new.text.items c.lines-test.true c.lines.invariant pushed
