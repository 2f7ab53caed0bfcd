-- The values of one relation more.
use Rattle.std.proofs.Common.{◌≡◌, ◌++◌, get_or, ap, ◌∙◌}
use Rattle.ror_show_ground.specs.Grounds.{ground_of}
use Rattle.ror_show_kit.proofs.Pieces.{element_more}
use Rattle.ror_show_find_reasons.specs.declared.pairs.RelationFound.{RelationFound}
use Rattle.ror_show_forms.specs.RelationCsv.{relation_values}
use Rattle.ror_show_forms.proofs.relation_csv.write_relations_csv.Goals as goal

pub lines-preserved : goal.lines-preserved
lines-preserved c =
    let g = ground_of c.args.ground.now in
    let found = c.relation-item.result in
    let pushed : c.write_relation.new.text.items ≡ c.lines.text.items ++ relation_values (ground_of c.args.ground.now) (get_or c.args.found.now c.lines.relation-index c.relation-item.result) =
    c.in_ok-write_relation.ensures ∙ ap (λ (x : RelationFound). c.lines.text.items ++ relation_values (ground_of c.args.ground.now) x) c.relation-item.is in
    element_more (relation_values g) c.args.found.now c.lines.relation-index found c.args.text.now.items c.lines.text.items c.write_relation.new.text.items c.lines-test.true c.lines.invariant pushed
