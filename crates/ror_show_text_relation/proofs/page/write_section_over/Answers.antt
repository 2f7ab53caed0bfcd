use Rattle.std.proofs.Common.{◌≡◌, [], ◌∷◌, ◌++◌, rules}
use Rattle.ror_show_kit.proofs.Pieces.{three_more}
use Rattle.ror_show_ground.specs.Lines.{head_of_line}
use Rattle.ror_show_text_relation.specs.Text.{relation_text}
use Rattle.ror_show_text_relation.specs.Pages.{carried_text, carried_head}
use Rattle.ror_show_text_relation.proofs.page.write_section_over.Goals as goal

pub returns : goal.returns
returns c =
    let t = c.args.ground.now.table.now in
    let f = c.args.found.now in
    let carried : c.write_carried.new.text.items ≡ c.write_relation.new.text.items ++ carried_text c.args.ground.now.table.now carried_head c.args.found.now.carried = search rules in
    three_more (relation_text t (head_of_line c.args.ground.now.session.now c.args.line.now) f.relation) (carried_text t carried_head f.carried) (10 ∷ []) c.args.text.now.items c.write_relation.new.text.items c.write_carried.new.text.items c.push.new.self.items c.in_ok-write_relation.ensures carried c.in_ok-push.ensures.items
