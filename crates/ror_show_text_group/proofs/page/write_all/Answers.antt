use Rattle.std.proofs.lemmas.Result.{on_ok_weaker}
use Rattle.std.proofs.Common.{◌≡◌, ◌∙◌, ◌++◌, List, ap, rules}
use Rattle.ror_show_find_group.specs.declared.cell.GroupCell.{GroupCell}
use Rattle.ror_show_text_group.specs.Text.{legend, cells_text, common_text, apart_text}
use Rattle.ror_show_kit.proofs.Pieces.{four_more}
use Rattle.ror_show_text_group.proofs.page.write_all.Goals as goal

pub returns : goal.returns
returns c =
    let t = c.args.table.now in
    let d = c.args.desks.now in
    let found = c.args.found.now in
    let signs : c.extend_from_slice.new.self.items ≡ c.args.text.now.items ++ legend = search rules in
    let cells = c.in_ok-write_cells.ensures ∙ ap (λ (rows : List (List GroupCell)). c.extend_from_slice.new.self.items ++ cells_text t rows) c.as_slice.ensures in
    on_ok_weaker c.write_apart.result
    (λ last. four_more legend (cells_text t found.rows) (common_text t found) (apart_text t d found) c.args.text.now.items c.extend_from_slice.new.self.items c.write_cells.new.text.items c.write_common.new.text.items c.write_apart.new.text.items signs cells c.in_ok-write_common.ensures last)
    c.write_apart.ensures
