use Rattle.std.proofs.lemmas.Result.{on_ok_weaker}
use Rattle.std.proofs.Common.{◌≡◌, ◌++◌, rules}
use Rattle.ror_show_ground.specs.Heads.{head_of}
use Rattle.ror_show_text_relation.specs.Matrix.{matrix_text}
use Rattle.ror_show_text_relation.specs.Text.{above_text, counts_text, lists_text}
use Rattle.ror_show_kit.proofs.Pieces.{four_more}
use Rattle.ror_show_text_relation.proofs.text.print_relation.Goals as goal

pub returns : goal.returns
returns c =
    let t = c.args.table.now in
    let h = head_of c.args.heading.now in
    let page = c.args.page.now in
    let matrix : c.write_matrix.new.text.items ≡ c.write_above.new.text.items ++ matrix_text c.args.table.now c.args.page.now.rows = search rules in
    on_ok_weaker c.write_lists.result
    (λ last. four_more (above_text h) (matrix_text t page.rows) (counts_text t page) (lists_text t page) c.args.text.now.items c.write_above.new.text.items c.write_matrix.new.text.items c.write_counts.new.text.items c.write_lists.new.text.items c.in_ok-write_above.ensures matrix c.in_ok-write_counts.ensures last)
    c.write_lists.ensures
