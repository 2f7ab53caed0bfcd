use Rattle.std.proofs.lemmas.Result.{on_ok_weaker}
use Rattle.std.proofs.Common.{◌∙◌, ◌++◌, ℕ, ap}
use Rattle.std.specs.Prelude.{length}
use Rattle.ror_show_text_group.specs.Matrix.{matrix_text}
use Rattle.ror_show_text_group.specs.Text.{counts_text}
use Rattle.ror_show_kit.proofs.Pieces.{two_more}
use Rattle.ror_show_text_group.proofs.page.write_cells.Goals as goal

pub returns : goal.returns
returns c =
    let t = c.args.table.now in
    let rows = c.args.rows.now in
    let first = c.write_matrix.new.text.items in
    let number = ap (λ (n : ℕ). first ++ counts_text rows n) c.alternatives.ensures.number in
    on_ok_weaker c.write_counts.result
    (λ last. two_more (matrix_text t rows) (counts_text rows (length t.alternatives)) c.args.text.now.items c.write_matrix.new.text.items c.write_counts.new.text.items c.in_ok-write_matrix.ensures (last ∙ number))
    c.write_counts.ensures
