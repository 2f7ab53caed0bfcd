use Rattle.std.proofs.lemmas.Result.{on_ok_weaker}
use Rattle.std.proofs.Common.{length}
use Rattle.std.specs.List.{flat_map, range_with_len}
use Rattle.ror_show_text_relation.specs.Matrix.{row_head, cell_text, row_end}
use Rattle.ror_show_kit.proofs.Pieces.{three_more}
use Rattle.ror_show_text_relation.proofs.matrix.write_row.Goals as goal

pub returns : goal.returns
returns c =
    let t = c.args.table.now in
    let rows = c.args.rows.now in
    on_ok_weaker c.write_row_end.result
    (λ last. three_more (row_head t c.args.part c.args.a) (flat_map (cell_text rows c.args.part c.args.a) (range_with_len 0 (length t.alternatives))) (row_end t rows c.args.part c.args.a) c.args.text.now.items c.write_row_head.new.text.items c.write_cells.new.text.items c.write_row_end.new.text.items c.in_ok-write_row_head.ensures c.in_ok-write_cells.ensures last)
    c.write_row_end.ensures
