use Rattle.std.proofs.Common.{◌≡◌, ◌++◌, rules}
use Rattle.std.specs.Prelude.{OnOk, codes}
use Rattle.std.proofs.lemmas.Result.{on_ok_weaker}
use Rattle.std.specs.Prelude.{length}
use Rattle.std.specs.List.{flat_map, range_with_len}
use Rattle.ror_show_text_group.specs.Matrix.{row_head, cell_text}
use Rattle.ror_show_kit.proofs.Pieces.{three_more}
use Rattle.ror_show_text_group.proofs.matrix.write_row.Goals as goal

pub returns : goal.returns
returns c =
    let t = c.args.table.now in
    let part = c.args.part in
    let rows = c.args.rows.now in
    let put : OnOk c.extend_from_slice.result (c.extend_from_slice.new.self.items ≡ c.write_cells.new.text.items ++ codes "  |\n") = search rules in
    on_ok_weaker c.extend_from_slice.result
    (λ last. three_more (row_head t part c.args.a) (flat_map (cell_text rows part c.args.a) (range_with_len 0 (length t.alternatives))) (codes "  |\n") c.args.text.now.items c.write_row_head.new.text.items c.write_cells.new.text.items c.extend_from_slice.new.self.items c.in_ok-write_row_head.ensures c.in_ok-write_cells.ensures last)
    put
