-- One row more.
use Rattle.ror_show_kit.proofs.Pieces.{element_more}
use Rattle.ror_show_text_whatif.specs.Table.{row_if}
use Rattle.ror_show_text_whatif.proofs.table.write_each_with.Goals as goal

pub rows-preserved : goal.rows-preserved
rows-preserved c = element_more (row_if c.args.table.now c.args.count) c.args.rows.now c.rows.row-index _ c.args.text.now.items c.rows.text.items c.write_row_if.new.text.items c.rows-test.true c.rows.invariant c.in_ok-write_row_if.ensures
