-- One row more.
use Rattle.ror_show_kit.proofs.Pieces.{item_more}
use Rattle.ror_show_text_classes.specs.Text.{row_text}
use Rattle.ror_show_text_classes.proofs.table.write_rows.Goals as goal

pub rows-preserved : goal.rows-preserved
rows-preserved c = item_more (row_text c.args.table.now c.args.part) c.args.rows.now c.rows.row-index c.row-item.result c.args.text.now.items c.rows.text.items c.write_row.new.text.items c.rows-test.true c.row-item.is c.rows.invariant c.in_ok-write_row.ensures
