-- One cell more.
use Rattle.ror_show_kit.proofs.Pieces.{number_more}
use Rattle.ror_show_text_classes.specs.Text.{cell_text}
use Rattle.ror_show_text_classes.proofs.table.write_cells.Goals as goal

pub loop-h-preserved : goal.loop-h-preserved
loop-h-preserved c = number_more (cell_text c.args.row.now c.args.part) c.loop-h.h c.args.text.now.items c.loop-h.text.items c.write_cell.new.text.items c.loop-h.invariant c.in_ok-write_cell.ensures
