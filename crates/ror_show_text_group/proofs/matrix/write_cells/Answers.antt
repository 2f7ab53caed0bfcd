use Rattle.ror_show_text_group.specs.Matrix.{cell_text}
use Rattle.ror_show_ground.proofs.Tests.{pieces_more}
use Rattle.ror_show_text_group.proofs.matrix.write_cells.Goals as goal

pub loop-b-preserved : goal.loop-b-preserved
loop-b-preserved c = pieces_more (cell_text c.args.rows.now c.args.part c.args.a) c.loop-b.b c.args.text.now.items c.loop-b.text.items c.write_cell.new.text.items c.loop-b.invariant c.in_ok-write_cell.ensures
