use Rattle.ror_show_text_group.specs.Matrix.{row_text}
use Rattle.ror_show_ground.proofs.Tests.{pieces_more}
use Rattle.ror_show_text_group.proofs.matrix.write_rows.Goals as goal

pub loop-a-preserved : goal.loop-a-preserved
loop-a-preserved c = pieces_more (row_text c.args.table.now c.args.rows.now c.args.part) c.loop-a.a c.args.text.now.items c.loop-a.text.items c.write_row.new.text.items c.loop-a.invariant c.in_ok-write_row.ensures
