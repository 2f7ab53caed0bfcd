-- One part more.
use Rattle.ror_show_kit.proofs.Pieces.{number_more}
use Rattle.ror_show_text_classes.specs.Text.{part_text_at}
use Rattle.ror_show_text_classes.proofs.table.write_matrix.Goals as goal

pub loop-place-preserved : goal.loop-place-preserved
loop-place-preserved c = number_more (part_text_at c.args.table.now c.args.rows.now c.args.width) c.loop-place.place c.args.text.now.items c.loop-place.text.items c.write_part_at.new.text.items c.loop-place.invariant c.in_ok-write_part_at.ensures
