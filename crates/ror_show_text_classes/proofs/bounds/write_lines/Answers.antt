-- Those of one row more.
use Rattle.ror_show_kit.proofs.Pieces.{number_more}
use Rattle.ror_show_text_classes.specs.Pages.{bounds_at}
use Rattle.ror_show_text_classes.proofs.bounds.write_lines.Goals as goal

pub loop-k-preserved : goal.loop-k-preserved
loop-k-preserved c = number_more (bounds_at c.args.table.now c.args.rows.now c.args.bounds.now) c.loop-k.k c.args.text.now.items c.loop-k.text.items c.write_bounds_at.new.text.items c.loop-k.invariant c.in_ok-write_bounds_at.ensures
