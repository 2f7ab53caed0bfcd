-- The rows of one count more.
use Rattle.ror_show_kit.proofs.Pieces.{number_more}
use Rattle.ror_show_text_whatif.specs.Table.{rows_below}
use Rattle.ror_show_text_whatif.proofs.table.write_above.Goals as goal

pub loop-k-preserved : goal.loop-k-preserved
loop-k-preserved c = number_more (rows_below c.args.table.now c.args.rows.now c.args.most) c.loop-k.k c.args.text.now.items c.loop-k.text.items c.write_each_with.new.text.items c.loop-k.invariant c.in_ok-write_each_with.ensures
