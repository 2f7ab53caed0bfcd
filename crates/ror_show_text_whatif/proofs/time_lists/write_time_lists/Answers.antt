-- One statement more.
use Rattle.ror_show_kit.proofs.Pieces.{number_more}
use Rattle.ror_show_text_whatif.specs.TimeLists.{lists_at}
use Rattle.ror_show_text_whatif.proofs.time_lists.write_time_lists.Goals as goal

pub loop-k-preserved : goal.loop-k-preserved
loop-k-preserved c = number_more (lists_at c.args.table.now c.args.lines.now) c.loop-k.k c.args.text.now.items c.loop-k.text.items c.write_at.new.text.items c.loop-k.invariant c.in_ok-write_at.ensures
