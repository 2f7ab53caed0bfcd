use Rattle.ror_show_text_functions.specs.Rises.{rises_on}
use Rattle.ror_show_ground.proofs.Tests.{pieces_more}
use Rattle.ror_show_text_functions.proofs.rises.write_all_rises.Goals as goal

pub loop-i-preserved : goal.loop-i-preserved
loop-i-preserved c =
    pieces_more (rises_on c.args.table.now c.args.function.now) c.loop-i.i c.args.text.now.items c.loop-i.text.items c.write_rises_on.new.text.items c.loop-i.invariant c.in_ok-write_rises_on.ensures
