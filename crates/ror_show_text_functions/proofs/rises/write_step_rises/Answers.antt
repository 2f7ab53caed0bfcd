use Rattle.ror_show_text_functions.specs.Rises.{step_rise}
use Rattle.ror_show_ground.proofs.Tests.{pieces_more}
use Rattle.ror_show_text_functions.proofs.rises.write_step_rises.Goals as goal

pub loop-r-preserved : goal.loop-r-preserved
loop-r-preserved c =
    pieces_more (step_rise c.args.table.now c.args.function.now c.args.i) c.loop-r.r c.args.text.now.items c.loop-r.text.items c.write_rise.new.text.items c.loop-r.invariant c.in_ok-write_rise.ensures
