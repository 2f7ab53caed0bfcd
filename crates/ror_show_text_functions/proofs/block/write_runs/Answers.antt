-- The line of one run more.
use Rattle.ror_show_text_functions.specs.Blocks.{run_text}
use Rattle.ror_show_ground.proofs.Tests.{pieces_more}
use Rattle.ror_show_text_functions.proofs.block.write_runs.Goals as goal

pub loop-r-preserved : goal.loop-r-preserved
loop-r-preserved c =
    pieces_more (run_text c.args.table.now c.args.function.now c.args.i) c.loop-r.r c.args.text.now.items c.loop-r.text.items c.write_run.new.text.items c.loop-r.invariant c.in_ok-write_run.ensures
