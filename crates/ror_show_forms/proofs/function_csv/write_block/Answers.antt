-- The lines of one criterion more.
use Rattle.ror_show_forms.specs.FunctionCsv.{csv_levels}
use Rattle.ror_show_ground.proofs.Tests.{pieces_more}
use Rattle.ror_show_forms.proofs.function_csv.write_block.Goals as goal

pub loop-i-preserved : goal.loop-i-preserved
loop-i-preserved c =
    pieces_more (csv_levels c.args.table.now c.args.function.now c.args.front.now) c.loop-i.i c.args.text.now.items c.loop-i.text.items c.write_levels.new.text.items c.loop-i.invariant c.in_ok-write_levels.ensures
