-- The line of one level more.
use Rattle.ror_show_forms.specs.FunctionCsv.{csv_level}
use Rattle.ror_show_ground.proofs.Tests.{pieces_more}
use Rattle.ror_show_forms.proofs.function_csv.write_lower_levels.Goals as goal

pub loop-r-preserved : goal.loop-r-preserved
loop-r-preserved c =
    pieces_more (csv_level c.args.table.now c.args.function.now c.args.front.now c.args.i) c.loop-r.r c.args.text.now.items c.loop-r.text.items c.write_level.new.text.items c.loop-r.invariant c.in_ok-write_level.ensures
